use Rattle.sparse_block.proofs.KeptLemmas.{complex-seen, some-seen, end-seen, counts-seen, names-seen}
use Rattle.sparse_block.proofs.laws.complex_laws.Goals as goal

pub returns : goal.returns
returns g c =
    record {
      complex = complex-seen c.complex.invariant c.complex.view_is;
      some = some-seen c.complex.invariant c.complex.view_is;
      end = end-seen c.complex.invariant c.complex.view_is;
      counts = counts-seen c.complex.invariant c.complex.view_is;
      names = names-seen c.complex.invariant c.complex.view_is;
    }
