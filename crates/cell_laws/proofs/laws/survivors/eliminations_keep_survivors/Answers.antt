use Rattle.cell_laws.proofs.LeftFiltered.{filtered-left, survivors-left_any, survivors-left_entry}
use Rattle.cell_laws.proofs.laws.survivors.eliminations_keep_survivors.Goals as goal

pub returns : goal.returns
returns g c =
    record {
      filtered = λ p cells pairs rest field filtered listed are shortest. filtered-left p cells pairs rest listed field filtered are shortest;
      survivors = λ p cells pairs rest field filtered listed are shortest i t.
          survivors-left_any p cells pairs rest listed field filtered are shortest i t;
      entry = survivors-left_entry;
    }
