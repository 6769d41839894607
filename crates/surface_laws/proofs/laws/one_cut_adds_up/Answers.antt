use Rattle.surface_laws.proofs.Unions.{place-below}
use Rattle.surface_laws.proofs.OneCut.{value-tied, IsClosed-tied}
use Rattle.surface_laws.proofs.laws.one_cut_adds_up.Goals as goal

pub returns : goal.returns
returns c = record {
  closed = λ surface a b placed has_a has_b closed. IsClosed-tied surface a 0 b 2 has_a has_b closed;
  sum = λ p h k surface a b none placed has_a has_b closed.
      value-tied p h k surface a b none placed.joins (place-below surface a placed has_a) (place-below surface b placed has_b) has_a has_b closed;
}
