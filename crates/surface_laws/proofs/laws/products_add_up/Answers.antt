use Rattle.surface_laws.proofs.TwoSides.{value-glued_two, IsClosed-glued_two}
use Rattle.surface_laws.proofs.laws.products_add_up.Goals as goal

pub returns : goal.returns
returns c = record {
  closed = λ first second circles label placed other between closed other_closed.
      IsClosed-glued_two first second circles label
      record { placed = placed; other = other; between = between; closed = closed; other_closed = other_closed };
  sum = λ p h k first second circles label none placed other between closed other_closed.
      value-glued_two p h k first second circles label none
      record { placed = placed; other = other; between = between; closed = closed; other_closed = other_closed };
}
