use Rattle.std.proofs.Common.{◌*◌, ◌^◌, length, refl}
use Rattle.kh_types.specs.Products.{sum_below}
use Rattle.surface_laws.specs.Points.{discs, circles}
use Rattle.surface_laws.proofs.Weights.{exact}
use Rattle.dotted_maps.specs.Terms.{entry}
use Rattle.dotted_maps.specs.Composition.{composed}
use Rattle.dotted_maps.proofs.Composed.{composed-sums}
use Rattle.dotted_maps.proofs.laws.compositions_add_up.Goals as goal

pub returns-clause-sum : goal.returns-clause-sum
returns-clause-sum c p h k points m n o w dots others before after cancels placed first second whole inside =
    composed-sums p h k points m n o w dots others before after cancels
    record { placed = placed; first = first; second = second; whole = whole; inside = inside }

pub returns-clause-plain : goal.returns-clause-plain
returns-clause-plain c points m n o w dots others before after placed first second whole inside =
    exact
    (sum_below (2 ^ length (circles points n w))
    (λ between. entry 0 0 points m n w dots before between * entry 0 0 points n o w others between after))
    (sum_below (2 ^ length (discs points m o))
    (λ kept. composed 0 0 points m n o dots others kept * entry 0 0 points m o w kept before after))
    (composed-sums 0 0 0 points m n o w dots others before after refl
    record { placed = placed; first = first; second = second; whole = whole; inside = inside })
