use Rattle.std.proofs.Common.{None, Some, ap, refl}
use Rattle.std.specs.Prelude.{nat_le}
use Rattle.std.proofs.lemmas.Int.{to_z-of_z}
use Rattle.cube_signs.proofs.ShapeLemmas.{has_degree-given}
use Rattle.cube_signs.proofs.shape.Shape.has_degree.Goals as goal

pub returns-in-Some : goal.returns-in-Some
returns-in-Some c =
    has_degree-given c.args.self c.args.j (Some c.in-Some.weight) _ (simp (to_z-of_z, c.ranges.j) at c.in-Some.ensures)
    (ap (λ limit. nat_le c.in-Some.weight limit) c.from.ensures)

pub returns-in-None : goal.returns-in-None
returns-in-None c =
    has_degree-given c.args.self c.args.j None _ (simp (to_z-of_z, c.ranges.j) at c.in-None.ensures) refl
