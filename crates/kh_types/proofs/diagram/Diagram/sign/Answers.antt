-- Both signs are read back from eight bits as they are.
use Rattle.std.proofs.lemmas.Bool.Decides.{nat_tests}
use Rattle.std.proofs.Common.{arith, ◌≡◌, ap, ◌∙◌, if◌then◌else◌, ℤ, pos, neg_ℤ, Bool, to_z, of_z}
use Rattle.std.specs.Prelude.{List, ℕ}
use mir.Syntax.{w8}
use Rattle.kh_types.specs.Directions.{is_positive}
use Rattle.kh_types.proofs.diagram.Diagram.sign.Goals as goal

read_back : (b : Bool) → to_z w8 (of_z w8 (if b then pos 1 else neg_ℤ (pos 1))) ≡ (if b then pos 1 else neg_ℤ (pos 1))
read_back b = grind (arith, nat_tests)

pub returns : goal.returns
returns c =
    ap (λ (z : ℤ). to_z w8 (of_z w8 z)) c.sign.ensures
    ∙ read_back c.is_positive.result
    ∙ ap (λ (b : Bool). if b then pos 1 else neg_ℤ (pos 1)) c.is_positive.ensures
    ∙ ap (λ (crossings : List (List ℕ)). if is_positive crossings c.args.crossing then pos 1 else neg_ℤ (pos 1)) c.crossings.ensures.crossings
