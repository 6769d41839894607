use Rattle.std.proofs.lemmas.Bool.Decides.{nat_tests}
use Rattle.std.proofs.Common.{arith}
use Rattle.std.proofs.Common.{◌≡◌, ℕ, List, length}
use Rattle.std.proofs.lemmas.List.Elements.{recursion_from_All}
use Rattle.diagram_moves.proofs.SlidesBack.{lone_slides_are_undone, slid_from-back, slides_are_undone}
use Rattle.diagram_moves.proofs.taken_back.slides_are_taken_back.Goals as goal

pub returns-clause-across : goal.returns-clause-across
returns-clause-across c = λ code first second third slot holds four is_first is_second is_third found.
    slid_from-back code first second third slot holds is_first is_second is_third found
    (recursion_from_All (λ (slots : List ℕ). length slots ≡ 4) code.crossings four)

pub returns-clause-moved : goal.returns-clause-moved
returns-clause-moved = grind (arith, nat_tests, slides_are_undone, recursion_from_All)

pub returns-clause-lone : goal.returns-clause-lone
returns-clause-lone c = λ code new first second third slot holds four.
    lone_slides_are_undone code new first second third slot holds
    (recursion_from_All (λ (slots : List ℕ). length slots ≡ 4) code.crossings four)
