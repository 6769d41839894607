use Rattle.std.proofs.lemmas.Bool.Decides.{nat_tests}
use Rattle.std.proofs.Common.{arith, ◌≡◌, ℕ, List, length}
use Rattle.std.proofs.lemmas.List.Elements.{recursion_from_All}
use Rattle.kh_types.proofs.Heads.{HasNoSingleArcs-accepted}
use Rattle.orient_arcs.proofs.OwnNumbers.{own-renumbered}
use Rattle.orient_arcs.proofs.laws.renumbered.own_numbers_stay.Goals as goal

pub returns-clause-directed : goal.returns-clause-directed
returns-clause-directed c = grind (arith, nat_tests, own-renumbered, recursion_from_All)

pub returns-clause-accepted : goal.returns-clause-accepted
returns-clause-accepted c = λ code holds four.
    own-renumbered code (HasNoSingleArcs-accepted code holds).0 (HasNoSingleArcs-accepted code holds).1
    (recursion_from_All (λ (slots : List ℕ). length slots ≡ 4) code.crossings four)
