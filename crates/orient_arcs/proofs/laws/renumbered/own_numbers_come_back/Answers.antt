use Rattle.std.proofs.lemmas.Bool.Decides.{nat_tests}
use Rattle.std.proofs.Common.{arith, ◌≡◌, ℕ, List, length}
use Rattle.std.proofs.lemmas.List.Elements.{recursion_from_All}
use Rattle.kh_types.proofs.Heads.{HasNoSingleArcs-accepted}
use Rattle.orient_arcs.proofs.AscendingNames.{KeepsComponents-ascending}
use Rattle.orient_arcs.proofs.KeptOrder.{own-crossings}
use Rattle.orient_arcs.proofs.laws.renumbered.own_numbers_come_back.Goals as goal

pub returns-clause-crossings : goal.returns-clause-crossings
returns-clause-crossings c = λ f code parts holds four paired named keeps.
    own-crossings code (HasNoSingleArcs-accepted code holds).0 (HasNoSingleArcs-accepted code holds).1 parts paired f named keeps
    (recursion_from_All (λ (slots : List ℕ). length slots ≡ 4) code.crossings four)

pub returns-clause-ascending : goal.returns-clause-ascending
returns-clause-ascending c = grind (arith, nat_tests, KeepsComponents-ascending, HasNoSingleArcs-accepted)
