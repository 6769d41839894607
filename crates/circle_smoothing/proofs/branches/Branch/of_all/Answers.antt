use Rattle.std.proofs.Common.{List, ℕ, sym, subst, refl}
use Rattle.kh_types.proofs.JoinedClasses.{IsNamed-range}
use Rattle.circle_smoothing.specs.Branches.{IsBranch}
use Rattle.circle_smoothing.specs.declared.branches.Branch.{Branch}
use Rattle.circle_smoothing.specs.declared.branches.TheConstants.{MEMBERS}
use Rattle.circle_smoothing.proofs.branches.Branch.of_all.Goals as goal

abbrev made : List ℕ → Branch
made classes = record { ones = 0; joins = 0; classes = classes }

pub returns-clause-branch : goal.returns-clause-branch
returns-clause-branch c =
    subst (λ (classes : List ℕ). IsBranch (made classes)) (sym c.numbers.ensures)
    (record { named = IsNamed-range MEMBERS; joins = refl })
