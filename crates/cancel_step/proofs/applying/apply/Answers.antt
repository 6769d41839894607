use Rattle.std.proofs.Common.{ℕ, subst}
use Rattle.std.proofs.lemmas.Bool.{false≢true}
use Rattle.cancel_step.specs.Copies.{Copied}
use Rattle.cancel_step.specs.Foreign.{ShowsAt}
use Rattle.cancel_step.proofs.applying.apply.Goals as goal

pub apply_fitting-requires : goal.apply_fitting-requires
apply_fitting-requires g c foreign =
    let NoneShows : Copied → Type 0 = λ parts. (n : ℕ) → ShowsAt parts c.args.complex.now.complex n → ⊥ in
    subst NoneShows c.patch.view_is c.in_default.ensures foreign.0 foreign.1

pub returns-clause-foreign : goal.returns-clause-foreign
returns-clause-foreign g c =
    let NoneShows : Copied → Type 0 = λ parts. (n : ℕ) → ShowsAt parts c.args.complex.now.complex n → ⊥ in
    let none = subst NoneShows c.patch.view_is c.in_default.ensures in (
      λ differ. absurd (false≢true differ),
      λ foreign. absurd (none foreign.0 foreign.1),
    )
