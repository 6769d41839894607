-- What a patch holds beside the look.
use Rattle.std.specs.Prelude.{◌≡◌, ℕ, ◌⊎◌, length, IfNone, IfSome, Option}
use Rattle.cancel_step.specs.Copies.{Copied, WasPatched}
use Rattle.cancel_step.specs.declared.patched.Update.{Update}

-- the pivot is the only entry of its row, or of its column
abbrev pub IsAlone : Copied → Type 0
IsAlone parts = (length parts.columns ≡ 1) ⊎ (length parts.rows ≡ 1)

-- the copied lines as they are after the cancellation, and nothing only where the pivot stands alone
pub record IsUpdated (p : ℕ) (parts : Copied) (update : Option Update) : Type 0 where
  pub alone : IfNone update (IsAlone parts)
  pub updated : IfSome update (λ made. WasPatched p parts made.columns.items made.rows.items)
