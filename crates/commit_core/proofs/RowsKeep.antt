-- What stays when a worker holds something else, and when a history has one more pivot, stays along each row of the table.
use Rattle.std.proofs.Common.{◌≡◌, ℕ, ◌-◌, ◌∙◌, ℤ, length, refl, sym, subst, Option, None, Some, length-set}
use Rattle.kh_types.specs.Complex.{Pivot}
use Rattle.commit_core.specs.States.{Holding, CoreState, holding_of, with_commit, with_held}
use Rattle.commit_core.specs.Rows.{Commits, Forgets, ComesTo, LooksAt}
use Rattle.commit_core.specs.declared.event.Event.{Event}
use Rattle.commit_core.specs.declared.event.Event.TheVariants.{Look, Commit, Forget}
use Rattle.commit_core.specs.declared.answer.Answer.{Answer}
use Rattle.commit_core.specs.declared.answer.Answer.TheVariants.{Looked, Zero, Committed, Stale, Idle, Forgot, NoBlock}

module _ (P : CoreState → Type 0) (by_held : (state : CoreState) (worker : ℕ) (held : Option Holding) → P state → P (with_held state worker held))
    (by_commit : (state : CoreState) (j : ℤ) (pivot : Pivot) → P state → P (with_commit state j pivot)) where
  given_up : (before after : CoreState) (worker : ℕ) → P before → after ≡ with_held before worker None → P after
  given_up before after worker was is = subst P (sym is) (by_held before worker None was)

  keep-look : (p : ℕ) (before : CoreState) (worker : ℕ) (j : ℤ) (answer : Answer) (after : CoreState) → P before
      → LooksAt p before worker j answer after → P after
  keep-look p before worker j NoBlock after was row = given_up before after worker was row.1
  keep-look p before worker j Zero after was row = given_up before after worker was row.3
  keep-look p before worker j (Looked version) after was (held, there, more, now, (copy, is, is_after)) =
      subst P (sym is_after) (by_held before worker (Some (holding_of j copy)) was)
  keep-look p before worker j (Committed version) after was row = absurd row
  keep-look p before worker j (Stale looked now) after was row = absurd row
  keep-look p before worker j Idle after was row = absurd row
  keep-look p before worker j Forgot after was row = absurd row

  keep-commit : (before : CoreState) (worker : ℕ) (answer : Answer) (after : CoreState) → P before → Commits before worker answer after → P after
  keep-commit before worker Idle after was row = subst P (sym row.1) was
  keep-commit before worker (Stale looked now) after was row = given_up before after worker was row.7
  keep-commit before worker (Committed version) after was row =
      let pivot = row.0.copy.parts.pivot in
      given_up (with_commit before row.0.block pivot) after worker (by_commit before row.0.block pivot was) row.6
  keep-commit before worker NoBlock after was row = absurd row
  keep-commit before worker Zero after was row = absurd row
  keep-commit before worker (Looked version) after was row = absurd row
  keep-commit before worker Forgot after was row = absurd row

  keep-forget : (before : CoreState) (worker : ℕ) (answer : Answer) (after : CoreState) → P before → Forgets before worker answer after → P after
  keep-forget before worker Forgot after was row = given_up before after worker was row.1
  keep-forget before worker Idle after was row = subst P (sym row.1) was
  keep-forget before worker NoBlock after was row = absurd row
  keep-forget before worker Zero after was row = absurd row
  keep-forget before worker (Looked version) after was row = absurd row
  keep-forget before worker (Stale looked now) after was row = absurd row
  keep-forget before worker (Committed version) after was row = absurd row

  pub rows-keep : (p : ℕ) (before : CoreState) (event : Event) (answer : Answer) (after : CoreState) → P before
      → ComesTo p before event answer after → P after
  rows-keep p before (Look worker j hint) answer after was row = keep-look p before worker j answer after was row
  rows-keep p before (Commit worker) answer after was row = keep-commit before worker answer after was row
  rows-keep p before (Forget worker) answer after was row = keep-forget before worker answer after was row

-- there are as many workers as before
pub workers-row : (p : ℕ) (before : CoreState) (event : Event) (answer : Answer) (after : CoreState) → ComesTo p before event answer after
    → length after.workers ≡ length before.workers
workers-row p before event answer after row =
    rows-keep (λ state. length state.workers ≡ length before.workers)
    (λ state worker held was. length-set state.workers (worker - 1) held ∙ was) (λ state j pivot was. was) p before event answer after
    refl row
