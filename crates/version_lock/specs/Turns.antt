-- What holds within a turn at the value, and what a look and a commit in a turn of their own come to.
use Rattle.std.specs.Prelude.{◌≡◌, ℕ, ◌<◌, List, [], ◌∷◌, ◌++◌, length, Some}
use mathlib.Core.List.{IsPrefix}
use Rattle.atomic_table.specs.Table.{Me}
use Rattle.version_lock.specs.declared.rule.View.{View}
use Rattle.version_lock.specs.declared.commit_seen.CommitSeen.{CommitSeen}
use Rattle.version_lock.specs.declared.commit_seen.CommitSeen.TheVariants.{Committed, Stale}
use Rattle.version_lock.specs.Views.{freed, entered}

-- the slot 0 alone is out with the seat, and P holds of the value in it
abbrev pub Holds : {S V : Type 0} → (S → Type 0) → Me S V → Type 0
Holds {S} P m = (value : S) × (m.1 ≡ (0, value) ∷ []) × P value

-- the value out with the seat has one entry more than the history that the seat holds, whose length is the version
abbrev pub HasGrown : {S O E : Type 0} → (S → List E) → ℕ → Me S (View O E) → Type 0
HasGrown {S} {O} {E} history_of version m = (log : List E) × (e : E) × (m.0.held ≡ Some log) × (version ≡ length log) × Holds (λ value. history_of value ≡ log ++ e ∷ []) m

module _ {O E : Type 0} where
  -- the seat has seen this history, which begins with what it had seen, and is else as before
  abbrev pub Saw : View O E → List E → View O E → Type 0
  Saw v log w = (w ≡ freed v log) × IsPrefix v.seen log

  -- the entry went to the end of what had been seen, at a place of this seat's; or the history was longer, and was seen
  abbrev pub Commits : E → View O E → CommitSeen → View O E → Type 0
  Commits entry v (Committed version) w = (w ≡ entered v entry) × (version ≡ length w.seen)
  Commits entry v (Stale looked now) w = Saw v w.seen w × (looked ≡ length v.seen) × (now ≡ length w.seen) × (looked < now)
