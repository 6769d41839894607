-- What each step on a lock's table tells the seat that takes it: m is what the seat had before it, its view and the slots out with it.
use Rattle.std.specs.Prelude.{◌≡◌, ◌≢◌, ℕ, ◌<◌, ◌^◌, List, [], ◌∷◌, length, Some}
use mathlib.Core.List.{IsPrefix}
use Rattle.atomic_table.specs.Table.{Me, Step}
use Rattle.version_lock.specs.declared.rule.View.{View}
use Rattle.version_lock.specs.Places.{Each, IsAscending}
use Rattle.version_lock.specs.Views.{holding, grown, freed}

module _ {S O E : Type 0} where
  -- the version with the turn held is the length of the history
  abbrev pub measured : Step S → Me S (View O E) → ℕ → Me S (View O E) → Type 0
  measured st m found m' = (m' ≡ m) × ((log : List E) → m.0.held ≡ Some log → found ≡ length log)

  -- a look at the rule: the prefixes that the view has are those of one history, its places ascend, and its share is small
  abbrev pub affirmed : Step S → Me S (View O E) → ℕ → Me S (View O E) → Type 0
  affirmed st m found m' = (m' ≡ m) × ((log : List E) × Each (λ l. IsPrefix l log) m.0.prefixes) × IsAscending m.0.mine × (m.0.share < 2 ^ 32)

  -- the turn was given up with the value, and the seat has seen its history
  abbrev pub released : Step S → Me S (View O E) → ℕ → Me S (View O E) → Type 0
  released st m found m' = (log : List E) → m.0.held ≡ Some log → m' ≡ (freed m.0 log, [])

  -- the turn was given up with the value, and the seat has seen no more than before
  abbrev pub withdrawn : Step S → Me S (View O E) → ℕ → Me S (View O E) → Type 0
  withdrawn st m found m' = m' ≡ (freed m.0 m.0.seen, [])

module _ {S O E : Type 0} (history_of : S → List E) where
  -- the entry that the value out with the seat has gained stands in the history, at a place of this seat's
  abbrev pub committed : Step S → Me S (View O E) → ℕ → Me S (View O E) → Type 0
  committed st m found m' = (log : List E) (value : S) → m.0.held ≡ Some log → m.1 ≡ (0, value) ∷ [] → m' ≡ (grown m.0 (length log) (history_of value), m.1)

module _ {S O E : Type 0} (origin_of : S → O) (history_of : S → List E) where
  -- the seat took the turn and the value, whose history begins with what the seat had seen
  abbrev pub Took : Me S (View O E) → Me S (View O E) → Type 0
  Took m m' = (value : S) × (m' ≡ (holding m.0 (history_of value), (0, value) ∷ []))
      × (m.0.origin ≡ Some (origin_of value)) × IsPrefix m.0.seen (history_of value) × Each (λ place. place < length m.0.seen) m.0.mine

  -- a try at the turn: it took it where the word was 0, and else nothing changed
  abbrev pub tried : Step S → Me S (View O E) → ℕ → Me S (View O E) → Type 0
  tried st m found m' = (found ≡ 0 → Took m m') × (found ≢ 0 → m' ≡ m)
