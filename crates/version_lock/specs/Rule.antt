-- The rule of a lock: what holds of its two words, of the value at home and of all views between any two steps.
use Rattle.std.specs.Prelude.{◌≡◌, ℕ, ◌<◌, ◌≤◌, ◌^◌, ◌⊎◌, List, [], ◌∷◌, length, Some, IfSome}
use mathlib.Core.Option.{some}
use mathlib.Core.List.{IsPrefix}
use lib.ListN.{get_elem?}
use Rattle.atomic_table.specs.Table.{State}
use Rattle.version_lock.specs.declared.rule.View.{View}
use Rattle.version_lock.specs.Places.{total, Each, IsAscending, copies}
use Rattle.version_lock.specs.Views.{one_held, latest, spent}

module _ {O E : Type 0} where
  -- 1 where the view holds the turn
  abbrev pub turn_of : View O E → ℕ
  turn_of v = one_held v.held

  abbrev pub share_of : View O E → ℕ
  share_of v = v.share

  -- how often the place stands among the view's own
  abbrev pub owns : ℕ → View O E → ℕ
  owns place v = copies place v.mine

  -- what a view knows of the history: the origin, a prefix, all of it while it holds the turn, and places of its own below that
  pub record Knows (origin : O) (first : ℕ) (history : List E) (v : View O E) : Type 0 where
    pub origin_is : v.origin ≡ Some origin
    pub share : 1 ≤ v.share
    pub seen : IsPrefix v.seen history
    pub least : first ≤ length v.seen
    pub prefixes : Each (λ log. IsPrefix log history) v.prefixes
    pub held : IfSome v.held (λ log. log ≡ history)
    pub ascending : IsAscending v.mine
    pub below : Each (λ place. place < length (latest v.held v.seen)) v.mine

  -- each place from the first to the end stands in one view, once, and no other place stands in any
  pub record Dealt (first end : ℕ) (views : List (View O E)) : Type 0 where
    pub within : (place : ℕ) → first ≤ place → place < end → total (owns place) views ≡ 1
    pub before : (place : ℕ) → place < first → total (owns place) views ≡ 0
    pub after : (place : ℕ) → end ≤ place → total (owns place) views ≡ 0

  -- the value is at home, with this origin and this history
  abbrev pub IsAtHome : {S : Type 0} → (S → O) → (S → List E) → O → List E → State S (View O E) → Type 0
  IsAtHome {S} origin_of history_of origin history s = (value : S) × (s.homes ≡ some value ∷ []) × (origin_of value ≡ origin) × (history_of value ≡ history)

  -- There is one history. The words are the turn, 1 while one view holds it and else 0, and the history's length. While the turn is free the
  -- value is at home with that history. The shares of all views add up to the seats, the places since the first are dealt to them, and each
  -- view that no join has spent knows the history
  pub record LockRule {S : Type 0} (origin_of : S → O) (history_of : S → List E) (origin : O) (first seats : ℕ) (s : State S (View O E)) : Type 0 where
    pub history : List E
    pub turn : ℕ
    pub words : s.words ≡ turn ∷ length history ∷ []
    pub one_turn : total turn_of s.views ≡ turn
    pub free_or_taken : turn ≤ 1
    pub at_home : turn ≡ 0 → IsAtHome origin_of history_of origin history s
    pub shares : total share_of s.views ≡ seats
    pub few : seats < 2 ^ 32
    pub dealt : Dealt first (length history) s.views
    pub each_view : (seat : ℕ) (v : View O E) → get_elem? s.views seat ≡ some v → (v ≡ spent) ⊎ Knows origin first history v
