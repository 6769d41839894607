-- Codes whose crossings are those of another, each turned by some slots, with other numbers on the arcs.
use Rattle.std.proofs.Common.{arith}
use Rattle.std.specs.Prelude.{◌≡◌, ℕ, ◌⊎◌, ◌+◌, ◌%◌, ◌<◌, ◌≤◌, length}
use Rattle.kh_types.specs.Code.{Code, IsCrossing, arc_count}
use Rattle.kh_types.specs.Directions.{plus_count, minus_count}
use Rattle.kh_types.specs.Edges.{arc_at_slot}

-- other numbers for the names 1 to `most`, and the way back
pub record IsRenaming (most : ℕ) (f back : ℕ → ℕ) : Type 0 where
  pub positive : (x : ℕ) → 1 ≤ x → x ≤ most → 1 ≤ f x
  pub within : (x : ℕ) → 1 ≤ x → x ≤ most → f x ≤ most
  pub back_positive : (x : ℕ) → 1 ≤ x → x ≤ most → 1 ≤ back x
  pub back_within : (x : ℕ) → 1 ≤ x → x ≤ most → back x ≤ most
  pub there : (x : ℕ) → 1 ≤ x → x ≤ most → back (f x) ≡ x
  pub here : (x : ℕ) → 1 ≤ x → x ≤ most → f (back x) ≡ x

pub IsRenaming-back : (most : ℕ) (f back : ℕ → ℕ) → IsRenaming most f back → IsRenaming most back f
IsRenaming-back most f back is = omega arith

-- the crossings of a code, each turned by some slots: the mirror turns them by one, one way or the other, the reversal by two
pub record IsRotated (by f back : ℕ → ℕ) (old new : Code) : Type 0 where
  pub size : length new.crossings ≡ length old.crossings
  pub loops : new.loops ≡ old.loops
  pub names : IsRenaming (arc_count old.crossings + old.loops) f back
  pub few : (crossing : ℕ) → by crossing < 4
  pub arcs : (crossing slot : ℕ) → IsCrossing old.crossings crossing → slot < 4
      → arc_at_slot new crossing ((slot + by crossing) % 4) ≡ f (arc_at_slot old crossing slot)

-- the same where each is turned by one slot, one way or the other, and as many are positive as were negative
pub record IsTurned (f back : ℕ → ℕ) (old new : Code) : Type 0 where
  pub size : length new.crossings ≡ length old.crossings
  pub loops : new.loops ≡ old.loops
  pub names : IsRenaming (arc_count old.crossings + old.loops) f back
  pub turned : (crossing : ℕ) → IsCrossing old.crossings crossing
      → (by : ℕ) × ((by ≡ 1) ⊎ (by ≡ 3))
      × ((slot : ℕ) → slot < 4 → arc_at_slot new crossing ((slot + by) % 4) ≡ f (arc_at_slot old crossing slot))
  pub signs : plus_count new.crossings ≡ minus_count old.crossings
