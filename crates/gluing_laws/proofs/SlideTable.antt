-- The table of the third Reidemeister move, computed.
use Rattle.std.proofs.Common.{◌≡◌, ℕ, ◌+◌, ◌<◌, ◌≤◌, Bool, true, false, not, ◌||◌, refl, arith}
use Rattle.std.specs.List.{range_with_len, list_all}
use Rattle.gluing_laws.specs.Slides.{inside_terms, triangle_before, triangle_after, is_slidable}
use Rattle.kh_types.proofs.RangeCounts.{list_all-at}
use Rattle.gluing_laws.proofs.Tallies.{slide_keeps_sum, have_one_sum}

all_slots : list_all (λ p. list_all (λ q. list_all (λ r. slide_keeps_sum p q r) (range_with_len 0 4)) (range_with_len 0 4)) (range_with_len 0 4)
    ≡ true
all_slots = refl

pub slide_keeps_sum-all : (p q r : ℕ) → p < 4 → q < 4 → r < 4 → slide_keeps_sum p q r ≡ true
slide_keeps_sum-all p q r p_below q_below r_below =
    list_all-at (λ z. slide_keeps_sum p q z) 0 4 r
    (list_all-at (λ y. list_all (λ z. slide_keeps_sum p y z) (range_with_len 0 4)) 0 4 q
    (list_all-at (λ x. list_all (λ y. list_all (λ z. slide_keeps_sum x y z) (range_with_len 0 4)) (range_with_len 0 4)) 0 4 p
    all_slots (omega arith) (omega arith))
    (omega arith) (omega arith))
    (omega arith) (omega arith)

-- a triangle of a third Reidemeister move has one sum before and after
pub have_one_sum-slide : (p q r : ℕ) → p < 4 → q < 4 → r < 4 → is_slidable p q r ≡ true
    → have_one_sum (inside_terms (triangle_before p q r)) (inside_terms (triangle_after p q r)) ≡ true
have_one_sum-slide p q r p_below q_below r_below slidable =
    other_true (is_slidable p q r) (have_one_sum (inside_terms (triangle_before p q r)) (inside_terms (triangle_after p q r)))
    (slide_keeps_sum-all p q r p_below q_below r_below) slidable
  where
    other_true : (a b : Bool) → (not a || b) ≡ true → a ≡ true → b ≡ true
    other_true true b either is = either
    other_true false b either is = absurd (grind (arith, is))
