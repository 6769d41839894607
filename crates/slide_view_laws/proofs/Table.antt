-- The table of the eight states of each triangle, computed.
use Rattle.std.proofs.Common.{◌≡◌, ℕ, ◌<◌, true, refl, arith}
use Rattle.std.specs.List.{range_with_len, list_all}
use Rattle.kh_types.proofs.RangeCounts.{list_all-at}
use Rattle.slide_view_laws.proofs.Tests.{slide_turns, has_kinds}

all_slots : list_all (λ p. list_all (λ q. list_all (λ r. slide_turns p q r) (range_with_len 0 4)) (range_with_len 0 4)) (range_with_len 0 4)
    ≡ true
all_slots = refl

pub slide_turns-all : (p q r : ℕ) → p < 4 → q < 4 → r < 4 → slide_turns p q r ≡ true
slide_turns-all p q r p_below q_below r_below =
    list_all-at (λ z. slide_turns p q z) 0 4 r
    (list_all-at (λ y. list_all (λ z. slide_turns p y z) (range_with_len 0 4)) 0 4 q
    (list_all-at (λ x. list_all (λ y. list_all (λ z. slide_turns x y z) (range_with_len 0 4)) (range_with_len 0 4)) 0 4 p
    all_slots (omega arith) (omega arith))
    (omega arith) (omega arith))
    (omega arith) (omega arith)

all_kinds : list_all (λ p. list_all (λ q. list_all (λ r. has_kinds p q r) (range_with_len 0 4)) (range_with_len 0 4)) (range_with_len 0 4)
    ≡ true
all_kinds = refl

pub has_kinds-all : (p q r : ℕ) → p < 4 → q < 4 → r < 4 → has_kinds p q r ≡ true
has_kinds-all p q r p_below q_below r_below =
    list_all-at (λ z. has_kinds p q z) 0 4 r
    (list_all-at (λ y. list_all (λ z. has_kinds p y z) (range_with_len 0 4)) 0 4 q
    (list_all-at (λ x. list_all (λ y. list_all (λ z. has_kinds x y z) (range_with_len 0 4)) (range_with_len 0 4)) 0 4 p
    all_kinds (omega arith) (omega arith))
    (omega arith) (omega arith))
    (omega arith) (omega arith)
