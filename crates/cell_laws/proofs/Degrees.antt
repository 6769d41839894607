-- What the tests of degrees tell, and which tests suit a shortest entry.
use Rattle.std.proofs.lemmas.Bool.Decides.{nat_tests}
use Rattle.std.proofs.Common.{◌≡◌, ◌≢◌, ℕ, ◌+◌, ◌∙◌, ℤ, pos, ◌+ℤ◌, length, refl, sym, ap, ap₂, arith, Bool, true, false, not, cond}
use Rattle.std.specs.Prelude.{◌&&◌, ◌≤ℤ◌, ◌<ℤ◌, int_le, int_lt}
use Rattle.std.specs.List.{Contains}
use Rattle.std.proofs.lemmas.Int.{ints}
use Rattle.std.specs.Ordering.{int_eq}
use Rattle.std.proofs.lemmas.List.Sums.{length-filter}
use Rattle.kh_types.proofs.ListSums.{sum_by-alike, sum_by-plus}
use Rattle.cell_laws.specs.Cells.{Cells, cells_at, has_both}
use Rattle.cell_laws.specs.Filtered.{AreFiltered, cells_from, has_degree}
use Rattle.cell_laws.specs.Shortest.{IsShortest}
use Rattle.cell_laws.proofs.TestedRanks.{Suit}

pub le-decides : (x y : ℤ) → int_le x y ≡ true → x ≤ℤ y
le-decides x y passes = grind (arith, nat_tests, ints)

pub le-from : (x y : ℤ) → x ≤ℤ y → int_le x y ≡ true
le-from x y le = grind (arith, nat_tests, ints)

pub lt-decides : (x y : ℤ) → int_lt x y ≡ true → x <ℤ y
lt-decides x y passes = grind (arith, nat_tests, ints)

pub lt-from : (x y : ℤ) → x <ℤ y → int_lt x y ≡ true
lt-from x y less = grind (arith, nat_tests, ints)

pub lt-not_le : (x y : ℤ) → int_lt x y ≡ not (int_le y x)
lt-not_le x y = grind (arith, nat_tests, ints)

pub degree-decides : {A : Type 0} (cells : Cells A) (i : ℤ) (x : A) → has_degree cells i x ≡ true → cells.homological x ≡ i
degree-decides cells i x passes = grind (arith, nat_tests)

pub degree-from : {A : Type 0} (cells : Cells A) (i : ℤ) (x : A) → cells.homological x ≡ i → has_degree cells i x ≡ true
degree-from cells i x is = grind (arith, nat_tests)

at_odds : (b : Bool) → b ≡ true → b ≡ false → ⊥
at_odds b is_true is_false = cc

pub both_parts : (a b : Bool) → (a && b) ≡ true → (a ≡ true) × (b ≡ true)
both_parts true b both = (refl, both)
both_parts false b both = absurd (at_odds false both refl)

pub both_from : (a b : Bool) → a ≡ true → b ≡ true → (a && b) ≡ true
both_from true b first second = second
both_from false b first second = first

-- from its degree on a cell passes the test of its quantum degree too, or not
abbrev pub is_from : {A : Type 0} → Cells A → ℤ → ℤ → A → Bool
is_from cells i t x = has_degree cells i x && int_le t (cells.quantum x)

abbrev pub is_below : {A : Type 0} → Cells A → ℤ → ℤ → A → Bool
is_below cells i t x = has_degree cells i x && int_lt (cells.quantum x) t

from-or_at : (s : Bool) (t q : ℤ)
    → cond (s && int_le t q) 1 0 ≡ cond (s && int_eq q t) 1 0 + cond (s && int_le (t +ℤ pos 1) q) 1 0
from-or_at s t q = grind (arith, nat_tests, ints)

-- the cells from t on: those at t, and those from t + 1 on
pub lengths-next : {A : Type 0} (cells : Cells A) (i t : ℤ)
    → length (cells_from cells i t) ≡ length (cells_at cells i t) + length (cells_from cells i (t +ℤ pos 1))
lengths-next cells i t =
    length-filter (is_from cells i t) cells.list
    ∙ sum_by-alike (λ x. cond (is_from cells i t x) 1 0)
    (λ x. cond (has_both cells i t x) 1 0 + cond (is_from cells i (t +ℤ pos 1) x) 1 0)
    (λ x. from-or_at (has_degree cells i x) t (cells.quantum x)) cells.list
    ∙ sum_by-plus (λ x. cond (has_both cells i t x) 1 0) (λ x. cond (is_from cells i (t +ℤ pos 1) x) 1 0) cells.list
    ∙ ap₂ (λ m n. m + n) (sym (length-filter (has_both cells i t) cells.list))
    (sym (length-filter (is_from cells i (t +ℤ pos 1)) cells.list))

module _ {A : Type 0} (p : ℕ) (cells : Cells A) (filtered : AreFiltered p cells) (pair : A × A)
    (has_tail : Contains cells.list pair.0) (has_head : Contains cells.list pair.1)
    (some : cells.coefficient pair.0 pair.1 ≢ 0) where
  abbrev c : A → A → ℕ
  c x y = cells.coefficient x y

  -- the degrees of what leads to the head, and of that to which the tail leads
  degree-before : (i : ℤ) (x : A) → Contains cells.list x → c x pair.1 ≢ 0 → cells.homological x ≡ cells.homological pair.0
  degree-before i x has_x to_head =
      omega (arith, ints, filtered.homological x pair.1 has_x has_head to_head, filtered.homological pair.0 pair.1 has_tail has_head some)

  degree-behind : (i : ℤ) (y : A) → Contains cells.list y → c pair.0 y ≢ 0 → cells.homological y ≡ cells.homological pair.1
  degree-behind i y has_y from_tail =
      filtered.homological pair.0 y has_tail has_y from_tail ∙ sym (filtered.homological pair.0 pair.1 has_tail has_head some)

  pub head-next : (i : ℤ) → has_degree cells i pair.0 ≡ true → has_degree cells (i +ℤ pos 1) pair.1 ≡ true
  head-next i passes =
      degree-from cells (i +ℤ pos 1) pair.1
      (filtered.homological pair.0 pair.1 has_tail has_head some ∙ ap (λ (d : ℤ). d +ℤ pos 1) (degree-decides cells i pair.0 passes))

  pub tail-before : (i : ℤ) → has_degree cells (i +ℤ pos 1) pair.1 ≡ true → has_degree cells i pair.0 ≡ true
  tail-before i passes =
      degree-from cells i pair.0
      (omega (arith, ints, filtered.homological pair.0 pair.1 has_tail has_head some, degree-decides cells (i +ℤ pos 1) pair.1 passes))

  same-degree : (i : ℤ) (x y : A) → cells.homological x ≡ cells.homological y → has_degree cells i y ≡ true → has_degree cells i x ≡ true
  same-degree i x y same passes = degree-from cells i x (same ∙ degree-decides cells i y passes)

  -- all tails of a degree and all heads of the next suit each entry
  pub suit-whole : (i : ℤ) → Suit c cells.list (has_degree cells i) (has_degree cells (i +ℤ pos 1)) pair
  suit-whole i =
      record {
        there = λ x y has_x has_y passes_x passes_y to_head from_tail.
            let tail = same-degree i pair.0 x (sym (degree-before i x has_x to_head)) passes_x in
            both_from (has_degree cells i pair.0) (has_degree cells (i +ℤ pos 1) pair.1) tail (head-next i tail);
        as_head = λ passes u has_u to_head. same-degree (i +ℤ pos 1) u pair.0 (degree-before i u has_u to_head) passes;
        as_tail = λ passes u has_u from_tail. same-degree i u pair.1 (degree-behind i u has_u from_tail) passes;
      }

  -- those heads alone that lie below t, and those tails alone from t on, suit a shortest entry
  module _ (shortest : IsShortest cells pair) where
    pub suit-below : (i t : ℤ) → Suit c cells.list (has_degree cells i) (is_below cells (i +ℤ pos 1) t) pair
    suit-below i t =
        record {
          there = λ x y has_x has_y passes_x passes_y to_head from_tail.
              let tail = same-degree i pair.0 x (sym (degree-before i x has_x to_head)) passes_x in
              let low = lt-decides (cells.quantum y) t
              (both_parts (has_degree cells (i +ℤ pos 1) y) (int_lt (cells.quantum y) t) passes_y).1 in
              both_from (has_degree cells i pair.0) (is_below cells (i +ℤ pos 1) t pair.1) tail
              (both_from (has_degree cells (i +ℤ pos 1) pair.1) (int_lt (cells.quantum pair.1) t) (head-next i tail)
              (lt-from (cells.quantum pair.1) t (omega (arith, ints, low, shortest.out y has_y from_tail))));
          as_head = λ passes u has_u to_head.
              let parts = both_parts (has_degree cells (i +ℤ pos 1) pair.0) (int_lt (cells.quantum pair.0) t) passes in
              both_from (has_degree cells (i +ℤ pos 1) u) (int_lt (cells.quantum u) t)
              (same-degree (i +ℤ pos 1) u pair.0 (degree-before i u has_u to_head) parts.0)
              (lt-from (cells.quantum u) t
              (omega (arith, ints, lt-decides (cells.quantum pair.0) t parts.1, shortest.into u has_u to_head)));
          as_tail = λ passes u has_u from_tail. same-degree i u pair.1 (degree-behind i u has_u from_tail) passes;
        }

    pub suit-from : (i t : ℤ) → Suit c cells.list (is_from cells i t) (has_degree cells (i +ℤ pos 1)) pair
    suit-from i t =
        record {
          there = λ x y has_x has_y passes_x passes_y to_head from_tail.
              let parts = both_parts (has_degree cells i x) (int_le t (cells.quantum x)) passes_x in
              let tail = same-degree i pair.0 x (sym (degree-before i x has_x to_head)) parts.0 in
              both_from (is_from cells i t pair.0) (has_degree cells (i +ℤ pos 1) pair.1)
              (both_from (has_degree cells i pair.0) (int_le t (cells.quantum pair.0)) tail
              (le-from t (cells.quantum pair.0)
              (omega (arith, ints, le-decides t (cells.quantum x) parts.1, shortest.into x has_x to_head))))
              (head-next i tail);
          as_head = λ passes u has_u to_head. same-degree (i +ℤ pos 1) u pair.0 (degree-before i u has_u to_head) passes;
          as_tail = λ passes u has_u from_tail.
              let parts = both_parts (has_degree cells i pair.1) (int_le t (cells.quantum pair.1)) passes in
              both_from (has_degree cells i u) (int_le t (cells.quantum u))
              (same-degree i u pair.1 (degree-behind i u has_u from_tail) parts.0)
              (le-from t (cells.quantum u)
              (omega (arith, ints, le-decides t (cells.quantum pair.1) parts.1, shortest.out u has_u from_tail)));
        }
