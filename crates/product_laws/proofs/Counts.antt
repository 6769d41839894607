-- Pairs counted by degrees.
use Rattle.std.proofs.Common.{◌≡◌, ◌≢◌, ℕ, ◌+◌, ◌*◌, ◌∙◌, ℤ, pos, ◌+ℤ◌, ◌-ℤ◌, List, length, refl, sym, ap, ap₂, arith, Bool, true, false, cond, ◌&&◌}
use Rattle.std.specs.List.{Contains, range_with_len, sum_by}
use Rattle.std.specs.Ordering.{int_eq}
use Rattle.std.proofs.lemmas.Bool.Decides.{Decides-int_eq}
use Rattle.std.proofs.lemmas.Int.{ints}
use Rattle.std.proofs.lemmas.List.Sums.{length-filter}
use Rattle.kh_types.specs.Table.{IsWithin, from_minus}
use Rattle.kh_types.proofs.LabelDegrees.{int_eq-iff}
use Rattle.kh_types.proofs.ListSums.{sum_by-alike, sum_by-times, sum_by-turned}
use Rattle.cell_laws.specs.Alike.{HasNoDoubles}
use Rattle.cell_laws.specs.Cells.{Cells, cells_at, has_both}
use Rattle.cell_laws.proofs.Members.{sum_by-members}
use Rattle.cell_laws.proofs.NoDoubles.{once-map, once-range, sum_by-only}
use Rattle.product_laws.specs.Products.{Factor, IsTest, all_pairs, product_complex}
use Rattle.product_laws.proofs.PairLists.{sum_by-pairs, test-other}

int-test : IsTest int_eq
int-test = record { one = λ a b passes. (Decides-int_eq a b).0 passes; self = λ a. (Decides-int_eq a a).1 refl }

pub from_minus-once : (n : ℕ) → HasNoDoubles (from_minus n)
from_minus-once n =
    once-map (λ k. pos k -ℤ pos n) (range_with_len 0 (2 * n + 1)) (λ k l same. apart k l n same) (once-range 0 (2 * n + 1))
  where
    apart : (k l n : ℕ) → pos k -ℤ pos n ≡ pos l -ℤ pos n → k ≡ l
    apart k l n same = omega (arith, ints, same)

-- cells by both degrees: a sum over the degrees of what there is for the degrees of a cell
module _ {A : Type 0} (cells : Cells A) (n most : ℕ) (g : ℤ → ℤ → ℕ)
    (within : (x : A) → Contains cells.list x → IsWithin n (cells.homological x))
    (within_too : (x : A) → Contains cells.list x → IsWithin most (cells.quantum x)) where
  abbrev one : ℤ → ℤ → A → ℕ
  one a b x = cond (has_both cells a b x) 1 0

  abbrev term : A → ℤ → ℤ → ℕ
  term x a b = one a b x * g a b

  single : (x : A) → Contains cells.list x
      → sum_by (λ a. sum_by (term x a) (from_minus most)) (from_minus n) ≡ g (cells.homological x) (cells.quantum x)
  single x has =
      let h = cells.homological x in
      let q = cells.quantum x in
      sum_by-only (λ a. sum_by (term x a) (from_minus most)) (from_minus n) h (from_minus-once n) (within x has)
      (λ a has_a other.
      zeros (term x a) (from_minus most)
      (λ b. ap (λ (t : Bool). cond (t && int_eq q b) 1 0 * g a b) (turned a h other) ∙ nothing (g a b)))
      ∙ sum_by-only (term x h) (from_minus most) q (from_minus-once most) (within_too x has)
      (λ b has_b other.
      ap (λ (t : Bool). cond (int_eq h h && t) 1 0 * g h b) (turned b q other) ∙ ap (λ (t : Bool). cond t 1 0 * g h b) (never (int_eq h h))
      ∙ nothing (g h b))
      ∙ ap₂ (λ (s t : Bool). cond (s && t) 1 0 * g h q) (int-test.self h) (int-test.self q)
      ∙ once (g h q)
    where
      zeros : (f : ℤ → ℕ) (zs : List ℤ) → ((z : ℤ) → f z ≡ 0) → sum_by f zs ≡ 0
      zeros f zs all = sum_by-alike f (λ z. 0 * 0) (λ z. all z) zs ∙ sum_by-times (λ (z : ℤ). 0) 0 zs ∙ omega arith

      turned : (a b : ℤ) → a ≢ b → int_eq b a ≡ false
      turned a b other = test-other int_eq b a int-test (λ is. other (sym is))

      never : (t : Bool) → (t && false) ≡ false
      never true = refl
      never false = refl

      nothing : (m : ℕ) → 0 * m ≡ 0
      nothing m = omega arith

      once : (m : ℕ) → 1 * m ≡ m
      once m = omega arith

  pub sum_by-degrees : sum_by (λ a. sum_by (λ b. length (cells_at cells a b) * g a b) (from_minus most)) (from_minus n)
      ≡ sum_by (λ x. g (cells.homological x) (cells.quantum x)) cells.list
  sum_by-degrees =
      sum_by-alike (λ a. sum_by (λ b. length (cells_at cells a b) * g a b) (from_minus most))
      (λ a. sum_by (λ x. sum_by (term x a) (from_minus most)) cells.list)
      (λ a.
      sum_by-alike (λ b. length (cells_at cells a b) * g a b) (λ b. sum_by (λ x. term x a b) cells.list)
      (λ b.
      ap (λ m. m * g a b) (length-filter (has_both cells a b) cells.list)
      ∙ commuted (sum_by (one a b) cells.list) (g a b)
      ∙ sym (sum_by-times (one a b) (g a b) cells.list)
      ∙ sum_by-alike (λ x. g a b * one a b x) (λ x. term x a b) (λ x. commuted (g a b) (one a b x)) cells.list)
      (from_minus most)
      ∙ sum_by-turned (λ b x. term x a b) (from_minus most) cells.list)
      (from_minus n)
      ∙ sum_by-turned (λ a x. sum_by (term x a) (from_minus most)) (from_minus n) cells.list
      ∙ sum_by-members (λ x. sum_by (λ a. sum_by (term x a) (from_minus most)) (from_minus n))
      (λ x. g (cells.homological x) (cells.quantum x)) cells.list single
    where
      commuted : (m k : ℕ) → m * k ≡ k * m
      commuted m k = omega arith

-- pairs of two degrees, by the first cell
module _ {A B : Type 0} (p : ℕ) (first : Factor A) (second : Factor B) where
  pub length-pairs : (i j : ℤ) → length (cells_at (product_complex p first second) i j)
      ≡ sum_by (λ x. length (cells_at second.cells (i -ℤ first.cells.homological x) (j -ℤ first.cells.quantum x))) first.cells.list
  length-pairs i j =
      length-filter (has_both (product_complex p first second) i j) (all_pairs first.cells.list second.cells.list)
      ∙ sum_by-pairs (λ z. cond (has_both (product_complex p first second) i j z) 1 0) first.cells.list second.cells.list
      ∙ sum_by-alike (λ x. sum_by (λ y. cond (has_both (product_complex p first second) i j (x, y)) 1 0) second.cells.list)
      (λ x. length (cells_at second.cells (i -ℤ first.cells.homological x) (j -ℤ first.cells.quantum x)))
      (λ x.
      let a = first.cells.homological x in
      let b = first.cells.quantum x in
      sum_by-alike (λ y. cond (has_both (product_complex p first second) i j (x, y)) 1 0)
      (λ y. cond (has_both second.cells (i -ℤ a) (j -ℤ b) y) 1 0)
      (λ y. ap₂ (λ (s t : Bool). cond (s && t) 1 0) (moved a (second.cells.homological y) i) (moved b (second.cells.quantum y) j))
      second.cells.list
      ∙ sym (length-filter (has_both second.cells (i -ℤ a) (j -ℤ b)) second.cells.list))
      first.cells.list
    where
      moved : (a h i : ℤ) → int_eq (a +ℤ h) i ≡ int_eq h (i -ℤ a)
      moved a h i = int_eq-iff (a +ℤ h) i h (i -ℤ a) (λ is. omega (arith, ints, is)) (λ is. omega (arith, ints, is))
