-- The graded Euler characteristic of a table that shows the rows of some dimensions.
use Rattle.std.proofs.lemmas.Bool.Decides.{nat_tests}
use Rattle.std.proofs.Common.{◌≡◌, ◌≢◌, ℕ, inl, inr, ◌∙◌, List, ℤ, pos, sym, refl, map, ap, arith, subst, cond}
use Rattle.std.specs.List.{filter, flat_map}
use Rattle.std.specs.Ordering.{int_eq}
use Rattle.std.proofs.lemmas.Bool.Decides.{Decides-int_eq}
use Rattle.kh_types.specs.StateSum.{euler, int_sum, signed_by}
use Rattle.kh_types.specs.Table.{IsWithin, Row, from_minus, is_shown}
use Rattle.kh_types.proofs.AlternatingSums.{alternating}
use Rattle.kh_types.proofs.Integers.{int_eq-other}
use Rattle.kh_types.proofs.IntSums.{int_sum-alike, int_sum-filter, int_sum-flat_map, int_sum-map, int_sum-outside, int_sum-within, int_sum-cond}
use Rattle.kh_types.proofs.QuantumDegrees.{within_or_not}

-- the row of a dimension
abbrev pub row_by : (ℤ → ℤ → ℕ) → ℤ → ℤ → Row
row_by dims j i = record { j = j; i = i; dim = dims i j }

abbrev pub rows_by : ℕ → (ℤ → ℤ → ℕ) → ℤ → List Row
rows_by n dims j = filter is_shown (map (row_by dims j) (from_minus n))

-- what a row adds to the coefficient at e
abbrev row_value : ℤ → Row → ℤ
row_value e row = cond (int_eq row.j e) (signed_by row.i row.dim) (pos 0)

-- a row of dimension 0 adds nothing
row_value-shown : (e : ℤ) (row : Row) → cond (is_shown row) (row_value e row) (pos 0) ≡ row_value e row
row_value-shown e row = grind (arith, nat_tests)

-- the rows of one quantum degree
abbrev degree_value : ℕ → (ℤ → ℤ → ℕ) → ℤ → ℤ → ℤ
degree_value n dims e j = cond (int_eq j e) (alternating n (λ i. dims i j)) (pos 0)

int_sum-rows_by : (n : ℕ) (dims : ℤ → ℤ → ℕ) (e j : ℤ) → int_sum (map (row_value e) (rows_by n dims j)) ≡ degree_value n dims e j
int_sum-rows_by n dims e j =
    let is = from_minus n in
    int_sum-filter (row_value e) is_shown (map (row_by dims j) is)
    ∙ int_sum-alike (λ row. cond (is_shown row) (row_value e row) (pos 0)) (row_value e) (row_value-shown e) (map (row_by dims j) is)
    ∙ int_sum-map (row_value e) (row_by dims j) is ∙ int_sum-cond (int_eq j e) (λ i. signed_by i (dims i j)) is

-- the rows of all quantum degrees
int_sum-rows : (most n : ℕ) (dims : ℤ → ℤ → ℕ) (e : ℤ)
    → int_sum (map (λ row. signed_by row.i row.dim) (filter (λ row. int_eq row.j e) (flat_map (rows_by n dims) (from_minus most))))
    ≡ int_sum (map (degree_value n dims e) (from_minus most))
int_sum-rows most n dims e =
    int_sum-filter (λ row. signed_by row.i row.dim) (λ row. int_eq row.j e) (flat_map (rows_by n dims) (from_minus most))
    ∙ int_sum-flat_map (row_value e) (rows_by n dims) (from_minus most)
    ∙ int_sum-alike (λ j. int_sum (map (row_value e) (rows_by n dims j))) (degree_value n dims e) (int_sum-rows_by n dims e)
    (from_minus most)

degree_value-other : (n : ℕ) (dims : ℤ → ℤ → ℕ) (e j : ℤ) → j ≢ e → degree_value n dims e j ≡ pos 0
degree_value-other n dims e j other = ap (λ b. cond b (alternating n (λ i. dims i j)) (pos 0)) (int_eq-other j e other)

degree_value-same : (n : ℕ) (dims : ℤ → ℤ → ℕ) (e : ℤ) → degree_value n dims e e ≡ alternating n (λ i. dims i e)
degree_value-same n dims e = ap (λ b. cond b (alternating n (λ i. dims i e)) (pos 0)) ((Decides-int_eq e e).1 refl)

-- the coefficient at e is the alternating sum of the dimensions there, where this is 0 at all degrees that the table leaves out
pub euler-rows : (p most n : ℕ) (dims : ℤ → ℤ → ℕ) (e : ℤ)
    → ((IsWithin most e → ⊥) → alternating n (λ i. dims i e) ≡ pos 0)
    → euler (record { field = p; rows = flat_map (rows_by n dims) (from_minus most) }) e ≡ alternating n (λ i. dims i e)
euler-rows p most n dims e left_out = elim (within_or_not most e) [
  | inl within ↦
      int_sum-rows most n dims e ∙ int_sum-within (degree_value n dims e) most e within (degree_value-other n dims e)
      ∙ degree_value-same n dims e
  | inr outside ↦
      int_sum-rows most n dims e
      ∙ int_sum-outside (degree_value n dims e) most
      (λ j within. degree_value-other n dims e j (λ same. outside (subst (λ (x : ℤ). IsWithin most x) same within)))
      ∙ sym (left_out outside)
]
