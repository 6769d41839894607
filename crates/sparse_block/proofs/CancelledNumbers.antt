-- A line less the multiple of the pivot's line that clears the place of the pivot: the line after the cancellation. An entry with no way
-- back through the pivot stays.
use Rattle.std.proofs.lemmas.Bool.Decides.{nat_tests, eqb_tells}
use Rattle.std.proofs.Common.{◌≡◌, ◌≢◌, ℕ, ◌+◌, ◌-◌, ◌*◌, ◌%◌, ◌<◌, ◌∙◌, ◌⊎◌, inl, inr, length, refl, ap, sym, subst, arith, Bool, false, ◌||◌}
use Rattle.std.specs.Prelude.{nat_eq, if◌then◌else◌}
use Rattle.std.proofs.Math.Nat.{mod-mod}
use Rattle.kh_types.specs.Rank.{inverse, minus_mod}
use Rattle.kh_types.specs.Complex.{Complex, Degree, IsComplex, IsPivot, Pivot, cancel, degree_of, entry_in, entry_of}
use Rattle.prime_field.specs.Residues.{IsField, inverse_mod, product_mod}
use Rattle.kh_types.specs.Residues.{Same}
use Rattle.kh_types.proofs.Residues.{same-equal, same-mul, same-inverse, same-unit_left, same-unit_right}
use Rattle.kh_types.proofs.PlainRank.{other-below}
use Rattle.kh_types.proofs.MatrixEntries.{entry_cancelled, entry-cancelled_matrix}
use Rattle.sparse_block.proofs.FieldInverses.{inverses-field}
use Rattle.sparse_block.proofs.ComplexMatrices.{matrix-of_degree, entry-stands}
use Rattle.sparse_block.proofs.CancelledDegrees.{degree-at_pivot}

-- numbers less others, modulo p

minus_mod-same : (p x y z : ℕ) → Same p y z → minus_mod p x y ≡ minus_mod p x z
minus_mod-same p x y z same = ap (λ (rest : ℕ). (x + (p - rest)) % p) same

minus_mod-self : (p x y : ℕ) → x < p → Same p y x → minus_mod p x y ≡ 0
minus_mod-self p x y below same = grind (arith, nat_tests)

-- the way back from row i to column j through the pivot, and an entry less a number that is the same modulo p

abbrev way_back : ℕ → (ℕ → ℕ → ℕ) → ℕ → ℕ → ℕ → ℕ → ℕ
way_back p M a b i j = M i b * (inverse p (M a b) * M a j)

module _ (p a b : ℕ) (M : ℕ → ℕ → ℕ) (field : IsField p) (below : (i j : ℕ) → M i j < p) (other : M a b ≢ 0) where
  inverts : Same p (M a b * inverse p (M a b)) 1
  inverts = same-inverse p (M a b) (inverses-field p field) (other-below p (M a b) (below a b) other)

  less-way : (i j : ℕ) → minus_mod p (M i j) (way_back p M a b i j) ≡ entry_cancelled p a b M i j
  less-way i j =
      let way = way_back p M a b i j in
      let less = minus_mod p (M i j) way in
      elim (eqb_tells i a) [
        | inl in_row ↦
            let back : Same p way (M i j) =
            subst (λ (k : ℕ). Same p (way_back p M a b k j) (M k j)) (sym in_row.1)
            (same-unit_left p (M a b) (inverse p (M a b)) (M a j) inverts) in
            minus_mod-self p (M i j) way (below i j) back
            ∙ ap (λ (test : Bool). if test || nat_eq j b then 0 else less) (sym in_row.0)
        | inr not_row ↦
            elim (eqb_tells j b) [
              | inl in_column ↦
                  let back : Same p way (M i j) =
                  subst (λ (k : ℕ). Same p (way_back p M a b i k) (M i k)) (sym in_column.1)
                  (same-unit_right p (M a b) (inverse p (M a b)) (M i b) inverts) in
                  minus_mod-self p (M i j) way (below i j) back
                  ∙ ap (λ (test : Bool). if false || test then 0 else less) (sym in_column.0)
                  ∙ ap (λ (test : Bool). if test || nat_eq j b then 0 else less) (sym not_row.0)
              | inr not_column ↦
                  ap (λ (test : Bool). if false || test then 0 else less) (sym not_column.0)
                  ∙ ap (λ (test : Bool). if test || nat_eq j b then 0 else less) (sym not_row.0)
            ]
      ]

  entry-less : (i j number : ℕ) → Same p number (way_back p M a b i j)
      → minus_mod p (M i j) number ≡ entry_cancelled p a b M i j
  entry-less i j number same = minus_mod-same p (M i j) number (way_back p M a b i j) same ∙ less-way i j

  -- with the first two factors multiplied beforehand: along a column, and along a row

  pub entry-along_column : (i j : ℕ)
      → minus_mod p (M i j) (product_mod p (M a j) (inverse_mod p (M a b)) * M i b) ≡ entry_cancelled p a b M i j
  entry-along_column i j =
      let inverse = inverse_mod p (M a b) in
      let turned : M a j * inverse * M i b ≡ M i b * (inverse * M a j) = omega arith in
      entry-less i j (product_mod p (M a j) inverse * M i b)
      (same-mul p (product_mod p (M a j) inverse) (M a j * inverse) (M i b) (M i b) (mod-mod (M a j * inverse) p) refl
      ∙ same-equal p (M a j * inverse * M i b) (M i b * (inverse * M a j)) turned)

  pub entry-along_row : (i j : ℕ)
      → minus_mod p (M i j) (product_mod p (M i b) (inverse_mod p (M a b)) * M a j) ≡ entry_cancelled p a b M i j
  entry-along_row i j =
      let inverse = inverse_mod p (M a b) in
      let turned : M i b * inverse * M a j ≡ M i b * (inverse * M a j) = omega arith in
      entry-less i j (product_mod p (M i b) inverse * M a j)
      (same-mul p (product_mod p (M i b) inverse) (M i b * inverse) (M a j) (M a j) (mod-mod (M i b * inverse) p) refl
      ∙ same-equal p (M i b * inverse * M a j) (M i b * (inverse * M a j)) turned)

-- the entries of the pivot's matrix after the cancellation
pub entry-cancel : (p : ℕ) (complex : Complex) (pivot : Pivot) (row column : ℕ) → IsComplex p complex → IsPivot complex pivot
    → entry_of (cancel p complex pivot) pivot.degree row column
    ≡ entry_cancelled p pivot.row pivot.column (entry_of complex pivot.degree) row column
entry-cancel p complex pivot row column is is_pivot =
    let i = pivot.degree in
    ap (λ (degree : Degree). entry_in degree.matrix row column) (degree-at_pivot p complex pivot i refl)
    ∙ entry-cancelled_matrix p pivot (degree_of complex i).matrix (length (degree_of complex i).alive) (matrix-of_degree p complex is i)
    (entry-stands p complex i pivot.row pivot.column is is_pivot).row_within row column

-- without a way back through the pivot an entry stays

no_way : (p x inverse y : ℕ) → (x ≡ 0) ⊎ (y ≡ 0) → product_mod p x inverse * y ≡ 0
no_way p x inverse y has4 = grind (arith, nat_tests)

minus_mod-nothing_less : (p x y : ℕ) → x < p → y ≡ 0 → minus_mod p x y ≡ x
minus_mod-nothing_less p x y below none = grind (arith, nat_tests)

module _ (p : ℕ) (complex : Complex) (pivot : Pivot) (field : IsField p) (is : IsComplex p complex) (is_pivot : IsPivot complex pivot)
  where
    pub entry-stays : (row column : ℕ)
        → (entry_of complex pivot.degree pivot.row column ≡ 0) ⊎ (entry_of complex pivot.degree row pivot.column ≡ 0)
        → entry_of complex pivot.degree row column ≡ entry_of (cancel p complex pivot) pivot.degree row column
    entry-stays row column way =
        let i = pivot.degree in
        let M : ℕ → ℕ → ℕ = entry_of complex i in
        let inverse = inverse_mod p (M pivot.row pivot.column) in
        let number = product_mod p (M pivot.row column) inverse * M row pivot.column in
        let nothing : number ≡ 0 = no_way p (M pivot.row column) inverse (M row pivot.column) way in
        sym (minus_mod-nothing_less p (M row column) number (is.below i row column) nothing)
        ∙ entry-along_column p pivot.row pivot.column M field (is.below i) is_pivot row column
        ∙ sym (entry-cancel p complex pivot row column is is_pivot)
