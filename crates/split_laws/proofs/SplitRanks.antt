-- The rank of a table between lists that split is the sum of the ranks of its two blocks.
use Rattle.std.proofs.Common.{◌≡◌, ℕ, zero, suc, inl, inr, ◌⊎◌, ◌+◌, ◌-◌, ◌*◌, ◌<◌, ◌≤◌, ◌∙◌, List, length, refl, sym, ap, ap₂, arith, Bool, true, false, cond, not}
use Rattle.std.specs.List.{Contains, filter, sum_by}
use Rattle.std.proofs.lemmas.Bool.{cases_Bool}
use Rattle.kh_types.specs.Complex.{entry_in}
use Rattle.kh_types.specs.MatrixRanks.{HasRank}
use Rattle.kh_types.specs.Products.{Factors}
use Rattle.kh_types.specs.Rank.{rank}
use Rattle.kh_types.specs.Residues.{HasInverses, Same}
use Rattle.kh_types.proofs.FactorLemmas.{factors-same}
use Rattle.kh_types.proofs.Lists.{Contains-filter}
use Rattle.kh_types.proofs.ListSums.{sum_by-times, sum_by-zeros}
use Rattle.kh_types.proofs.PivotLemmas.{rank-determined}
use Rattle.kh_types.proofs.Residues.{same-add, same-equal, same-multiple}
use Rattle.cell_laws.specs.Cells.{table_of}
use Rattle.cell_laws.proofs.Members.{Contains-kept, sum_by-members}
use Rattle.cell_laws.proofs.Tables.{IsCombined, StandsAt, IsMatrix-table, entries-each, entry-at, entry-past_heads, entry-past_tails, factors-more_heads, factors-more_tails, rank-table, stands_or_past}
use Rattle.split_laws.specs.Splits.{fails}
use Rattle.split_laws.proofs.BlockRanks.{elimination, factors-sum, factors-triangular}

-- a place of a list, and that of the same element in a longer list; or both are past the end
pub record IsPlaced {A : Type 0} (few many : List A) (at : ℕ) : Type 0 where
  pub there : ℕ
  pub which : ((one : StandsAt few at) × (other : StandsAt many there) × (other.element ≡ one.element))
      ⊎ ((length few ≤ at) × (length many ≤ there))

pub placed : {A : Type 0} (few many : List A) → ((x : A) → Contains few x → Contains many x) → (at : ℕ) → IsPlaced few many at
placed few many more at = elim (stands_or_past few at) [
  | inr past ↦ record { there = length many; which = inr (past, omega arith) }
  | inl s ↦
      let has = more s.element s.has in
      record { there = has.0; which = inl (s, record { element = s.element; has = has; here = refl }, refl) }
]

pub entry-placed : {A : Type 0} (c : A → A → ℕ) (few_tails few_heads tails heads : List A) (i j : ℕ)
    (row : IsPlaced few_heads heads i) (column : IsPlaced few_tails tails j)
    → entry_in (table_of c tails heads) row.there column.there ≡ entry_in (table_of c few_tails few_heads) i j
entry-placed c few_tails few_heads tails heads i j row column = elim row.which [
  | inr past ↦ entry-past_heads c tails heads row.there column.there past.1 ∙ sym (entry-past_heads c few_tails few_heads i j past.0)
  | inl r ↦ elim column.which [
    | inr past ↦ entry-past_tails c tails heads row.there column.there past.1 ∙ sym (entry-past_tails c few_tails few_heads i j past.0)
    | inl s ↦
        entry-at c tails heads row.there column.there r.1 s.1
        ∙ ap₂ c s.2 r.2
        ∙ sym (entry-at c few_tails few_heads i j r.0 s.0)
  ]
]

-- coefficients that are the same between the elements of two lists, or the sum of two
pub same-entries : {A : Type 0} (p : ℕ) (c d : A → A → ℕ) (tails heads : List A)
    → ((x y : A) → Contains tails x → Contains heads y → Same p (c x y) (d x y)) → (i j : ℕ)
    → Same p (entry_in (table_of c tails heads) i j) (entry_in (table_of d tails heads) i j)
same-entries p c d tails heads same i j = elim (stands_or_past heads i) [
  | inr past ↦
      same-equal p (entry_in (table_of c tails heads) i j) (entry_in (table_of d tails heads) i j)
      (entry-past_heads c tails heads i j past ∙ sym (entry-past_heads d tails heads i j past))
  | inl row ↦ elim (stands_or_past tails j) [
    | inr past ↦
        same-equal p (entry_in (table_of c tails heads) i j) (entry_in (table_of d tails heads) i j)
        (entry-past_tails c tails heads i j past ∙ sym (entry-past_tails d tails heads i j past))
    | inl column ↦
        same-equal p (entry_in (table_of c tails heads) i j) (c column.element row.element) (entry-at c tails heads i j row column)
        ∙ same column.element row.element column.has row.has
        ∙ same-equal p (d column.element row.element) (entry_in (table_of d tails heads) i j) (sym (entry-at d tails heads i j row column))
  ]
]

pub sum-entries : {A : Type 0} (c d : A → A → ℕ) (tails heads : List A) (i j : ℕ)
    → entry_in (table_of (λ x y. c x y + d x y) tails heads) i j
    ≡ entry_in (table_of c tails heads) i j + entry_in (table_of d tails heads) i j
sum-entries c d tails heads i j = elim (stands_or_past heads i) [
  | inr past ↦
      entry-past_heads (λ x y. c x y + d x y) tails heads i j past
      ∙ none (entry_in (table_of c tails heads) i j) (entry_in (table_of d tails heads) i j)
      (entry-past_heads c tails heads i j past) (entry-past_heads d tails heads i j past)
  | inl row ↦ elim (stands_or_past tails j) [
    | inr past ↦
        entry-past_tails (λ x y. c x y + d x y) tails heads i j past
        ∙ none (entry_in (table_of c tails heads) i j) (entry_in (table_of d tails heads) i j)
        (entry-past_tails c tails heads i j past) (entry-past_tails d tails heads i j past)
    | inl column ↦
        entry-at (λ x y. c x y + d x y) tails heads i j row column
        ∙ ap₂ (λ m n. m + n) (sym (entry-at c tails heads i j row column)) (sym (entry-at d tails heads i j row column))
  ]
]
  where
    none : (m n : ℕ) → m ≡ 0 → n ≡ 0 → 0 ≡ m + n
    none m n is_m is_n = omega (arith, is_m, is_n)

pub fails-is : {A : Type 0} (test : A → Bool) (x : A) → test x ≡ false → fails test x ≡ true
fails-is test x is = ap not is

pub is-fails : {A : Type 0} (test : A → Bool) (x : A) → fails test x ≡ true → test x ≡ false
is-fails test x is = turned (test x) is
  where
    turned : (b : Bool) → not b ≡ true → b ≡ false
    turned true same = absurd (cc)
    turned false same = refl

module _ {A : Type 0} (p : ℕ) (c added : A → A → ℕ) (lower : A → Bool) (field : HasInverses p) (below : (x y : A) → c x y < p)
    (tails heads : List A)
    (closed : (x y : A) → Contains tails x → Contains heads y → lower x ≡ true → lower y ≡ false → c x y ≡ 0)
    (split : (x z : A) → Contains tails x → Contains heads z → lower x ≡ false → lower z ≡ true
    → Same p (c x z + sum_by (λ y. added x y * c y z) (filter lower tails))
    (sum_by (λ y. c x y * added y z) (filter (fails lower) heads))) where
  positive : 0 < p
  positive = omega (arith, field.above_one)

  abbrev upper_tails : List A
  upper_tails = filter (fails lower) tails

  abbrev upper_heads : List A
  upper_heads = filter (fails lower) heads

  abbrev lower_tails : List A
  lower_tails = filter lower tails

  abbrev lower_heads : List A
  lower_heads = filter lower heads

  in-upper : (xs : List A) (x : A) → Contains (filter (fails lower) xs) x → Contains xs x × (lower x ≡ false)
  in-upper xs x has = let kept = Contains-kept (fails lower) xs x has in (kept.0, is-fails lower x kept.1)

  in-lower : (xs : List A) (x : A) → Contains (filter lower xs) x → Contains xs x × (lower x ≡ true)
  in-lower xs x has = Contains-kept lower xs x has

  -- the coefficients in two parts: those through the upper block, and those through the lower
  abbrev through_upper : A → A → ℕ
  through_upper x y = cond (lower x) 0 (cond (lower y) (sum_by (λ w. c x w * added w y) upper_heads) (c x y))

  abbrev through_lower : A → A → ℕ
  through_lower x y = cond (lower y) (cond (lower x) (c x y) ((p - 1) * sum_by (λ w. added x w * c w y) lower_tails)) 0

  upper-upper : (x y : A) → lower x ≡ false → lower y ≡ false → through_upper x y ≡ c x y
  upper-upper x y is_x is_y =
      ap₂ (λ (s t : Bool). cond s 0 (cond t (sum_by (λ w. c x w * added w y) upper_heads) (c x y))) is_x is_y

  upper-lower : (x y : A) → lower x ≡ false → lower y ≡ true → through_upper x y ≡ sum_by (λ w. c x w * added w y) upper_heads
  upper-lower x y is_x is_y =
      ap₂ (λ (s t : Bool). cond s 0 (cond t (sum_by (λ w. c x w * added w y) upper_heads) (c x y))) is_x is_y

  upper-none : (x y : A) → lower x ≡ true → through_upper x y ≡ 0
  upper-none x y is_x = ap (λ (s : Bool). cond s 0 (cond (lower y) (sum_by (λ w. c x w * added w y) upper_heads) (c x y))) is_x

  lower-lower : (x y : A) → lower x ≡ true → lower y ≡ true → through_lower x y ≡ c x y
  lower-lower x y is_x is_y =
      ap₂ (λ (s t : Bool). cond t (cond s (c x y) ((p - 1) * sum_by (λ w. added x w * c w y) lower_tails)) 0) is_x is_y

  lower-upper : (x y : A) → lower x ≡ false → lower y ≡ true
      → through_lower x y ≡ (p - 1) * sum_by (λ w. added x w * c w y) lower_tails
  lower-upper x y is_x is_y =
      ap₂ (λ (s t : Bool). cond t (cond s (c x y) ((p - 1) * sum_by (λ w. added x w * c w y) lower_tails)) 0) is_x is_y

  lower-none : (x y : A) → lower y ≡ false → through_lower x y ≡ 0
  lower-none x y is_y = ap (λ (t : Bool). cond t (cond (lower x) (c x y) ((p - 1) * sum_by (λ w. added x w * c w y) lower_tails)) 0) is_y

  commuted : (a b : ℕ) → a * b ≡ b * a
  commuted a b = omega arith

  nothing : (a : ℕ) → 0 * a ≡ 0
  nothing a = omega arith

  factors-upper : (r : ℕ) → Factors p (entry_in (table_of c upper_tails upper_heads)) r
      → Factors p (entry_in (table_of through_upper tails heads)) r
  factors-upper r f =
      factors-more_tails p r through_upper upper_tails tails heads each_tail
      (factors-more_heads p r through_upper upper_tails upper_heads heads each_head
      (factors-same p r (entry_in (table_of c upper_tails upper_heads)) (entry_in (table_of through_upper upper_tails upper_heads))
      (same-entries p c through_upper upper_tails upper_heads
      (λ x y has_x has_y.
      same-equal p (c x y) (through_upper x y) (sym (upper-upper x y (in-upper tails x has_x).1 (in-upper heads y has_y).1))))
      f))
    where
      each_head : (y : A) → Contains heads y → Contains upper_heads y ⊎ IsCombined p through_upper upper_tails upper_heads y
      each_head y has = elim (cases_Bool (lower y)) [
        | inr is_upper ↦ inl (Contains-filter (fails lower) heads y (fails-is lower y is_upper) has)
        | inl is_lower ↦ inr (
          (λ w. added w y),
          λ x has_x.
              let up = (in-upper tails x has_x).1 in
              same-equal p (sum_by (λ w. added w y * through_upper x w) upper_heads) (through_upper x y)
              (sum_by-members (λ w. added w y * through_upper x w) (λ w. c x w * added w y) upper_heads
              (λ w has_w.
              ap (λ n. added w y * n) (upper-upper x w up (in-upper heads w has_w).1) ∙ commuted (added w y) (c x w))
              ∙ sym (upper-lower x y up is_lower)),
        )
      ]

      each_tail : (x : A) → Contains tails x → Contains upper_tails x ⊎ IsCombined p (λ x y. through_upper y x) heads upper_tails x
      each_tail x has = elim (cases_Bool (lower x)) [
        | inr is_upper ↦ inl (Contains-filter (fails lower) tails x (fails-is lower x is_upper) has)
        | inl is_lower ↦ inr (
          (λ w. 0),
          λ y has_y.
              same-equal p (sum_by (λ w. 0 * through_upper w y) upper_tails) (through_upper x y)
              (sum_by-zeros (λ w. 0 * through_upper w y) upper_tails (λ w. nothing (through_upper w y)) ∙ sym (upper-none x y is_lower)),
        )
      ]

  factors-lower : (s : ℕ) → Factors p (entry_in (table_of c lower_tails lower_heads)) s
      → Factors p (entry_in (table_of through_lower tails heads)) s
  factors-lower s f =
      factors-more_heads p s through_lower tails lower_heads heads each_head
      (factors-more_tails p s through_lower lower_tails tails lower_heads each_tail
      (factors-same p s (entry_in (table_of c lower_tails lower_heads)) (entry_in (table_of through_lower lower_tails lower_heads))
      (same-entries p c through_lower lower_tails lower_heads
      (λ x y has_x has_y.
      same-equal p (c x y) (through_lower x y) (sym (lower-lower x y (in-lower tails x has_x).1 (in-lower heads y has_y).1))))
      f))
    where
      times : (m a b : ℕ) → m * a * b ≡ m * (a * b)
      times m a b = omega arith

      each_head : (y : A) → Contains heads y → Contains lower_heads y ⊎ IsCombined p through_lower tails lower_heads y
      each_head y has = elim (cases_Bool (lower y)) [
        | inl is_lower ↦ inl (Contains-filter lower heads y is_lower has)
        | inr is_upper ↦ inr (
          (λ w. 0),
          λ x has_x.
              same-equal p (sum_by (λ w. 0 * through_lower x w) lower_heads) (through_lower x y)
              (sum_by-zeros (λ w. 0 * through_lower x w) lower_heads (λ w. nothing (through_lower x w)) ∙ sym (lower-none x y is_upper)),
        )
      ]

      each_tail : (x : A) → Contains tails x → Contains lower_tails x ⊎ IsCombined p (λ x y. through_lower y x) lower_heads lower_tails x
      each_tail x has = elim (cases_Bool (lower x)) [
        | inl is_lower ↦ inl (Contains-filter lower tails x is_lower has)
        | inr is_upper ↦ inr (
          (λ w. (p - 1) * added x w),
          λ y has_y.
              let low = (in-lower heads y has_y).1 in
              same-equal p (sum_by (λ w. (p - 1) * added x w * through_lower w y) lower_tails) (through_lower x y)
              (sum_by-members (λ w. (p - 1) * added x w * through_lower w y) (λ w. (p - 1) * (added x w * c w y)) lower_tails
              (λ w has_w.
              ap (λ n. (p - 1) * added x w * n) (lower-lower w y (in-lower tails w has_w).1 low)
              ∙ times (p - 1) (added x w) (c w y))
              ∙ sum_by-times (λ w. added x w * c w y) (p - 1) lower_tails
              ∙ sym (lower-upper x y is_upper low)),
        )
      ]

  -- together they are the coefficients
  both-parts : (x y : A) → Contains tails x → Contains heads y → Same p (through_upper x y + through_lower x y) (c x y)
  both-parts x y has_x has_y = elim (cases_Bool (lower x)) [
    | inl low_x ↦ elim (cases_Bool (lower y)) [
      | inl low_y ↦
          same-equal p (through_upper x y + through_lower x y) (c x y)
          (ap₂ (λ m n. m + n) (upper-none x y low_x) (lower-lower x y low_x low_y) ∙ omega arith)
      | inr up_y ↦
          same-equal p (through_upper x y + through_lower x y) (c x y)
          (ap₂ (λ m n. m + n) (upper-none x y low_x) (lower-none x y up_y) ∙ sym (closed x y has_x has_y low_x up_y))
    ]
    | inr up_x ↦ elim (cases_Bool (lower y)) [
      | inr up_y ↦
          same-equal p (through_upper x y + through_lower x y) (c x y)
          (ap₂ (λ m n. m + n) (upper-upper x y up_x up_y) (lower-none x y up_y) ∙ omega arith)
      | inl low_y ↦
          let less = sum_by (λ w. added x w * c w y) lower_tails in
          let full = sum_by (λ w. c x w * added w y) upper_heads in
          same-equal p (through_upper x y + through_lower x y) (full + (p - 1) * less)
          (ap₂ (λ m n. m + n) (upper-lower x y up_x low_y) (lower-upper x y up_x low_y))
          ∙ same-add p full (c x y + less) ((p - 1) * less) ((p - 1) * less) (sym (split x y has_x has_y up_x low_y)) refl
          ∙ same-equal p (c x y + less + (p - 1) * less) (c x y + p * less) (both-signs p less (c x y) positive)
          ∙ same-multiple p (c x y) less
    ]
  ]
    where
      both-signs : (p x m : ℕ) → 0 < p → m + x + (p - 1) * x ≡ m + p * x
      both-signs zero x m positive = absurd (omega arith)
      both-signs (suc q) x m positive = let e : suc q - 1 ≡ q = omega arith in rw e (omega arith)

  more-upper : (xs : List A) (x : A) → Contains (filter (fails lower) xs) x → Contains xs x
  more-upper xs x has = (in-upper xs x has).0

  more-lower : (xs : List A) (x : A) → Contains (filter lower xs) x → Contains xs x
  more-lower xs x has = (in-lower xs x has).0

  pub rank-split : rank p (table_of c tails heads)
      ≡ rank p (table_of c upper_tails upper_heads) + rank p (table_of c lower_tails lower_heads)
  rank-split =
      let r = rank p (table_of c upper_tails upper_heads) in
      let s = rank p (table_of c lower_tails lower_heads) in
      let M = entry_in (table_of c tails heads) in
      let upper_rank = rank-table c upper_tails upper_heads p field below in
      let lower_rank = rank-table c lower_tails lower_heads p field below in
      let row = λ (i : ℕ). placed upper_heads heads (more-upper heads) i in
      let column = λ (j : ℕ). placed upper_tails tails (more-upper tails) j in
      let low_row = λ (i : ℕ). placed lower_heads heads (more-lower heads) i in
      let low_column = λ (j : ℕ). placed lower_tails tails (more-lower tails) j in
      let has : HasRank p M (r + s) = record {
        factors =
            factors-same p (r + s)
            (λ i j. entry_in (table_of through_upper tails heads) i j + entry_in (table_of through_lower tails heads) i j) M
            (λ i j.
            same-equal p (entry_in (table_of through_upper tails heads) i j + entry_in (table_of through_lower tails heads) i j)
            (entry_in (table_of (λ x y. through_upper x y + through_lower x y) tails heads) i j)
            (sym (sum-entries through_upper through_lower tails heads i j))
            ∙ same-entries p (λ x y. through_upper x y + through_lower x y) c tails heads both-parts i j)
            (factors-sum p r s (entry_in (table_of through_upper tails heads)) (entry_in (table_of through_lower tails heads))
            (factors-upper r upper_rank.factors) (factors-lower s lower_rank.factors));
        least = λ t f.
            factors-triangular p r s (entry_in (table_of c upper_tails upper_heads)) (entry_in (table_of c lower_tails lower_heads)) M
            (λ i. (row i).there) (λ j. (column j).there) (λ i. (low_row i).there) (λ j. (low_column j).there) field
            (elimination p (length upper_tails) r (table_of c upper_tails upper_heads) field
            (IsMatrix-table c upper_tails upper_heads p positive below) refl)
            lower_rank.least
            (λ i j.
            same-equal p (M (row i).there (column j).there) (entry_in (table_of c upper_tails upper_heads) i j)
            (entry-placed c upper_tails upper_heads tails heads i j (row i) (column j)))
            (λ i j.
            same-equal p (M (low_row i).there (low_column j).there) (entry_in (table_of c lower_tails lower_heads) i j)
            (entry-placed c lower_tails lower_heads tails heads i j (low_row i) (low_column j)))
            (λ i j.
            same-equal p (M (row i).there (low_column j).there) 0
            (entry-placed c lower_tails upper_heads tails heads i j (row i) (low_column j)
            ∙ entries-each c lower_tails upper_heads (λ n. n ≡ 0) refl
            (λ x y has_x has_y.
            closed x y (more-lower tails x has_x) (more-upper heads y has_y) (in-lower tails x has_x).1 (in-upper heads y has_y).1) i j))
            t f;
      } in
      rank-determined p (rank p (table_of c tails heads)) (r + s) M (rank-table c tails heads p field below) has
