-- Whether a line is that of a field, or of a row that can follow others: one of the two answers is right. Two texts are the same
-- or not, and what can be decided of each number can be decided of all numbers below a bound. The degrees and the dimension of a
-- row within the limits are three such numbers, so it is decided whether a line is that of some row. Then it is decided, by the
-- signs of differences, whether this row is in the ranges of the version and comes behind each row so far. No other row has the
-- same line, so if this one cannot follow none can. The line of a field is one of four texts.
use Rattle.std.proofs.Common.{◌≡◌, ℕ, zero, suc, ◌+◌, ◌-◌, ◌*◌, ◌<◌, ◌∙◌, List, [], ◌∷◌, ap, sym, refl, subst, inl, inr, arith, ℤ, pos, negsuc, neg_ℤ, ◌-ℤ◌, ◌≤ℤ◌}
use Rattle.std.specs.Prelude.{◌⊎◌, None, Some, ◌<ℤ◌}
use Rattle.std.specs.List.{All}
use Rattle.std.specs.Str.{bytes_eq}
use Rattle.std.proofs.lemmas.Bool.{cases_Bool, cases_lt}
use Rattle.std.proofs.lemmas.Int.{ints}
use Rattle.std.proofs.lemmas.List.Elements.{All-cons, All-head, All-nil, All-tail}
use Rattle.std.proofs.lemmas.Slice.Eq.{bytes_eq-Decides}
use Rattle.kh_types.proofs.QuantumDegrees.{IsWithin-place, place-IsWithin}
use Rattle.kh_types.specs.declared.limits.TheConstants.{CROSSINGS, EXPONENT}
use Rattle.kh_types.specs.Table.{IsWithin, Row, row_text}
use Rattle.circle_smoothing.specs.declared.limits.TheConstants.{GENERATORS}
use Rattle.homology_tables.specs.Tables.{IsRow, IsBefore}
use Rattle.table_text.specs.Lines.{field_text}
use Rattle.table_text.specs.Versions.{far, wide, IsRowIn}
use Rattle.table_text.specs.Words.{IsFieldIn, IsNextRow}
use Rattle.table_text.specs.declared.version.Version.{Version}
use Rattle.table_text.proofs.LineTexts.{IsWithin-bounds, bounds-IsWithin, row_text-injective}

-- a fact holds or not
abbrev pub Decided : Type 0 → Type 0
Decided P = P ⊎ (P → ⊥)

decided-same : (xs ys : List ℕ) → Decided (xs ≡ ys)
decided-same xs ys = elim (cases_Bool (bytes_eq xs ys)) [
  | inl same ↦ inl ((bytes_eq-Decides xs ys).0 same)
  | inr other ↦ inr (λ same. cc (other, (bytes_eq-Decides xs ys).1 same))
]

-- what is decided of each number is decided of the numbers below n
decided-below : (P : ℕ → Type 0) → ((k : ℕ) → Decided (P k)) → (n : ℕ) → Decided ((k : ℕ) × (k < n) × P k)
decided-below P each zero = inr (λ found. absurd (omega (arith, found.1)))
decided-below P each (suc n) = elim (each n) [
  | inl here ↦ inl (n, omega arith, here)
  | inr not_here ↦ elim (decided-below P each n) [
    | inl found ↦ inl (found.0, omega (arith, found.1), found.2)
    | inr none ↦ inr (λ found. elim (cases_lt found.0 n) [
      | inl below ↦ none (found.0, below, found.2)
      | inr last ↦
          let e : found.0 ≡ n = omega (arith, found.1, last) in
          not_here (subst P e found.2)
    ])
  ]
]

-- the row of a line

row_numbered : ℕ → ℕ → ℕ → Row
row_numbered a b c = record { j = pos a -ℤ pos EXPONENT; i = pos b -ℤ pos CROSSINGS; dim = c + 1 }

row_made : ℤ → ℤ → ℕ → Row
row_made j i dim = record { j = j; i = i; dim = dim }

row_numbered-IsRow : (a b c : ℕ) → a < 2 * EXPONENT + 1 → b < 2 * CROSSINGS + 1 → c < GENERATORS → IsRow (row_numbered a b c)
unfolding row_numbered
row_numbered-IsRow a b c a_below b_below c_below = record {
  j = IsWithin-place EXPONENT a (pos a -ℤ pos EXPONENT) a_below refl;
  i = IsWithin-place CROSSINGS b (pos b -ℤ pos CROSSINGS) b_below refl;
  some = omega arith;
  few = omega (arith, c_below);
}

row-numbered : (row : Row) (a b : ℕ) → IsRow row → row.j ≡ pos a -ℤ pos EXPONENT → row.i ≡ pos b -ℤ pos CROSSINGS
    → row ≡ row_numbered a b (row.dim - 1)
unfolding row_numbered row_made
row-numbered row a b is j i =
    let dim : row.dim ≡ row.dim - 1 + 1 = omega (arith, is.some) in
    ap (λ (z : ℤ). row_made z row.i row.dim) j ∙ ap (λ (z : ℤ). row_made (pos a -ℤ pos EXPONENT) z row.dim) i
    ∙ ap (row_made (pos a -ℤ pos EXPONENT) (pos b -ℤ pos CROSSINGS)) dim

HasDim : List ℕ → ℕ → ℕ → Type 0
HasDim line a b = (c : ℕ) × (c < GENERATORS) × (line ≡ row_text (row_numbered a b c))

HasDegree : List ℕ → ℕ → Type 0
HasDegree line a = (b : ℕ) × (b < 2 * CROSSINGS + 1) × HasDim line a b

decided-row : (line : List ℕ) → Decided ((row : Row) × IsRow row × (line ≡ row_text row))
unfolding HasDim HasDegree
decided-row line = elim (decided-below (HasDegree line) (λ a.
    decided-below (HasDim line a) (λ b.
    decided-below (λ c. line ≡ row_text (row_numbered a b c)) (λ c. decided-same line (row_text (row_numbered a b c))) GENERATORS)
    (2 * CROSSINGS + 1)) (2 * EXPONENT + 1)) [
      | inl (a, a_below, (b, b_below, (c, c_below, same))) ↦
          inl (row_numbered a b c, row_numbered-IsRow a b c a_below b_below c_below, same)
      | inr none ↦ inr (λ found.
          let row = found.0 in
          let is = found.1 in
          let a = place-IsWithin EXPONENT row.j is.j in
          let b = place-IsWithin CROSSINGS row.i is.i in
          none (
            a.0,
            a.1,
            (
              b.0,
              b.1,
              (
                row.dim - 1,
                omega (arith, is.some, is.few),
                found.2 ∙ ap row_text (row-numbered row a.0 b.0 is a.2 b.2),
              ),
            ),
          ))
    ]

-- the order of rows

by_difference : (x y difference : ℤ) → y -ℤ x ≡ difference → (x <ℤ y) ⊎ ((x ≡ y) ⊎ (y <ℤ x))
by_difference x y (pos zero) is = inr (inl (omega (arith, ints, is)))
by_difference x y (pos (suc k)) is = inl (omega (arith, ints, is))
by_difference x y (negsuc k) is = inr (inr (omega (arith, ints, is)))

at_least : (x y : ℤ) → (x ≡ y) ⊎ (y <ℤ x) → y ≤ℤ x
at_least x y (inl same) = omega (arith, ints, same)
at_least x y (inr less) = omega (arith, ints, less)

-- the ranges of a version

decided-within : (n : ℕ) (i : ℤ) → Decided (IsWithin n i)
decided-within n i = elim (by_difference i (neg_ℤ (pos n)) (neg_ℤ (pos n) -ℤ i) refl) [
  | inl low ↦ inr (λ within. let bounds = IsWithin-bounds n i within in omega (arith, ints, low, bounds.0))
  | inr from ↦ elim (by_difference (pos n) i (i -ℤ pos n) refl) [
    | inl high ↦ inr (λ within. let bounds = IsWithin-bounds n i within in omega (arith, ints, high, bounds.1))
    | inr to ↦ inl (bounds-IsWithin n i (at_least i (neg_ℤ (pos n)) from) (at_least (pos n) i to))
  ]
]

decided-row_in : (version : Version) (row : Row) → IsRow row → Decided (IsRowIn version row)
decided-row_in version row is = elim (decided-within (far version) row.j) [
  | inr far_off ↦ inr (λ is_in. far_off is_in.j)
  | inl j ↦ elim (decided-within (wide version) row.i) [
    | inr wide_off ↦ inr (λ is_in. wide_off is_in.i)
    | inl i ↦ inl (record { row = is; j = j; i = i })
  ]
]

decided-before : (row other : Row) → Decided (IsBefore row other)
decided-before row other = elim (by_difference row.j other.j (other.j -ℤ row.j) refl) [
  | inl less ↦ inl (inl less)
  | inr (inl same) ↦ elim (by_difference row.i other.i (other.i -ℤ row.i) refl) [
    | inl less ↦ inl (inr (same, less))
    | inr (inl equal) ↦ inr (λ before. elim before [ inl j ↦ omega (arith, ints, same, j) | inr last ↦ omega (arith, ints, equal, last.1) ])
    | inr (inr more) ↦ inr (λ before. elim before [ inl j ↦ omega (arith, ints, same, j) | inr last ↦ omega (arith, ints, more, last.1) ])
  ]
  | inr (inr more) ↦ inr (λ before. elim before [ inl j ↦ omega (arith, ints, more, j) | inr last ↦ omega (arith, ints, more, last.0) ])
]

decided-above : (rows : List Row) (row : Row) → Decided (All (λ earlier. IsBefore earlier row) rows)
decided-above [] row = inl (All-nil (λ earlier. IsBefore earlier row))
decided-above (first ∷ rows) row = elim (decided-before first row) [
  | inr not_first ↦ inr (λ all. not_first (All-head (λ earlier. IsBefore earlier row) first rows all))
  | inl before ↦ elim (decided-above rows row) [
    | inl all ↦ inl (All-cons (λ earlier. IsBefore earlier row) first rows before all)
    | inr not_all ↦ inr (λ all. not_all (All-tail (λ earlier. IsBefore earlier row) first rows all))
  ]
]

pub decided-next : (version : Version) (rows : List Row) (line : List ℕ)
    → ((row : Row) × IsNextRow version rows line (Some row)) ⊎ IsNextRow version rows line None
decided-next version rows line = elim (decided-row line) [
  | inr none ↦ inr (λ row can same. none (row, can.within.row, same))
  | inl (row, is, same) ↦
      let one : (other : Row) → IsRow other → line ≡ row_text other → other ≡ row =
      λ other other_is other_same. row_text-injective other row other_is is (sym other_same ∙ same) in
      elim (decided-row_in version row is) [
        | inr not_in ↦ inr (λ other can other_same.
            not_in (subst (IsRowIn version) (one other can.within.row other_same) can.within))
        | inl within ↦ elim (decided-above rows row) [
          | inl above ↦ inl (row, (record { within = within; above = above }, same))
          | inr not_above ↦ inr (λ other can other_same.
              not_above (subst (λ (r : Row). All (λ earlier. IsBefore earlier r) rows) (one other can.within.row other_same) can.above))
        ]
      ]
]

-- the field of a line
pub decided-field : (line : List ℕ) → ((field : ℕ) × IsFieldIn line (Some field)) ⊎ IsFieldIn line None
decided-field line = elim (decided-same line (field_text 2)) [
  | inl two ↦ inl (2, (inl refl, two))
  | inr not_two ↦ elim (decided-same line (field_text 3)) [
    | inl three ↦ inl (3, (inr (inl refl), three))
    | inr not_three ↦ elim (decided-same line (field_text 5)) [
      | inl five ↦ inl (5, (inr (inr (inl refl)), five))
      | inr not_five ↦ elim (decided-same line (field_text 7)) [
        | inl seven ↦ inl (7, (inr (inr (inr refl)), seven))
        | inr not_seven ↦ inr (λ field prime same. elim prime [
          | inl e ↦ not_two (same ∙ ap field_text e)
          | inr (inl e) ↦ not_three (same ∙ ap field_text e)
          | inr (inr (inl e)) ↦ not_five (same ∙ ap field_text e)
          | inr (inr (inr e)) ↦ not_seven (same ∙ ap field_text e)
        ])
      ]
    ]
  ]
]
