-- The table beside a circle is that of a code with one loop more, and over two elements that of a code whose reduced table is given.
use Rattle.std.proofs.Common.{◌≡◌, ℕ, zero, suc, ◌+◌, ◌<◌, ◌≤◌, ◌∙◌, ℤ, pos, ◌+ℤ◌, ◌-ℤ◌, List, [], ◌∷◌, length, map, refl, sym, ap, ap₂, subst, arith, inl, inr, Bool, true, false, cond, ◌&&◌, IsTrue}
use Rattle.std.specs.Prelude.{Some, ◌||◌}
use Rattle.std.specs.List.{All, Contains, find, flat_map, list_any}
use Rattle.std.specs.Option.{option_map_or}
use Rattle.std.specs.Ordering.{int_eq}
use Rattle.std.proofs.Math.Path.{fun_ext}
use Rattle.std.proofs.lemmas.Bool.{cases_lt, false≢true, lt-ltb}
use Rattle.std.proofs.lemmas.Bool.Decides.{Decides-int_eq}
use Rattle.std.proofs.lemmas.List.Elements.{All-filter, All-map}
use Rattle.std.proofs.lemmas.List.Sums.{count_by-le-length, length-filter}
use Rattle.prime_field.specs.Residues.{IsSmallPrime}
use Rattle.kh_types.specs.Acceptance.{accepted}
use Rattle.kh_types.specs.CircleNumbers.{IsName}
use Rattle.kh_types.specs.Code.{Code}
use Rattle.kh_types.specs.Generators.{generators_at}
use Rattle.kh_types.specs.Table.{IsWithin, Row, Table, dimension, from_minus, is_shown, table}
use Rattle.kh_types.specs.declared.limits.TheConstants.{CROSSINGS, EXPONENT}
use Rattle.kh_types.proofs.AcceptedLemmas.{IsAccepted-is}
use Rattle.kh_types.proofs.QuantumDegrees.{generators_at-within, within_or_not}
use Rattle.circle_smoothing.specs.GeneratorCounts.{generator_count}
use Rattle.circle_smoothing.specs.declared.limits.TheConstants.{GENERATORS}
use Rattle.homology_tables.proofs.TableLemmas.{IsTable-table}
use Rattle.union_laws.specs.Loops.{with_loops}
use Rattle.union_laws.proofs.Loops.{dimension-loops, fewer-loops}
use Rattle.reduced_cube.specs.Reduced.{is_reduced, reduced_dimension, reduced_table}
use Rattle.reduced_cube.proofs.ReducedSums.{reduced-outside}
use Rattle.mark_laws.proofs.TwoElements.{dimension-twice}
use Rattle.kh_work.proofs.BareCodes.{generator_count-loops}
use Rattle.kh_types.proofs.Lists.{All-flat_map, Contains-filter, Contains-flat_map, Contains-map}
use Rattle.kh_types.proofs.RowSums.{row_by, rows_by}
use Rattle.homology_tables.specs.DegreeRows.{rows_with}
use Rattle.homology_tables.specs.Tables.{IsTable, dim_at, is_at}
use Rattle.kh_work.specs.Circles.{beside_circle, table_with}
use Rattle.link_algebra.proofs.TurnedCodes.{small_prime-inverses}

-- the table of some dimensions
abbrev pub table_by : ℕ → ℕ → (ℤ → ℤ → ℕ) → Table
table_by p n dims = record { field = p; rows = flat_map (rows_by n dims) (from_minus EXPONENT) }

module _ (n : ℕ) (dims : ℤ → ℤ → ℕ) where
  -- a row has the dimension of its degrees
  abbrev IsOwn : Row → Type 0
  IsOwn row = row ≡ row_by dims row.j row.i

  abbrev all_rows : List Row
  all_rows = flat_map (rows_by n dims) (from_minus EXPONENT)

  -- each row of the table does, and the table has each row with a dimension above 0
  rows-own : All IsOwn all_rows
  rows-own =
      All-flat_map IsOwn (rows_by n dims) (from_minus EXPONENT)
      (λ j. All-filter is_shown IsOwn (map (row_by dims j) (from_minus n))
      (All-map IsOwn (row_by dims j) (from_minus n) (λ place i within. refl)))

  rows-has : (i j : ℤ) → IsWithin n i → IsWithin EXPONENT j → 0 < dims i j → Contains all_rows (row_by dims j i)
  rows-has i j i_within j_within above =
      Contains-flat_map (rows_by n dims) (from_minus EXPONENT) j (row_by dims j i) j_within
      (Contains-filter is_shown (map (row_by dims j) (from_minus n)) (row_by dims j i) (lt-ltb 0 (dims i j) above)
      (Contains-map (row_by dims j) (from_minus n) i i_within))

  module _ (i j : ℤ) where
    both : (a b : Bool) → (a && b) ≡ true → (a ≡ true) × (b ≡ true)
    both true b is = (refl, is)
    both false b is = absurd (false≢true is)

    -- what is found at two degrees is their dimension
    dim-own : (row : Row) → IsOwn row → is_at i j row ≡ true → row.dim ≡ dims i j
    dim-own row own at =
        let parts = both (int_eq row.i i) (int_eq row.j j) at in
        ap (λ (r : Row). r.dim) own
        ∙ ap₂ dims ((Decides-int_eq row.i i).0 parts.0) ((Decides-int_eq row.j j).0 parts.1)

    dim-found : (rows : List Row) → All IsOwn rows
        → option_map_or (λ row. row.dim) (find (is_at i j) rows) 0 ≡ cond (list_any (is_at i j) rows) (dims i j) 0
    dim-found [] are = refl
    dim-found (row ∷ rows) are =
        step (is_at i j row) (dim-own row (are 0 row (omega arith))) (dim-found rows (λ k d below. are (suc k) d (omega (arith, below))))
      where
        step : (b : Bool) → (b ≡ true → row.dim ≡ dims i j)
            → option_map_or (λ row. row.dim) (find (is_at i j) rows) 0 ≡ cond (list_any (is_at i j) rows) (dims i j) 0
            → option_map_or (λ row. row.dim) (cond b (Some row) (find (is_at i j) rows)) 0
            ≡ cond (b || list_any (is_at i j) rows) (dims i j) 0
        step true here later = here refl
        step false here later = later

    -- an element that passes a test shows that some does
    any-Contains : {X : Type 0} (test : X → Bool) (xs : List X) (x : X) → test x ≡ true → Contains xs x → list_any test xs ≡ true
    any-Contains test [] x passes (k, below, is) = absurd (omega arith)
    any-Contains test (y ∷ ys) x passes (zero, below, is) = ap (λ b. b || list_any test ys) (ap test is ∙ passes)
    any-Contains test (y ∷ ys) x passes (suc k, below, is) =
        ap (λ b. test y || b) (any-Contains test ys x passes (k, omega (arith, below), is)) ∙ or_true (test y)
      where
        or_true : (b : Bool) → (b || true) ≡ true
        or_true true = refl
        or_true false = refl

    at-itself : is_at i j (row_by dims j i) ≡ true
    at-itself = ap₂ (λ (a b : Bool). a && b) ((Decides-int_eq i i).1 refl) ((Decides-int_eq j j).1 refl)

    -- what the table of some dimensions has at two degrees
    dim_at-table_by : (p : ℕ) → (0 < dims i j → IsWithin n i × IsWithin EXPONENT j) → dim_at (table_by p n dims) i j ≡ dims i j
    dim_at-table_by p within = dim-found all_rows rows-own ∙ (elim (cases_lt 0 (dims i j)) [
      | inl above ↦
          ap (λ b. cond b (dims i j) 0)
          (any-Contains (is_at i j) all_rows (row_by dims j i) at-itself (rows-has i j (within above).0 (within above).1 above))
      | inr nothing ↦ hidden (list_any (is_at i j) all_rows) (dims i j) nothing
    ])
      where
        hidden : (b : Bool) (d : ℕ) → d ≤ 0 → cond b d 0 ≡ d
        hidden true d few = refl
        hidden false d few = omega (arith, few)

-- a table beside a circle is that of dimensions which are sums of two
pub beside_circle-dims : (p n : ℕ) (dims next : ℤ → ℤ → ℕ) → ((i j : ℤ) → 0 < dims i j → IsWithin n i × IsWithin EXPONENT j)
    → ((i j : ℤ) → next i j ≡ dims i (j -ℤ pos 1) + dims i (j +ℤ pos 1)) → beside_circle n (table_by p n dims) ≡ table_by p n next
unfolding beside_circle
beside_circle-dims p n dims next within is =
    let dim : (i j : ℤ) → dim_at (table_by p n dims) i j ≡ dims i j = λ i j. dim_at-table_by n dims i j p (within i j) in
    ap (λ (rows : ℤ → List Row). let whole : Table = record { field = p; rows = flat_map rows (from_minus EXPONENT) } in whole)
    (fun_ext (λ j. ap (rows_with n j)
    (fun_ext (λ i. ap₂ (λ (a b : ℕ). a + b) (dim i (j -ℤ pos 1)) (dim i (j +ℤ pos 1)) ∙ sym (is i j)))))

-- one loop more
module _ (p : ℕ) (code : Code) (small : IsSmallPrime p) (is : IsTrue (accepted code)) (few : length code.crossings ≤ CROSSINGS) where
  pub beside_circle-loop : (k : ℕ) → k < code.loops
      → beside_circle (length code.crossings) (table p (with_loops code k)) ≡ table p (with_loops code (k + 1))
  beside_circle-loop k less =
      let field = small_prime-inverses p small in
      let now = with_loops code k in
      let now_is = fewer-loops code k is (omega (arith, less)) in
      let next_is = fewer-loops code (suc k) is (omega (arith, less)) in
      let e : suc k ≡ k + 1 = omega arith in
      beside_circle-dims p (length code.crossings) (dimension p now) (dimension p (with_loops code (suc k)))
      (λ i j above. generators_at-within now i j ((IsAccepted-is now).0 now_is) few (omega (arith, above)))
      (λ i j. dimension-loops p code field (suc k) next_is i j
      ∙ sym (ap₂ (λ (a b : ℕ). a + b) (dimension-loops p code field k now_is i (j -ℤ pos 1))
      (dimension-loops p code field k now_is i (j +ℤ pos 1))))
      ∙ ap (λ m. table p (with_loops code m)) e

  -- the same of tables that are given
  pub table_with-first : (bare : Table) → bare ≡ table p (with_loops code 0) → bare ≡ table_with p code 0
  unfolding table_with
  table_with-first bare is_bare = is_bare

  pub table_with-more : (made next : Table) (n k : ℕ) → n ≡ length code.crossings → k < code.loops → made ≡ table_with p code k
      → next ≡ beside_circle n made → next ≡ table_with p code (k + 1)
  unfolding table_with
  table_with-more made next n k is_n less is_made is_next =
      is_next ∙ ap₂ beside_circle is_n is_made ∙ beside_circle-loop k less

  pub table_with-last : (made : Table) (k : ℕ) → k ≡ code.loops → made ≡ table_with p code k → made ≡ table p code
  unfolding table_with
  table_with-last made k is_k is_made = is_made ∙ ap (λ m. table p (with_loops code m)) is_k

  -- beside a circle it is a table again
  pub IsTable-more : (made : Table) (n k : ℕ) → n ≡ length code.crossings → k < code.loops → generator_count code ≤ GENERATORS
      → made ≡ table_with p code k → IsTable (beside_circle n made)
  unfolding table_with
  IsTable-more made n k is_n less size is_made =
      subst IsTable (sym (ap₂ beside_circle is_n is_made ∙ beside_circle-loop k less))
      (IsTable-table p (with_loops code (k + 1)) few
      (omega (arith, size, generator_count-loops code (k + 1) is (omega (arith, less)))) small)

-- over two elements the table is the reduced table beside a circle, with whatever mark
beside_circle-reduced : (code : Code) (mark : ℕ) → IsTrue (accepted code) → length code.crossings ≤ CROSSINGS → IsName code mark
    → beside_circle (length code.crossings) (reduced_table 2 code mark) ≡ table 2 code
beside_circle-reduced code mark is few name =
    let dims : ℤ → ℤ → ℕ = λ i j. reduced_dimension 2 code mark i j in
    let Within : ℤ → ℤ → Type 0 = λ i j. IsWithin (length code.crossings) i × IsWithin EXPONENT j in
    beside_circle-dims 2 (length code.crossings) dims (dimension 2 code)
    (λ i j above. (reduced-within_i i j above, reduced-within_j i j above))
    (λ i j. dimension-twice code mark i j is name)
  where
    reduced-within_i : (i j : ℤ) → 0 < reduced_dimension 2 code mark i j → IsWithin (length code.crossings) i
    reduced-within_i i j above =
        let all = generators_at code i (j -ℤ pos 1) in
        let some : 0 < length all =
        omega (arith, above, length-filter (is_reduced code mark) all, count_by-le-length (is_reduced code mark) all) in
        (generators_at-within code i (j -ℤ pos 1) ((IsAccepted-is code).0 is) few some).0

    reduced-within_j : (i j : ℤ) → 0 < reduced_dimension 2 code mark i j → IsWithin EXPONENT j
    reduced-within_j i j above = elim (within_or_not EXPONENT j) [
      | inl within ↦ within
      | inr outside ↦ absurd (omega (arith, above, ap length (reduced-outside code mark i j is few name outside)))
    ]

-- the same of a reduced table that is given
module _ (p : ℕ) (code : Code) (mark : ℕ) (two : p ≡ 2) (is : IsTrue (accepted code)) (few : length code.crossings ≤ CROSSINGS)
    (name : IsName code mark) (reduced : Table) (n : ℕ) (is_n : n ≡ length code.crossings) (is_reduced : reduced ≡ reduced_table p code mark)
  where
    pub whole-reduced : beside_circle n reduced ≡ table p code
    whole-reduced =
        ap₂ beside_circle is_n (is_reduced ∙ ap (λ q. reduced_table q code mark) two) ∙ beside_circle-reduced code mark is few name
        ∙ ap (λ q. table q code) (sym two)

    pub IsTable-whole : IsSmallPrime p → generator_count code ≤ GENERATORS → IsTable (beside_circle n reduced)
    IsTable-whole small size = subst IsTable (sym whole-reduced) (IsTable-table p code few size small)
