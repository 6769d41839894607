-- The block over chosen generators is a complex, and it is made of its names and its columns. The differential is taken to lead
-- from chosen generators to chosen ones alone: so in a product the middle generators that are not chosen add 0, and the
-- coefficients square to zero as they do in the whole cube. Beyond the degrees from -n to n there are no generators. So the lists
-- of chosen generators make a complex. Next come the steps of the loops: the names, the places and the columns of one homological
-- degree more. In the end the matrices that the columns denote are those of the coefficients, degree by degree; so the complex
-- that names and columns make is the block, with the sizes and entries that it needs.
use Rattle.std.proofs.lemmas.Bool.Decides.{nat_tests}
use Rattle.std.proofs.Common.{◌≡◌, ℕ, inl, inr, ◌+◌, ◌*◌, ◌%◌, ◌^◌, ◌<◌, ◌≤◌, ◌∙◌, ℤ, pos, neg_ℤ, ◌+ℤ◌, ◌-ℤ◌, List, [], ◌∷◌, ◌++◌, length, get_or, map, refl, sym, ap, ap₂, subst, arith, Bool, true, cond, IsTrue}
use Rattle.std.specs.Prelude.{slice_index_or}
use Rattle.std.specs.List.{All, filter, range_with_len, sum_by}
use Rattle.std.proofs.lemmas.Bool.{cases_Bool, cases_lt}
use Rattle.std.proofs.lemmas.Int.{ints}
use Rattle.std.proofs.lemmas.List.{get_or-map, get_or_past, length-map, length_push, nil_from_length}
use Rattle.std.proofs.lemmas.List.Elements.{All-filter, All-from_get_or, All-head, All-map, All-nil, All-tail, filter_passes}
use Rattle.std.proofs.lemmas.List.FromFn.{get_or-map-range_with_len, length-map-range_with_len}
use Rattle.std.proofs.lemmas.List.Sums.{count_by-le-length, length-filter, sum_by-cons}
use Rattle.kh_types.specs.Acceptance.{accepted}
use Rattle.kh_types.specs.Code.{Code}
use Rattle.kh_types.specs.Complex.{Degree, IsComplex, product_entry}
use Rattle.kh_types.specs.Differential.{coefficient}
use Rattle.kh_types.specs.Generators.{Generator, generator_of, generators_at, homological_degree, quantum_degree}
use Rattle.kh_types.specs.Table.{IsWithin, from_minus}
use Rattle.kh_types.proofs.ListSums.{sum_by-filter}
use Rattle.kh_types.proofs.Lists.{All-some}
use Rattle.kh_types.proofs.QuantumDegrees.{generators_at-degrees, homological_degree-within, place-IsWithin}
use Rattle.circle_smoothing.specs.GeneratorCounts.{generator_count}
use Rattle.circle_smoothing.specs.declared.limits.TheConstants.{GENERATORS}
use Rattle.sparse_block.specs.Complexes.{NamedComplex, all_alive, degree_from_lists, degrees_from, matrix_from, sparse_complex}
use Rattle.sparse_block.specs.Entries.{Entry, value_at, AreEntries}
use Rattle.sparse_block.proofs.BuildLemmas.{sizes-all_alive}
use Rattle.sparse_block.proofs.DegreeLemmas.{length-at}
use Rattle.square_laws.proofs.PlainSquares.{product_sum-at}
use Rattle.cube_signs.specs.Chosen.{chosen_at, chosen_block, coefficients, list_degree, IsClosed}
use Rattle.cube_signs.specs.ChosenParts.{all_places, all_places_to, chosen_to, AreChosenParts, AreMovedColumns}
use Rattle.cube_signs.specs.Columns.{IsTail}
use Rattle.cube_signs.proofs.BlockLemmas.{are-tails}
use Rattle.cube_signs.proofs.ChosenColumns.{AreChosenColumns, AreColumnsTo, AreColumnsTo-moved}
use Rattle.cube_signs.proofs.GeneratorPlaces.{length-generators_at}
use Rattle.cube_signs.proofs.ListComplexes.{AreLists, IsComplex-list_complex}
use Rattle.cube_signs.proofs.ListMatrices.{SquareToZero, between, generator_number}
use Rattle.cube_signs.proofs.NamedBlocks.{map-alike, map-places, named_of}
use Rattle.cube_signs.proofs.StateLists.{images-more}
use Rattle.cube_signs.proofs.StepLemmas.{each-more}
use Rattle.std.proofs.lemmas.Simd.{map-map}
use Rattle.kh_types.proofs.Sums.{times-zero}

-- sums over a list whose elements have the same terms
sum_by-same : {X : Type 0} (f g : X → ℕ) (xs : List X) → All (λ x. f x ≡ g x) xs → sum_by f xs ≡ sum_by g xs
sum_by-same f g [] same = refl
sum_by-same f g (x ∷ xs) same =
    sum_by-cons f x xs
    ∙ ap₂ (λ (m n : ℕ). m + n) (All-head (λ y. f y ≡ g y) x xs same) (sum_by-same f g xs (All-tail (λ y. f y ≡ g y) x xs same))
    ∙ sym (sum_by-cons g x xs)

-- the sum over the chosen middle generators is that over all of their degrees, since all others have the coefficient 0
chosen-between : (choice : Generator → Bool) (p : ℕ) (code : Code) (i j : ℤ) (tail head : Generator) → IsClosed choice p code
    → tail.state < 2 ^ length code.crossings → choice tail ≡ true
    → between p code (chosen_at choice code i j) tail head ≡ between p code (generators_at code i j) tail head
chosen-between choice p code i j tail head closed below chosen =
    let term = λ (middle : Generator). coefficient p code middle head * coefficient p code tail middle in
    let gens = generators_at code i j in
    let tails = are-tails code i j gens refl in
    let terms : All (λ middle. cond (choice middle) (term middle) 0 ≡ term middle) gens =
    λ k d within.
    let middle = get_or gens k d in
    elim (cases_Bool (choice middle)) [
      | inl inside ↦ ap (λ b. cond b (term middle) 0) inside
      | inr outside ↦
          ap (λ b. cond b (term middle) 0) outside
          ∙ sym (times-zero (coefficient p code middle head) (coefficient p code tail middle)
          (closed.each tail middle below (tails k d within).state_below chosen outside))
    ] in
    sum_by-filter term choice gens ∙ sum_by-same (λ middle. cond (choice middle) (term middle) 0) term gens terms

chosen-square : (choice : Generator → Bool) (p : ℕ) (code : Code) (j i : ℤ) → 0 < p → IsTrue (accepted code) → IsClosed choice p code
    → SquareToZero p code (chosen_at choice code i j) (chosen_at choice code (i +ℤ pos 1) j)
chosen-square choice p code j i positive is closed =
    let all = generators_at code i j in
    record {
      at = λ column head within.
          let d = generator_of 0 0 in
          let tail = generator_number (chosen_at choice code i j) column in
          let tails : IsTail code i j tail = All-filter choice (IsTail code i j) all (are-tails code i j all refl) column d within in
          ap (λ s. s % p)
          (chosen-between choice p code (i +ℤ pos 1) j tail head closed tails.state_below (filter_passes choice all column d within))
          ∙ product_sum-at p code i j tail head positive is tails.passes;
    }

-- no generator has a degree beyond n in size
pub none_beyond : (code : Code) (i j : ℤ) → (IsWithin (length code.crossings) i → ⊥) → generators_at code i j ≡ []
none_beyond code i j outside = elim (cases_lt 0 (length (generators_at code i j))) [
  | inl some ↦
      let found = All-some (λ g. (homological_degree code g ≡ i) × (quantum_degree code g ≡ j)) (generators_at code i j)
      (generators_at-degrees code i j) some in
      absurd (outside (subst (λ (x : ℤ). IsWithin (length code.crossings) x) found.1.0 (homological_degree-within code found.0)))
  | inr none ↦ nil_from_length (generators_at code i j) (omega arith)
]

pub chosen-beyond : (choice : Generator → Bool) (code : Code) (j i : ℤ) → (IsWithin (length code.crossings) i → ⊥)
    → chosen_at choice code i j ≡ []
chosen-beyond choice code j i outside = ap (filter choice) (none_beyond code i j outside)

pub AreLists-chosen : (choice : Generator → Bool) (p : ℕ) (code : Code) (j : ℤ) → 0 < p → IsTrue (accepted code)
    → IsClosed choice p code → AreLists p code (length code.crossings) (λ i. chosen_at choice code i j)
AreLists-chosen choice p code j positive is closed = grind (arith, nat_tests, chosen-beyond, chosen-square)

pub IsComplex-chosen : (choice : Generator → Bool) (p : ℕ) (code : Code) (j : ℤ) → 1 < p → IsTrue (accepted code)
    → IsClosed choice p code → IsComplex p (chosen_block choice p code j).complex
IsComplex-chosen choice p code j above is closed = grind (arith, nat_tests, IsComplex-list_complex, AreLists-chosen)

-- one degree more

pub degree-turned : (n k : ℕ) (low i : ℤ) → low ≡ neg_ℤ (pos n) → i ≡ low +ℤ pos k → i ≡ pos k -ℤ pos n
degree-turned n k low i is_low is_i = omega (arith, ints)

pub chosen-more : (choice : Generator → Bool) (code : Code) (low i j other : ℤ) (k : ℕ) (names : List Generator)
    (made next : List (List Generator)) → made ≡ chosen_to choice code j k → low ≡ neg_ℤ (pos (length code.crossings))
    → i ≡ low +ℤ pos k → other ≡ j → names ≡ chosen_at choice code i other → next ≡ made ++ names ∷ []
    → next ≡ chosen_to choice code j (k + 1)
chosen-more choice code low i j other k names made next is_made is_low is_i is_j is is_next =
    grind (arith, nat_tests, images-more, degree-turned)

pub places-more : (choice : Generator → Bool) (code : Code) (low i j other : ℤ) (k : ℕ) (places : List ℕ)
    (made next : List (List ℕ)) → made ≡ all_places_to choice code j k → low ≡ neg_ℤ (pos (length code.crossings))
    → i ≡ low +ℤ pos k → other ≡ j → places ≡ all_places choice (generators_at code i other) → next ≡ made ++ places ∷ []
    → next ≡ all_places_to choice code j (k + 1)
places-more choice code low i j other k places made next is_made is_low is_i is_j is is_next =
    grind (arith, nat_tests, images-more, degree-turned)

-- the places of the next degree, of which there are none behind the last
pub places-behind : (choice : Generator → Bool) (code : Code) (j : ℤ) (k : ℕ) (lists : List (List ℕ))
    → lists ≡ all_places_to choice code j (2 * length code.crossings + 1) → k < 2 * length code.crossings + 1
    → slice_index_or lists (k + 1) []
    ≡ all_places choice (generators_at code (pos k -ℤ pos (length code.crossings) +ℤ pos 1) j)
places-behind choice code j k lists is below =
    let n = length code.crossings in
    let at : ℕ → List ℕ = λ m. all_places choice (generators_at code (pos m -ℤ pos n) j) in
    let e : pos (k + 1) -ℤ pos n ≡ pos k -ℤ pos n +ℤ pos 1 = omega (arith, ints) in
    ap (λ (xs : List (List ℕ)). get_or xs (k + 1) []) is
    ∙ (elim (cases_lt (k + 1) (2 * n + 1)) [
      | inl within ↦
          get_or-map-range_with_len at 0 (2 * n + 1) (k + 1) (k + 1) [] within (omega arith)
          ∙ ap (λ (i : ℤ). all_places choice (generators_at code i j)) e
      | inr past ↦
          get_or_past (map at (range_with_len 0 (2 * n + 1))) (k + 1) []
          (omega (arith, past, length-map-range_with_len at 0 (2 * n + 1)))
          ∙ sym (ap (all_places choice) (none_beyond code (pos k -ℤ pos n +ℤ pos 1) j
          (λ within.
          let place = place-IsWithin n (pos k -ℤ pos n +ℤ pos 1) within in
          omega (arith, ints, past, place.1, place.2))))
    ])

pub chosen_columns-more : (choice : Generator → Bool) (p : ℕ) (code : Code) (low i j other : ℤ) (k : ℕ) (names : List Generator)
    (rows : List ℕ) (columns : List (List Entry)) (made next : List (List (List Entry))) → IsClosed choice p code
    → AreChosenColumns choice p code j k made → low ≡ neg_ℤ (pos (length code.crossings)) → i ≡ low +ℤ pos k → other ≡ j
    → names ≡ chosen_at choice code (pos k -ℤ pos (length code.crossings)) j
    → rows ≡ all_places choice (generators_at code (pos k -ℤ pos (length code.crossings) +ℤ pos 1) j)
    → AreMovedColumns p code i other names rows columns → next ≡ made ++ columns ∷ []
    → AreChosenColumns choice p code j (k + 1) next
chosen_columns-more choice p code low i j other k names rows columns made next closed are is_low is_i is_j is_names is_rows more is_next =
    let n = length code.crossings in
    let at_i : AreMovedColumns p code (pos k -ℤ pos n) other names rows columns =
    subst (λ (i : ℤ). AreMovedColumns p code i other names rows columns) (degree-turned n k low i is_low is_i) more in
    let at_j : AreMovedColumns p code (pos k -ℤ pos n) j names rows columns =
    subst (λ (j : ℤ). AreMovedColumns p code (pos k -ℤ pos n) j names rows columns) is_j at_i in
    subst (AreChosenColumns choice p code j (k + 1)) (sym is_next) (record {
      size = length_push made columns ∙ ap (λ n. n + 1) are.size;
      each = each-more (λ k columns. AreColumnsTo p code (chosen_at choice code (pos k -ℤ pos n) j)
          (chosen_at choice code (pos k -ℤ pos n +ℤ pos 1) j) columns) made columns [] k are.size are.each
          (AreColumnsTo-moved choice p code (pos k -ℤ pos n) j names rows columns closed is_names is_rows at_j);
    })

-- the matrix that columns denote
matrix-columns : (p : ℕ) (code : Code) (tails heads : List Generator) (columns : List (List Entry))
    → AreColumnsTo p code tails heads columns → matrix_from (length heads) columns ≡ coefficients p code tails heads
matrix-columns p code tails heads columns are =
    let d = generator_of 0 0 in
    sym (map-places (λ head. map (λ tail. coefficient p code tail head) tails)
    (λ row. map (λ column. value_at column row) columns) heads d (length heads) refl
    (λ row within.
    map-places (λ tail. coefficient p code tail (get_or heads row d)) (λ k. value_at (get_or columns k []) row) tails d (length tails)
    refl (λ k below. sym ((are.each k below).values row within))
    ∙ sym (map-places (λ column. value_at column row) (λ k. value_at (get_or columns k []) row) columns [] (length tails) are.size
    (λ k below. refl))))

-- a degree by its parts, and a complex with names by its own
abbrev degree_of : List Bool → List (List ℕ) → Degree
degree_of alive matrix = record { alive = alive; matrix = matrix }

pub AreChosenParts-columns : (choice : Generator → Bool) (p : ℕ) (code : Code) (j : ℤ) (count : ℕ) (names : List (List Generator))
    (columns : List (List (List Entry))) → 1 < p → IsTrue (accepted code) → generator_count code ≤ GENERATORS
    → IsClosed choice p code → count ≡ 2 * length code.crossings + 1 → names ≡ chosen_to choice code j count
    → AreChosenColumns choice p code j count columns → AreChosenParts choice p code j names columns
AreChosenParts-columns choice p code j count names columns prime is_code size closed is_count is_names are =
    record {
      size = length-names ∙ is_count;
      counts = subst (λ (names : List (List Generator)). All (λ degree. length degree < 2 ^ 29) names) (sym is_names)
          (All-map (λ (degree : List Generator). length degree < 2 ^ 29) at (range_with_len 0 count)
          (λ k d within.
          let gens = generators_at code (pos (get_or (range_with_len 0 count) k d) -ℤ pos n) j in
          omega (
            arith,
            length-filter choice gens,
            count_by-le-length choice gens,
            length-generators_at code (pos (get_or (range_with_len 0 count) k d) -ℤ pos n) j size,
          )));
      sizes = map-places length (λ k. length (at k)) columns [] count are.size (λ k below. (are.each k below).size)
          ∙ sym (map-places length (λ k. length (at k)) names [] count length-names (λ k below. ap length (name-at k below)));
      entries = λ k. elim (cases_lt k count) [
        | inl below ↦ entries-at k below
        | inr past ↦
            subst (λ (lines : List (List Entry)). All (AreEntries p (length (slice_index_or names (k + 1) []))) lines)
            (sym (get_or_past columns k [] (omega (arith, past, are.size))))
            (All-nil (AreEntries p (length (slice_index_or names (k + 1) []))))
      ];
      squares = λ i row column.
          ap (λ complex. product_entry p complex i row column) (ap (λ (n : NamedComplex). n.complex) same)
          ∙ (IsComplex-chosen choice p code j prime is_code closed).product i row column;
      is = same;
    }
  where
    n : ℕ
    n = length code.crossings

    at : ℕ → List Generator
    at k = chosen_at choice code (pos k -ℤ pos (length code.crossings)) j

    length-names : length names ≡ count
    length-names = ap length is_names ∙ length-map-range_with_len at 0 count

    name-at : (k : ℕ) → k < count → slice_index_or names k [] ≡ at k
    name-at k below = grind (arith, nat_tests, get_or-map-range_with_len, at)

    next-name : (k : ℕ) → k < count
        → slice_index_or names (k + 1) [] ≡ chosen_at choice code (pos k -ℤ pos (length code.crossings) +ℤ pos 1) j
    next-name k below =
        let e : pos (k + 1) -ℤ pos (length code.crossings) ≡ pos k -ℤ pos (length code.crossings) +ℤ pos 1 = omega (arith, ints) in
        elim (cases_lt (k + 1) count) [
          | inl within ↦ name-at (k + 1) within ∙ ap (λ (i : ℤ). chosen_at choice code i j) e
          | inr past ↦
              get_or_past names (k + 1) [] (omega (arith, past, length-names))
              ∙ sym (chosen-beyond choice code j (pos k -ℤ pos (length code.crossings) +ℤ pos 1)
              (λ within.
              let place = place-IsWithin (length code.crossings) (pos k -ℤ pos (length code.crossings) +ℤ pos 1) within in
              omega (arith, ints, past, is_count, place.1, place.2)))
        ]

    entries-at : (k : ℕ) → k < count → All (AreEntries p (length (slice_index_or names (k + 1) []))) (slice_index_or columns k [])
    entries-at k below =
        let here = are.each k below in
        All-from_get_or (AreEntries p (length (slice_index_or names (k + 1) []))) (slice_index_or columns k []) []
        (λ m within.
        subst (λ (size : ℕ). AreEntries p size (slice_index_or (slice_index_or columns k []) m []))
        (sym (ap length (next-name k below))) (here.each m (omega (arith, within, here.size))).are)

    degree-at-place : (k : ℕ) → k < count
        → degree_from_lists (all_alive names) columns k
        ≡ list_degree p code (λ i. chosen_at choice code i j) (pos k -ℤ pos (length code.crossings))
    degree-at-place k below =
        grind (arith, nat_tests, at, get_or-map, length-names, name-at, length-at, sizes-all_alive, next-name, matrix-columns)

    all-names : names ≡ map (λ i. chosen_at choice code i j) (from_minus (length code.crossings))
    all-names = grind (arith, nat_tests, at, map-map)

    all-degrees : degrees_from (all_alive names) columns
        ≡ map (list_degree p code (λ i. chosen_at choice code i j)) (from_minus (length code.crossings))
    all-degrees = grind (arith, nat_tests, length-map, length-names, n, map-alike, degree-at-place, map-map)

    same : sparse_complex (pos 0 -ℤ pos (length code.crossings)) names columns ≡ chosen_block choice p code j
    same = ap₂ (named_of (pos 0 -ℤ pos (length code.crossings))) all-degrees all-names
