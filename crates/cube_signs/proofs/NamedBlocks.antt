-- The block from its names and its columns. Lists are compared place by place: two are the same if they have one length and the
-- same at each place. So the matrix that the columns of all generators of two degrees denote is the differential. The degrees of
-- a block follow one another from the least on, and behind the last there is no generator. Hence the complex that names and
-- columns make is the block with its names, degree by degree; the sizes and entries are as they need to be, and products are 0 as
-- in the block of the cube. A quantum degree that has a block has a generator, and so some homological degree. In the end the
-- same is said of names and columns in memory.
use Rattle.std.proofs.lemmas.Bool.Decides.{nat_tests}
use Rattle.std.proofs.Common.{◌≡◌, ℕ, zero, suc, ◌+◌, ◌^◌, ◌<◌, ◌≤◌, ◌∙◌, inl, inr, ℤ, pos, neg_ℤ, ◌+ℤ◌, ◌≤ℤ◌, List, [], ◌∷◌, ◌++◌, length, get_or, map, take, refl, sym, ap, ap₂, subst, arith, Bool, true, IsTrue}
use Rattle.std.specs.Prelude.{slice_index_or, ◌&&◌}
use Rattle.std.specs.Global.{Vec}
use Rattle.std.specs.List.{All, Contains, range_with_len}
use Rattle.std.specs.Ordering.{int_eq}
use Rattle.std.proofs.lemmas.Bool.{cases_lt}
use Rattle.std.proofs.lemmas.Bool.Decides.{Decides-int_eq}
use Rattle.std.proofs.lemmas.Int.{ints}
use Rattle.std.proofs.lemmas.List.{get_or-map, get_or_past, length-map, nil_from_length, take_all, take_more}
use Rattle.std.proofs.lemmas.List.Elements.{All-from_get_or, All-map, All-nil, filter_passes}
use Rattle.std.proofs.lemmas.List.Folds.{Any-from_list_any}
use Rattle.std.proofs.lemmas.List.FromFn.{get_or-map-range_with_len, length-map-range_with_len}
use Rattle.kh_types.specs.Acceptance.{accepted}
use Rattle.kh_types.specs.Code.{Code}
use Rattle.kh_types.specs.Complex.{Degree, product_entry}
use Rattle.kh_types.specs.Differential.{coefficient, differential}
use Rattle.kh_types.specs.Generators.{Generator, generator_of, generators, generators_at, has_degrees, homological_degree, quantum_degree}
use Rattle.kh_types.specs.History.{first_or_zero, homological_degrees}
use Rattle.kh_types.specs.Table.{from_minus}
use Rattle.kh_types.proofs.Lists.{Contains-filter}
use Rattle.kh_types.proofs.Ranges.{map_from_zero}
use Rattle.circle_smoothing.specs.GeneratorCounts.{generator_count}
use Rattle.circle_smoothing.specs.declared.limits.TheConstants.{GENERATORS}
use Rattle.sparse_block.specs.Complexes.{NamedComplex, all_alive, degree_from_lists, degrees_from, matrix_from, sparse_complex}
use Rattle.sparse_block.specs.Entries.{Entry, value_at, AreEntries}
use Rattle.sparse_block.specs.Inside.{lists_in}
use Rattle.sparse_block.proofs.BuildLemmas.{sizes-all_alive}
use Rattle.sparse_block.proofs.DegreeLemmas.{length-at}
use Rattle.kh_types.specs.declared.limits.TheConstants.{EXPONENT}
use Rattle.cube_signs.specs.Blocks.{block_degrees, has_block, named_block}
use Rattle.cube_signs.specs.Columns.{generators_from, AreAllColumns, AreParts, AreWholeColumns}
use Rattle.square_laws.proofs.BlockComplexes.{product_entry-block}
use Rattle.square_laws.proofs.BlockDegrees.{cube_degree, degree-at, degree-found, first_degree}
use Rattle.cube_signs.proofs.GeneratorPlaces.{length-generators_at}
use Rattle.std.proofs.lemmas.Simd.{map-map}

-- lists by their places
take-at : {X : Type 0} (n : ℕ) (xs : List X) (d : X) → n ≤ length xs → take n xs ≡ map (λ k. get_or xs k d) (range_with_len 0 n)
take-at zero xs d within = refl
take-at {X} (suc n) xs d within =
    let e : suc n ≡ n + 1 = omega arith in
    ap (λ k. take k xs) e ∙ take_more xs n d (omega arith)
    ∙ ap (λ (ys : List X). ys ++ get_or xs n d ∷ []) (take-at n xs d (omega arith))
    ∙ sym (map_from_zero (λ k. get_or xs k d) n) ∙ ap (λ m. map (λ k. get_or xs k d) (range_with_len 0 m)) (sym e)

pub at-places : {X : Type 0} (xs : List X) (d : X) → xs ≡ map (λ k. get_or xs k d) (range_with_len 0 (length xs))
at-places xs d = sym (take_all (length xs) xs (omega arith)) ∙ take-at (length xs) xs d (omega arith)

pub map-alike : {X : Type 0} (f g : ℕ → X) (n : ℕ) → ((k : ℕ) → k < n → f k ≡ g k)
    → map f (range_with_len 0 n) ≡ map g (range_with_len 0 n)
map-alike f g zero same = refl
map-alike {X} f g (suc n) same =
    let e : suc n ≡ n + 1 = omega arith in
    ap (λ m. map f (range_with_len 0 m)) e ∙ map_from_zero f n
    ∙ ap₂ (λ (xs : List X) (x : X). xs ++ x ∷ []) (map-alike f g n (λ k below. same k (omega arith))) (same n (omega arith))
    ∙ sym (map_from_zero g n) ∙ ap (λ m. map g (range_with_len 0 m)) (sym e)

-- the image of a list, by the places of another
pub map-places : {X Y : Type 0} (f : X → Y) (g : ℕ → Y) (xs : List X) (d : X) (n : ℕ) → length xs ≡ n
    → ((k : ℕ) → k < n → f (get_or xs k d) ≡ g k) → map f xs ≡ map g (range_with_len 0 n)
map-places f g xs d n size same =
    ap (map f) (at-places xs d) ∙ map-map f (λ k. get_or xs k d) (range_with_len 0 (length xs))
    ∙ ap (λ m. map (λ k. f (get_or xs k d)) (range_with_len 0 m)) size ∙ map-alike (λ k. f (get_or xs k d)) g n same

-- the matrix that columns denote
matrix-columns : (p : ℕ) (code : Code) (i j : ℤ) (columns : List (List Entry))
    → AreWholeColumns p code i j columns → matrix_from (length (generators_at code (i +ℤ pos 1) j)) columns ≡ differential p code i j
matrix-columns p code i j columns are =
    let tails = generators_at code i j in
    let heads = generators_at code (i +ℤ pos 1) j in
    let d = generator_of 0 0 in
    sym (map-places (λ head. map (λ tail. coefficient p code tail head) tails)
    (λ row. map (λ column. value_at column row) columns) heads d (length heads) refl
    (λ row within.
    map-places (λ tail. coefficient p code tail (get_or heads row d)) (λ k. value_at (get_or columns k []) row) tails d (length tails)
    refl (λ k below. sym ((are.each k below).values row within))
    ∙ sym (map-places (λ column. value_at column row) (λ k. value_at (get_or columns k []) row) columns [] (length tails) are.size
    (λ k below. refl))))

-- the degrees of a block, from the least one on
pub degrees-from : (code : Code) (j low : ℤ) (count : ℕ) → low ≡ first_or_zero (homological_degrees code j)
    → count ≡ length (homological_degrees code j) → homological_degrees code j ≡ map (λ k. low +ℤ pos k) (range_with_len 0 count)
degrees-from code j low count is_low is_count =
    at-places (homological_degrees code j) (pos 0)
    ∙ ap (λ n. map (λ k. get_or (homological_degrees code j) k (pos 0)) (range_with_len 0 n)) (sym is_count)
    ∙ map-alike (λ k. get_or (homological_degrees code j) k (pos 0)) (λ k. low +ℤ pos k) count
    (λ k below.
    degree-at code j k (pos 0) (omega (arith, below, is_count)) ∙ ap (λ (d : ℤ). d +ℤ pos k) (sym is_low))

-- no generator stands behind the last degree
none-behind : (code : Code) (j : ℤ) → generators_at code (first_degree code j +ℤ pos (length (homological_degrees code j))) j ≡ []
none-behind code j = elim (cases_lt 0 (length (generators_at code (first_degree code j +ℤ pos (length (homological_degrees code j))) j))) [
  | inr none ↦
      nil_from_length (generators_at code (first_degree code j +ℤ pos (length (homological_degrees code j))) j) (omega arith)
  | inl some ↦
      let found = degree-found code (first_degree code j +ℤ pos (length (homological_degrees code j))) j some in
      let same : found.0 ≡ length (homological_degrees code j) = omega (arith, ints, found.2) in
      absurd (omega (arith, found.1, same))
]

-- a degree by its parts, and a complex with names by its own
abbrev degree_of : List Bool → List (List ℕ) → Degree
degree_of alive matrix = record { alive = alive; matrix = matrix }

abbrev pub named_of : ℤ → List Degree → List (List Generator) → NamedComplex
named_of low degrees names = record { complex = record { low = low; degrees = degrees }; names = names }

pub AreParts-columns : (p : ℕ) (code : Code) (j low : ℤ) (count : ℕ) (names : List (List Generator)) (columns : List (List (List Entry)))
    → 1 < p → IsTrue (accepted code) → generator_count code ≤ GENERATORS → 0 < count → neg_ℤ (pos 32) ≤ℤ low → (low +ℤ pos count) ≤ℤ pos 32
    → low ≡ first_or_zero (homological_degrees code j)
    → count ≡ length (homological_degrees code j) → names ≡ generators_from code low j count → AreAllColumns p code low j count columns
    → AreParts p code j low names columns
AreParts-columns p code j low count names columns prime is_code size some above below is_low is_count is_names are =
    record {
      some = omega (arith, some, length-names);
      start = above;
      end = omega (arith, ints, below, length-names);
      counts = subst (λ (names : List (List Generator)). All (λ degree. length degree < 2 ^ 29) names) (sym is_names)
          (All-map (λ (degree : List Generator). length degree < 2 ^ 29) (λ k. generators_at code (low +ℤ pos k) j)
          (range_with_len 0 count)
          (λ k d within. omega (arith, length-generators_at code (low +ℤ pos (get_or (range_with_len 0 count) k d)) j size)));
      sizes = map-places length (λ k. length (at k)) columns [] count are.size (λ k below. (are.each k below).size)
          ∙ sym (map-places length (λ k. length (at k)) names [] count length-names (λ k below. ap length (name-at k below)));
      entries = λ k. elim (cases_lt k count) [
        | inl below ↦ entries-at k below
        | inr past ↦
            subst (λ (lines : List (List Entry)). All (AreEntries p (length (slice_index_or names (k + 1) []))) lines)
            (sym (get_or_past columns k [] (omega (arith, past, are.size))))
            (All-nil (AreEntries p (length (slice_index_or names (k + 1) []))))
      ];
      squares = λ i row column.
          ap (λ complex. product_entry p complex i row column) (ap (λ (n : NamedComplex). n.complex) same)
          ∙ product_entry-block p code j i row column (omega arith) is_code;
      is = same;
    }
  where
    at : ℕ → List Generator
    at k = generators_at code (low +ℤ pos k) j

    length-names : length names ≡ count
    length-names = ap length is_names ∙ length-map-range_with_len (λ k. generators_at code (low +ℤ pos k) j) 0 count

    name-at : (k : ℕ) → k < count → slice_index_or names k [] ≡ generators_at code (low +ℤ pos k) j
    name-at k below = grind (arith, nat_tests, get_or-map-range_with_len)

    next-name : (k : ℕ) → k < count → slice_index_or names (k + 1) [] ≡ generators_at code (low +ℤ pos k +ℤ pos 1) j
    next-name k below =
        let e : low +ℤ pos (k + 1) ≡ low +ℤ pos k +ℤ pos 1 = omega (arith, ints) in
        elim (cases_lt (k + 1) count) [
          | inl within ↦ name-at (k + 1) within ∙ ap (λ (i : ℤ). generators_at code i j) e
          | inr past ↦
              let last : k + 1 ≡ length (homological_degrees code j) = omega (arith, below, past, is_count) in
              get_or_past names (k + 1) [] (omega (arith, past, length-names))
              ∙ sym (ap (λ (i : ℤ). generators_at code i j) (sym e ∙ ap₂ (λ (d : ℤ) (n : ℕ). d +ℤ pos n) is_low last) ∙ none-behind code j)
        ]

    entries-at : (k : ℕ) → k < count → All (AreEntries p (length (slice_index_or names (k + 1) []))) (slice_index_or columns k [])
    entries-at k below =
        let here = are.each k below in
        All-from_get_or (AreEntries p (length (slice_index_or names (k + 1) []))) (slice_index_or columns k []) []
        (λ m within.
        subst (λ (size : ℕ). AreEntries p size (slice_index_or (slice_index_or columns k []) m []))
        (sym (ap length (next-name k below))) (here.each m (omega (arith, within, here.size))).are)

    hd : homological_degrees code j ≡ map (λ k. low +ℤ pos k) (range_with_len 0 count)
    hd = degrees-from code j low count is_low is_count

    all-names : names ≡ map (λ i. generators_at code i j) (homological_degrees code j)
    all-names = grind (arith, nat_tests, map-map, hd)

    degree-at-place : (k : ℕ) → k < count → degree_from_lists (all_alive names) columns k ≡ cube_degree p code j (low +ℤ pos k)
    degree-at-place k below =
        let trues : List Generator → List Bool = λ degree. map (λ name. true) degree in
        let alive : slice_index_or (all_alive names) k [] ≡ trues (generators_at code (low +ℤ pos k) j) =
        get_or-map trues names k [] [] (omega (arith, below, length-names)) ∙ ap trues (name-at k below) in
        let height : length (slice_index_or (all_alive names) (k + 1) []) ≡ length (generators_at code (low +ℤ pos k +ℤ pos 1) j) =
        length-at (all_alive names) names (k + 1) (sizes-all_alive names) ∙ ap length (next-name k below) in
        ap₂ degree_of (alive)
        (ap (λ h. matrix_from h (slice_index_or columns k [])) height
        ∙ matrix-columns p code (low +ℤ pos k) j (slice_index_or columns k []) (are.each k below))

    all-degrees : degrees_from (all_alive names) columns ≡ map (cube_degree p code j) (homological_degrees code j)
    all-degrees = grind (arith, nat_tests, length-map, length-names, map-alike, cube_degree, degree-at-place, map-map, hd)

    same : sparse_complex low names columns ≡ named_block p code j
    same = grind (arith, nat_tests, all-degrees, all-names)

-- a quantum degree of a block has a generator, so the block has a degree
pub block-some : (code : Code) (j : ℤ) → Contains (block_degrees code) j → 0 < length (homological_degrees code j)
unfolding block_degrees
block-some code j has =
    let degrees = from_minus EXPONENT in
    let passes : has_block code j ≡ true =
    ap (has_block code) (sym has.2) ∙ filter_passes (has_block code) degrees has.0 j has.1 in
    let found = Any-from_list_any (λ generator. int_eq (quantum_degree code generator) j) (generators code) passes in
    let i = homological_degree code found.1 in
    let both : has_degrees code i j found.1 ≡ true = ap₂ (λ a b. a && b) ((Decides-int_eq i i).1 refl) found.4 in
    let there = Contains-filter (has_degrees code i j) (generators code) found.1 both (found.0, found.2, found.3) in
    let degree = degree-found code i j (omega (arith, there.1)) in
    omega (arith, degree.1)

-- the names and the columns in memory
pub block-built : (p : ℕ) (code : Code) (j other low : ℤ) (count : ℕ) (names slice : List (Vec Generator))
    (columns : List (List (List Entry))) → 1 < p → IsTrue (accepted code) → generator_count code ≤ GENERATORS → 0 < count
    → neg_ℤ (pos 32) ≤ℤ low → (low +ℤ pos count) ≤ℤ pos 32 → other ≡ j
    → low ≡ first_or_zero (homological_degrees code other) → count ≡ length (homological_degrees code other)
    → lists_in names ≡ generators_from code low other count → slice ≡ names → AreAllColumns p code low other (length slice) columns
    → AreParts p code j low (lists_in names) columns
block-built p code j other low count names slice columns prime is_code size some above below is_j is_low is_count is_names is_slice are =
    let long : length slice ≡ count =
    ap length is_slice ∙ sym (length-map names (λ (v : Vec Generator). v.items)) ∙ ap length is_names
    ∙ length-map-range_with_len (λ k. generators_at code (low +ℤ pos k) other) 0 count in
    let all : AreAllColumns p code low other count columns =
    subst (λ (n : ℕ). AreAllColumns p code low other n columns) long are in
    subst (λ (j : ℤ). AreParts p code j low (lists_in names) columns) is_j
    (AreParts-columns p code other low count (lists_in names) columns prime is_code size some above below is_low is_count is_names all)

pub length-names : (code : Code) (low j : ℤ) (count : ℕ) (names : List (Vec Generator)) → lists_in names ≡ generators_from code low j count
    → length names ≡ count
length-names code low j count names is = grind (arith, nat_tests, length-map, length-map-range_with_len)
