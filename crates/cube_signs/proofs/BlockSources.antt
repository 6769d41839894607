-- The blocks before any cancellation, by their names and their columns one at a time: they are complexes with all places alive, and the
-- column of a generator is that of its place.
use Rattle.std.proofs.Common.{◌≡◌, ℕ, ◌+◌, ◌*◌, ◌^◌, ◌<◌, ◌≤◌, ◌∙◌, inl, inr, ℤ, pos, ◌+ℤ◌, ◌-ℤ◌, ◌≤ℤ◌, List, ◌++◌, length, get_or, map, take, take_all, drop, refl, sym, ap, subst, arith, Bool, true, IsTrue}
use Rattle.std.specs.Prelude.{slice_index_or, []}
use Rattle.std.specs.Global.{Vec}
use Rattle.std.specs.List.{Contains, filter, range_with_len}
use Rattle.std.proofs.lemmas.Bool.{cases_lt}
use Rattle.std.proofs.lemmas.Int.{ints}
use Rattle.std.proofs.lemmas.List.{append-nil, drop_all, get_or-map, get_or_default, length-map}
use Rattle.std.proofs.lemmas.List.Elements.{All-filter, All-map, filter_passes}
use Rattle.std.proofs.lemmas.List.FromFn.{get_or-map-range_with_len, length-map-range_with_len}
use Rattle.std.proofs.lemmas.List.Sums.{count_by-le-length, length-filter}
use Rattle.std.proofs.lemmas.Simd.{map-map}
use Rattle.kh_types.specs.Acceptance.{accepted}
use Rattle.kh_types.specs.Code.{Code}
use Rattle.kh_types.specs.Complex.{Degree}
use Rattle.kh_types.specs.Differential.{coefficient}
use Rattle.kh_types.specs.Generators.{Generator, generator_of, generators_at}
use Rattle.kh_types.specs.History.{block, first_or_zero, homological_degrees}
use Rattle.kh_types.specs.Table.{from_minus}
use Rattle.circle_smoothing.specs.GeneratorCounts.{generator_count}
use Rattle.circle_smoothing.specs.declared.limits.TheConstants.{GENERATORS}
use Rattle.sparse_block.specs.Entries.{Entry, AreEntries}
use Rattle.sparse_block.specs.Inside.{lists_in}
use Rattle.sparse_block.specs.Opening.{IsColumnOf, IsOpening}
use Rattle.sparse_block.proofs.AscendingLemmas.{entries-ascend}
use Rattle.sparse_block.proofs.EntryValues.{value_at-past}
use Rattle.sparse_block.proofs.LineLemmas.{list-lists_in, within-names}
use Rattle.square_laws.proofs.BlockComplexes.{IsComplex-block, entry-block, places-block}
use Rattle.square_laws.proofs.BlockDegrees.{cube_degree, degree-at, length-from_minus}
use Rattle.square_laws.proofs.Matrices.{entry-differential, entry-row_past}
use Rattle.cube_signs.specs.Blocks.{block_degrees, named_block}
use Rattle.cube_signs.specs.Chosen.{chosen_at, chosen_block, list_degree, IsClosed}
use Rattle.cube_signs.specs.ChosenParts.{chosen_to}
use Rattle.cube_signs.specs.Columns.{IsColumn, IsTail, generators_from}
use Rattle.cube_signs.proofs.BlockLemmas.{IsTail-at, are-tails}
use Rattle.cube_signs.proofs.ChosenBlocks.{IsComplex-chosen, chosen-beyond}
use Rattle.cube_signs.proofs.ChosenColumns.{IsColumnTo}
use Rattle.cube_signs.proofs.GeneratorPlaces.{length-generators_at}
use Rattle.cube_signs.proofs.ListComplexes.{entry-list_complex, places-list_complex}
use Rattle.cube_signs.proofs.ListMatrices as lists
use Rattle.cube_signs.proofs.NamedBlocks.{block-some, degrees-from}

-- the block at j
module _ (p : ℕ) (code : Code) (j : ℤ) where
  pub opening-block : 1 < p → IsTrue (accepted code) → generator_count code ≤ GENERATORS → Contains (block_degrees code) j
      → (first_or_zero (homological_degrees code j) +ℤ pos (length (homological_degrees code j))) ≤ℤ pos 32
      → IsOpening p (named_block p code j)
  opening-block prime is_code size has end =
      let degrees = homological_degrees code j in
      let at : ℤ → List Generator = λ i. generators_at code i j in
      let count : length (map at degrees) ≡ length degrees = length-map degrees at in
      record {
        some = omega (arith, count, block-some code j has);
        end = omega (arith, ints, count, end);
        counts = All-map (λ (degree : List Generator). length degree < 2 ^ 29) at degrees
            (λ k d within. omega (arith, length-generators_at code (get_or degrees k d) j size));
        is_complex = IsComplex-block p code j prime is_code;
        alive = map-map (λ (degree : Degree). degree.alive) (cube_degree p code j) degrees
            ∙ sym (map-map (λ (names : List Generator). map (λ name. true) names) at degrees);
      }

  -- its names, by how far their degrees are from the least one
  pub names-block : (low : ℤ) (count : ℕ) → low ≡ first_or_zero (homological_degrees code j)
      → count ≡ length (homological_degrees code j)
      → generators_from code low j count ≡ map (λ i. generators_at code i j) (homological_degrees code j)
  names-block low count is_low is_count =
      sym (ap (map (λ i. generators_at code i j)) (degrees-from code j low count is_low is_count)
      ∙ map-map (λ i. generators_at code i j) (λ k. low +ℤ pos k) (range_with_len 0 count))

  pub column-block : (i : ℤ) (place : ℕ) (tail : Generator) (entries : List Entry) → place < length (generators_at code i j)
      → tail ≡ get_or (generators_at code i j) place (generator_of 0 0) → IsColumn p code i j tail entries
      → IsColumnOf p (block p code j) i place entries
  column-block i place tail entries within is_tail column =
      let heads = generators_at code (i +ℤ pos 1) j in
      let d = generator_of 0 0 in
      record {
        are = subst (λ (n : ℕ). AreEntries p n entries) (sym (places-block p code j (i +ℤ pos 1))) column.are;
        values = λ row. elim (cases_lt row (length heads)) [
          | inl there ↦
              column.values row there ∙ ap (λ (tail : Generator). coefficient p code tail (get_or heads row d)) is_tail
              ∙ sym (entry-block p code j i row place ∙ entry-differential p code i j row place there within)
          | inr past ↦
              value_at-past p 0 (length heads) row entries (entries-ascend p (length heads) entries column.are) past
              ∙ sym (entry-block p code j i row place ∙ entry-row_past p code i j row place past)
        ];
      }

-- the block over chosen generators
module _ (choice : Generator → Bool) (p : ℕ) (code : Code) (j : ℤ) where
  abbrev n : ℕ
  n = length code.crossings

  abbrev at : ℤ → List Generator
  at i = chosen_at choice code i j

  pub opening-chosen : 1 < p → IsTrue (accepted code) → generator_count code ≤ GENERATORS → n ≤ 20 → IsClosed choice p code
      → IsOpening p (chosen_block choice p code j)
  opening-chosen prime is_code size few closed =
      let count : length (map at (from_minus n)) ≡ length (from_minus n) = length-map (from_minus n) at in
      record {
        some = omega (arith, count, length-from_minus n);
        end = omega (arith, ints, count, length-from_minus n, few);
        counts = All-map (λ (degree : List Generator). length degree < 2 ^ 29) at (from_minus n)
            (λ k d within.
            let gens = generators_at code (get_or (from_minus n) k d) j in
            omega (
              arith,
              length-filter choice gens,
              count_by-le-length choice gens,
              length-generators_at code (get_or (from_minus n) k d) j size,
            ));
        is_complex = IsComplex-chosen choice p code j prime is_code closed;
        alive = map-map (λ (degree : Degree). degree.alive) (list_degree p code at) (from_minus n)
            ∙ sym (map-map (λ (names : List Generator). map (λ name. true) names) at (from_minus n));
      }

  pub names-chosen : chosen_to choice code j (2 * n + 1) ≡ map (λ i. chosen_at choice code i j) (from_minus n)
  names-chosen = sym (map-map at (λ k. pos k -ℤ pos n) (range_with_len 0 (2 * n + 1)))

  pub column-chosen : (i : ℤ) (place : ℕ) (tail : Generator) (entries : List Entry) → place < length (at i)
      → tail ≡ get_or (at i) place (generator_of 0 0) → IsColumnTo p code (at (i +ℤ pos 1)) tail entries
      → IsColumnOf p (chosen_block choice p code j).complex i place entries
  column-chosen i place tail entries within is_tail column =
      let heads = at (i +ℤ pos 1) in
      let d = generator_of 0 0 in
      let beyond = chosen-beyond choice code j in
      record {
        are = subst (λ (n : ℕ). AreEntries p n entries) (sym (places-list_complex p code n at (i +ℤ pos 1) beyond)) column.are;
        values = λ row. elim (cases_lt row (length heads)) [
          | inl there ↦
              column.values row there ∙ ap (λ (tail : Generator). coefficient p code tail (get_or heads row d)) is_tail
              ∙ sym (entry-list_complex p code n at i row place beyond
              ∙ lists.entry-coefficients p code (at i) heads row place there within)
          | inr past ↦
              value_at-past p 0 (length heads) row entries (entries-ascend p (length heads) entries column.are) past
              ∙ sym (entry-list_complex p code n at i row place beyond ∙ lists.entry-row_past p code (at i) heads row place past)
        ];
      }

-- the generators of a degree in memory, one of which is at a place
pub record IsAtPlace (code : Code) (i j : ℤ) (degree : List Generator) (place : ℕ) (tail : Generator) : Type 0 where
  pub within : place < length degree
  pub tails : IsTail code i j tail
  pub is : tail ≡ get_or degree place (generator_of 0 0)

module _ (code : Code) (j : ℤ) (names : List (Vec Generator)) (k place : ℕ) (degree : Vec Generator) (tail : Generator)
    (within : k < length (lists_in names)) (there : place < length (slice_index_or (lists_in names) k []))
    (at : degree ≡ get_or names k degree) (is : tail ≡ get_or degree.items place tail) where
  names-degree : slice_index_or (lists_in names) k [] ≡ degree.items
  names-degree = list-lists_in names k degree (within-names names k within) at

  tail-there : place < length degree.items
  tail-there = subst (λ (names : List Generator). place < length names) names-degree there

  is_tail : tail ≡ get_or degree.items place (generator_of 0 0)
  is_tail = is ∙ get_or_default degree.items place tail (generator_of 0 0) tail-there

  -- of a block
  pub place-block : lists_in names ≡ map (λ i. generators_at code i j) (homological_degrees code j)
      → (degree.items ≡ generators_at code (first_or_zero (homological_degrees code j) +ℤ pos k) j)
      × IsAtPlace code (first_or_zero (homological_degrees code j) +ℤ pos k) j degree.items place tail
  place-block are =
      let degrees = homological_degrees code j in
      let i = first_or_zero degrees +ℤ pos k in
      let at_j : ℤ → List Generator = λ i. generators_at code i j in
      let inside : k < length degrees = omega (arith, within, ap length are, length-map degrees at_j) in
      let named : degree.items ≡ at_j i =
      sym names-degree ∙ ap (λ (names : List (List Generator)). slice_index_or names k []) are
      ∙ get_or-map at_j degrees k (pos 0) [] inside ∙ ap at_j (degree-at code j k (pos 0) inside) in (
        named,
        record {
          within = tail-there;
          tails = IsTail-at code i j degree.items place tail (are-tails code i j degree.items named) tail-there is;
          is = is_tail;
        },
      )

  -- of a block over chosen generators
  pub place-chosen : (choice : Generator → Bool) → lists_in names ≡ chosen_to choice code j (2 * length code.crossings + 1)
      → (degree.items ≡ chosen_at choice code (pos k -ℤ pos (length code.crossings)) j)
      × (k < 2 * length code.crossings + 1) × (choice tail ≡ true)
      × IsAtPlace code (pos k -ℤ pos (length code.crossings)) j degree.items place tail
  place-chosen choice are =
      let n = length code.crossings in
      let i = pos k -ℤ pos n in
      let all = generators_at code i j in
      let at_k : ℕ → List Generator = λ m. chosen_at choice code (pos m -ℤ pos n) j in
      let inside : k < 2 * n + 1 = omega (arith, within, ap length are, length-map-range_with_len at_k 0 (2 * n + 1)) in
      let named : degree.items ≡ filter choice all =
      sym names-degree ∙ ap (λ (names : List (List Generator)). slice_index_or names k []) are
      ∙ get_or-map-range_with_len at_k 0 (2 * n + 1) k k [] inside (omega arith) in
      let there : place < length (filter choice all) = omega (arith, tail-there, ap length named) in
      let same : tail ≡ get_or (filter choice all) place (generator_of 0 0) =
      is_tail ∙ ap (λ (names : List Generator). get_or names place (generator_of 0 0)) named in (
        named,
        inside,
        ap choice same ∙ filter_passes choice all place (generator_of 0 0) there,
        record {
          within = tail-there;
          tails = subst (IsTail code i j) (sym same)
              (All-filter choice (IsTail code i j) all (are-tails code i j all refl) place (generator_of 0 0) there);
          is = is_tail;
        },
      )

-- a list, after all of it was written
pub written-whole : (count : ℕ) (entries written : List Entry) → count ≡ length entries → length written ≡ length entries
    → take count (written ++ drop (length written) entries) ≡ written
written-whole count entries written is_count same =
    ap (λ (rest : List Entry). take count (written ++ rest)) (drop_all (length written) entries (omega (arith, same)))
    ∙ ap (take count) (append-nil written) ∙ take_all count written (omega (arith, is_count, same))
