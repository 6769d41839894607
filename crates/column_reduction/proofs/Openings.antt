-- The reduction of a complex before any cancellation, by the columns of one degree after another. Each of its places has a name, and
-- stays a place of its degree as pivots are cancelled, alive or dead; so the rows of a degree's columns are the places of the next, and
-- there are few enough columns to be counted. It begins with no degree reduced, and reduced columns of the next degree give one more.
use Rattle.std.proofs.Common.{◌≡◌, ℕ, ◌+◌, ◌<◌, ◌^◌, ◌∙◌, List, [], ◌++◌, ℤ, pos, ◌+ℤ◌, ◌≤ℤ◌, length, map, ap, sym, subst, arith, Bool, true}
use Rattle.std.specs.Prelude.{slice_index_or}
use Rattle.std.specs.Global.{Vec}
use Rattle.std.proofs.Math.ListN as plain
use Rattle.std.proofs.lemmas.Int.{ints}
use Rattle.std.proofs.lemmas.List.{ext_get_or, length-map}
use Rattle.kh_types.specs.Complex.{Complex, Degree, Pivot, degree_of}
use Rattle.kh_types.specs.Generators.{Generator}
use Rattle.kh_types.specs.History.{replay}
use Rattle.prime_field.specs.Residues.{IsField}
use Rattle.sparse_block.specs.Complexes.{NamedComplex, all_alive, complex_from, no_columns, place_count}
use Rattle.sparse_block.specs.Inside.{lists_in}
use Rattle.sparse_block.specs.Opening.{IsOpening}
use Rattle.sparse_block.proofs.BuildLemmas.{sizes-all_alive}
use Rattle.sparse_block.proofs.DegreeLemmas.{length-at}
use Rattle.sparse_block.proofs.HistoryLemmas.{complex-replay, degrees-replay, low-replay, places-replay}
use Rattle.column_reduction.specs.Reductions.{IsReducedComplex}
use Rattle.column_reduction.specs.StoredColumns.{AreFirstReduced, IsReducedTo, StoredColumn, alive_in, stored_pivots, with_pairs}
use Rattle.column_reduction.proofs.Ends.{legal-reduced, zero-reduced}
use Rattle.column_reduction.proofs.Marks.{alive-number}
use Rattle.column_reduction.proofs.ReducedTo.{reduced_to-all, reduced_to-first, reduced_to-next}
use Rattle.column_reduction.proofs.ZeroLeft.{zero-left}

module _ (p : ℕ) (named : NamedComplex) (field : IsField p) (opening : IsOpening p named) where
  abbrev complex : Complex
  complex = named.complex

  count : length complex.degrees ≡ length named.names
  count =
      sym (length-map complex.degrees (λ (degree : Degree). degree.alive)) ∙ ap length opening.alive
      ∙ length-map named.names (λ degree. map (λ name. true) degree)

  -- the places of a degree
  pub places-opening : (k : ℕ) → place_count named.complex (named.complex.low +ℤ pos k) ≡ length (slice_index_or named.names k [])
  places-opening k =
      sym (ap length (alive-number complex k)) ∙ ap (λ (places : List (List Bool)). length (slice_index_or places k [])) opening.alive
      ∙ length-at (all_alive named.names) named.names k (sizes-all_alive named.names)

  pub few-opening : (k : ℕ) → k < length named.names → length (slice_index_or named.names k []) < 2 ^ 29
  few-opening k within = opening.counts k [] within

  pub degree-opening : (k : ℕ) → k < length named.names → (named.complex.low +ℤ pos k) ≤ℤ pos 32767
  degree-opening k within = omega (arith, ints, within, opening.end)

  -- the same after cancellations
  module _ (places : List (List Bool)) (pivots : List Pivot) (are : places ≡ alive_in (replay p named.complex pivots)) where
    abbrev left : Complex
    left = replay p named.complex pivots

    pub places-left : (k : ℕ) → length (slice_index_or places k []) ≡ length (slice_index_or named.names k [])
    places-left k =
        ap (λ (places : List (List Bool)). length (slice_index_or places k [])) are ∙ ap length (alive-number left k)
        ∙ ap (λ (m : ℤ). length (degree_of left (m +ℤ pos k)).alive) (low-replay p complex pivots)
        ∙ places-replay p complex pivots (complex.low +ℤ pos k) ∙ places-opening k

    pub degrees-left : length places ≡ length named.names
    degrees-left =
        ap length are ∙ length-map left.degrees (λ (degree : Degree). degree.alive) ∙ degrees-replay p complex pivots ∙ count

    pub sizes-left : map length places ≡ map length named.names
    sizes-left =
        ext_get_or 0 (map length places) (map length named.names)
        (length-map places length ∙ degrees-left ∙ sym (length-map named.names length))
        (λ k within. plain.get_or-map length places k [] ∙ places-left k ∙ sym (plain.get_or-map length named.names k []))

    -- and what is left
    pub complex-left : IsReducedComplex p named.complex pivots (replay p named.complex pivots)
        → complex_from named.complex.low places (no_columns places) ≡ replay p named.complex pivots
    complex-left reduced =
        let is = opening.is_complex in
        zero-left p complex.low places left field
        (complex-replay p complex pivots field is (legal-reduced p complex left pivots field is reduced))
        (sym (low-replay p complex pivots)) are (zero-reduced p complex left pivots field is reduced)

  -- no degree is reduced
  pub first-opening : (places : List (List Bool)) → places ≡ all_alive named.names → IsReducedTo p named.complex 0 places []
  first-opening places alive = reduced_to-first p complex places opening.is_complex (alive ∙ sym opening.alive)

  -- one degree more is
  pub next-opening : (k : ℕ) (i : ℤ) (places places_after : List (List Bool)) (pivots pivots_after : List Pivot)
      (stored : List StoredColumn) (alive : List Bool) → i ≡ named.complex.low +ℤ pos k → alive ≡ slice_index_or places k []
      → IsReducedTo p named.complex k places pivots
      → AreFirstReduced p named.complex i alive (length alive) stored
      → pivots_after ≡ stored_pivots i stored ++ pivots → places_after ≡ with_pairs k places stored
      → IsReducedTo p named.complex (k + 1) places_after pivots_after
  next-opening k i places places_after pivots pivots_after stored alive here is_alive so_far are are_pivots are_places =
      let first : AreFirstReduced p complex i (slice_index_or places k []) (length (slice_index_or places k [])) stored =
      subst (λ (alive : List Bool). AreFirstReduced p complex i alive (length alive) stored) is_alive are in
      let next = reduced_to-next p k complex i places pivots stored field opening.is_complex so_far here first in
      subst (λ (places : List (List Bool)). IsReducedTo p complex (k + 1) places pivots_after) (sym are_places)
      (subst (λ (pivots : List Pivot). IsReducedTo p complex (k + 1) (with_pairs k places stored) pivots) (sym are_pivots) next)

  -- all are
  pub all-opening : (k : ℕ) (places : List (List Bool)) (pivots : List Pivot) → k ≡ length named.names
      → IsReducedTo p named.complex k places pivots
      → IsReducedComplex p named.complex pivots (replay p named.complex pivots)
  all-opening k places pivots all = reduced_to-all p k complex places pivots (all ∙ sym count)

-- degrees in memory that are as many as names, with as many places each
module _ (names : List (List Generator)) (alive : List (Vec Bool)) (sizes : map length (lists_in alive) ≡ map length names) where
  pub count-names : length alive ≡ length names
  count-names =
      sym (length-map alive (λ (degree : Vec Bool). degree.items)) ∙ sym (length-map (lists_in alive) length) ∙ ap length sizes
      ∙ length-map names length

  pub size-names : (k : ℕ) → length (slice_index_or (lists_in alive) k []) ≡ length (slice_index_or names k [])
  size-names k = length-at (lists_in alive) names k sizes

-- there are as many degrees in memory as names are given for
pub length-opening : (names : List (List Generator)) (alive : List (Vec Bool)) → lists_in alive ≡ all_alive names
    → length alive ≡ length names
length-opening names alive are =
    sym (length-map alive (λ (degree : Vec Bool). degree.items)) ∙ ap length are
    ∙ length-map names (λ degree. map (λ name. true) degree)
