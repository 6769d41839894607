-- A reduction before its first column, and behind its last.
use Rattle.std.proofs.Common.{◌≡◌, ℕ, ◌+◌, ◌/◌, ◌<◌, ◌≤◌, ◌^◌, ◌∙◌, inl, inr, List, [], ◌∷◌, pos, ◌+ℤ◌, ◌*◌, length, map, take, get_or, ap, sym, subst, arith, Bool, true, vec_capacity}
use Rattle.std.specs.Prelude.{slice_index_or, All}
use Rattle.std.specs.List.{count_by, sum_by}
use Rattle.std.specs.Global.{Vec}
use Rattle.std.proofs.lemmas.Bool.Decides.{leb_tells}
use Rattle.std.proofs.lemmas.Int.{ints}
use Rattle.std.proofs.lemmas.List.{get_or-map, get_or_default, get_or_past, length-map, take_more}
use Rattle.std.proofs.lemmas.List.Sums.{count_by-le-length, sum_by-append, sum_by-cons}
use Rattle.kh_types.specs.Complex.{Complex, Degree, Pivot, is_zero}
use Rattle.kh_types.specs.Generators.{Generator}
use Rattle.kh_types.specs.History.{IsLegal, replay}
use Rattle.prime_field.specs.Residues.{IsField}
use Rattle.sparse_block.specs.Complexes.{NamedComplex, all_alive, complex_from, no_columns, place_count}
use Rattle.sparse_block.specs.Inside.{lists_in}
use Rattle.sparse_block.specs.Opening.{IsOpening}
use Rattle.sparse_block.proofs.BuildLemmas.{sizes-all_alive}
use Rattle.sparse_block.proofs.DegreeLemmas.{length-at}
use Rattle.sparse_block.proofs.HistoryLemmas.{complex-replay, low-replay}
use Rattle.sparse_block.specs.Complexes.{live_places}
use Rattle.column_reduction.specs.StoredColumns.{alive_in, full_columns}
use Rattle.column_reduction.specs.declared.under_way.ColumnReduction.{ColumnReduction}
use Rattle.column_reduction.specs.UnderWay.{IsFreshTable, IsReductionOf, IsUnderWay}
use Rattle.column_reduction.proofs.Onward.{under_way-first, under_way-legal}
use Rattle.column_reduction.proofs.Openings.{degrees-left, few-opening, places-left, places-opening}
use Rattle.column_reduction.proofs.ZeroLeft.{zero-left}

-- the places of one degree more
pub sum-more : (alive : List (Vec Bool)) (k : ℕ) (degree : Vec Bool) (sum n : ℕ) → k < length alive → degree ≡ get_or alive k degree
    → n ≡ length degree.items → All (λ degree. length degree < 2 ^ 29) (lists_in alive)
    → (sum ≡ sum_by length (take k (lists_in alive))) × (sum ≤ k * 2 ^ 29)
    → (sum + n ≡ sum_by length (take (k + 1) (lists_in alive))) × (sum + n ≤ (k + 1) * 2 ^ 29)
sum-more alive k degree sum n within is_degree is_n few so_far =
    let size : length (lists_in alive) ≡ length alive = length-map alive (λ (degree : Vec Bool). degree.items) in
    let below : k < length (lists_in alive) = omega (arith, within, size) in
    let here : slice_index_or (lists_in alive) k [] ≡ degree.items =
    get_or-map (λ (degree : Vec Bool). degree.items) alive k degree [] within ∙ ap (λ (degree : Vec Bool). degree.items) (sym is_degree) in
    let one : sum_by length (slice_index_or (lists_in alive) k [] ∷ []) ≡ n =
    sum_by-cons length (slice_index_or (lists_in alive) k []) [] ∙ omega (arith, ap length here, is_n) in
    let small = few k [] below in (
      ap (λ (m : ℕ). m + n) so_far.0 ∙ ap (λ (m : ℕ). sum_by length (take k (lists_in alive)) + m) (sym one)
          ∙ sym (sum_by-append length (take k (lists_in alive)) (slice_index_or (lists_in alive) k [] ∷ []))
          ∙ ap (sum_by length) (sym (take_more (lists_in alive) k [] below)),
      omega (arith, so_far.1, small, ap length here, is_n),
    )

-- no more places are alive than there are
live-within : (degrees : List Degree)
    → sum_by (λ degree. count_by (λ is_alive. is_alive) degree.alive) degrees ≤ sum_by length (map (λ degree. degree.alive) degrees)
live-within [] = omega arith
live-within (degree ∷ degrees) =
    omega (
      arith,
      live-within degrees,
      count_by-le-length (λ is_alive. is_alive) degree.alive,
      sum_by-cons (λ (degree : Degree). count_by (λ is_alive. is_alive) degree.alive) degree degrees,
      sum_by-cons length degree.alive (map (λ degree. degree.alive) degrees),
    )

-- all places are alive: of each degree few
pub few-alive : (names : List (List Generator)) (alive : List (List Bool)) → All (λ degree. length degree < 2 ^ 29) names
    → alive ≡ all_alive names → All (λ degree. length degree < 2 ^ 29) alive
few-alive names alive few are k d below =
    let size : length alive ≡ length names = ap length are ∙ length-map names (λ degree. map (λ name. true) degree) in
    let here : length (slice_index_or alive k []) ≡ length (slice_index_or names k []) =
    ap (λ (xs : List (List Bool)). length (slice_index_or xs k [])) are ∙ length-at (all_alive names) names k (sizes-all_alive names) in
    let small = few k [] (omega (arith, below, size)) in
    omega (arith, small, here, ap length (get_or_default alive k d [] below))

-- a degree has fewer places than can be counted in 32 bits
few-places : (p : ℕ) (named : NamedComplex) → IsField p → IsOpening p named → (k : ℕ)
    → place_count named.complex (named.complex.low +ℤ pos k) < 2 ^ 32
few-places p named field opening k =
    let count = places-opening p named field opening k in
    elim (leb_tells (length named.names) k) [
      | inl past ↦ omega (arith, count, ap length (get_or_past named.names k [] past.1))
      | inr below ↦ omega (arith, count, few-opening p named field opening k below.1)
    ]

-- at first
pub started : (p : ℕ) (named : NamedComplex) (made : ColumnReduction) → IsField p → IsOpening p named
    → lists_in made.alive.items ≡ all_alive named.names → made.number ≡ 0 → made.next ≡ 0
    → IsFreshTable (length (slice_index_or (lists_in made.alive.items) 1 [])) (length (slice_index_or (lists_in made.alive.items) 0 []))
    made.stored → made.history.items ≡ [] → sum_by length (lists_in made.alive.items) / 2 ≤ vec_capacity made.history
    → IsReductionOf p named.complex made
started p named made field opening all number next table none enough =
    let complex = named.complex in
    let is = opening.is_complex in
    let alive = lists_in made.alive.items in
    let marks : alive ≡ alive_in complex = all ∙ sym opening.alive in
    let live : live_places complex ≤ sum_by length alive =
    subst (λ (xs : List (List Bool)). live_places complex ≤ sum_by length xs) (sym marks) (live-within complex.degrees) in
    let count : (k : ℕ) → length (slice_index_or alive k []) ≡ place_count complex (complex.low +ℤ pos k) =
    λ k. places-left p named field opening alive [] marks k ∙ sym (places-opening p named field opening k) in
    let size : length alive ≡ length made.alive.items = length-map made.alive.items (λ (degree : Vec Bool). degree.items) in
    let first : IsUnderWay p complex 0 0 [] [] = under_way-first p complex is in
    let empty : full_columns complex made.number made.stored.columns.items ≡ [] = ap (full_columns complex made.number) table.empty in
    let way : IsUnderWay p complex made.number made.next (full_columns complex made.number made.stored.columns.items) made.history.items =
    rw (empty, number, next, none) first in
    let at : complex.low +ℤ pos made.number ≡ complex.low +ℤ pos 0 = ap (λ (n : ℕ). complex.low +ℤ pos n) number in
    let after : complex.low +ℤ pos (made.number + 1) ≡ complex.low +ℤ pos 1 = ap (λ (n : ℕ). complex.low +ℤ pos (n + 1)) number in
    record {
      is = is;
      few = few-places p named field opening;
      way = way;
      here = rw (number, none) (omega (arith, ints));
      number = omega (arith, number, size, degrees-left p named field opening alive [] marks, opening.some);
      alive_is = rw none marks;
      are_stored = rw empty (table.none p);
      height = table.height ∙ count 1 ∙ ap (place_count complex) (sym after);
      count = omega (arith, ap length table.empty);
      within = omega (arith, next);
      room_is = omega (arith, table.room_is, count 0, ap (place_count complex) at);
      spare = omega (
        arith,
        enough,
        live,
        ap length none,
        ap (λ (pivots : List Pivot). live_places (replay p complex pivots)) none,
      );
    }

-- behind the last column
module _ (p : ℕ) (complex : Complex) (field : IsField p) (held : ColumnReduction) (of : IsReductionOf p complex held) where
  pub legal-held : IsLegal p complex held.history.items
  legal-held = under_way-legal p complex field of.is held.number held.next (full_columns complex held.number held.stored.columns.items) held.history.items
      of.way

  -- where nothing is left, what is left is made anew
  pub zero-held : is_zero (replay p complex held.history.items) ≡ true
      → complex_from complex.low (lists_in held.alive.items) (no_columns (lists_in held.alive.items)) ≡ replay p complex held.history.items
  zero-held none =
      zero-left p complex.low (lists_in held.alive.items) (replay p complex held.history.items) field
      (complex-replay p complex held.history.items field of.is legal-held) (sym (low-replay p complex held.history.items)) of.alive_is none
