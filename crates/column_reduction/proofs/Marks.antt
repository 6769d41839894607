-- Which places are alive as pivots are cancelled one after another.
use Rattle.std.proofs.Common.{◌≡◌, ◌≢◌, ℕ, ◌+◌, ◌<◌, ◌∙◌, List, [], ◌∷◌, ℤ, pos, ◌+ℤ◌, length, set, refl, ap, sym, arith, Bool, false}
use Rattle.std.specs.Prelude.{slice_index_or}
use Rattle.std.proofs.Math.ListN.{get_or-map}
use Rattle.std.proofs.lemmas.Int.{ints}
use Rattle.std.proofs.lemmas.List.{ext_get_or, get_or-set_other, get_or-set_same, length-map, length-set}
use Rattle.kh_types.specs.Complex.{Complex, Degree, Pivot, cancel, degree_of, empty_degree, pivot_at, without_place}
use Rattle.kh_types.specs.History.{replay}
use Rattle.kh_types.proofs.CancelLemmas.{degrees-cancel}
use Rattle.kh_types.proofs.ComplexLemmas.{degree_of-number}
use Rattle.sparse_block.specs.Clearing.{with_dead}
use Rattle.sparse_block.proofs.CancelledDegrees.{degree-after_pivot, degree-at_pivot, degree-before_pivot, degree-elsewhere}
use Rattle.sparse_block.proofs.CancelledLists.{Beside, beside, set-without_place}
use Rattle.column_reduction.specs.StoredColumns.{StoredColumn, alive_in, stored_pivots, with_pairs}

abbrev places : Degree → List Bool
places degree = degree.alive

pub alive-number : (complex : Complex) (k : ℕ) → slice_index_or (alive_in complex) k [] ≡ (degree_of complex (complex.low +ℤ pos k)).alive
alive-number complex k = get_or-map places complex.degrees k empty_degree ∙ ap places (sym (degree_of-number complex k))

-- one pivot
module _ (p k column row : ℕ) (complex : Complex) (i : ℤ) (here : i ≡ complex.low +ℤ pos k) where
  abbrev pivot : Pivot
  pivot = pivot_at i column row

  abbrev alive : List (List Bool)
  alive = alive_in complex

  abbrev first : List (List Bool)
  first = with_dead k column alive

  size_first : length first ≡ length alive
  size_first = length-set alive k (set (slice_index_or alive k []) column false)

  size : length (with_dead (k + 1) row first) ≡ length alive
  size = length-set first (k + 1) (set (slice_index_or first (k + 1) []) row false) ∙ size_first

  alive-at : (j : ℕ) → j < length alive → slice_index_or (with_dead (k + 1) row first) j [] ≡ slice_index_or (alive_in (cancel p complex pivot)) j []
  alive-at j within =
      let at : ℤ = complex.low +ℤ pos j in
      let second : j ≢ k + 1 → slice_index_or (with_dead (k + 1) row first) j [] ≡ slice_index_or first j [] =
      λ other. get_or-set_other first (k + 1) j (set (slice_index_or first (k + 1) []) row false) [] other in
      let one : j ≢ k → slice_index_or first j [] ≡ slice_index_or alive j [] =
      λ other. get_or-set_other alive k j (set (slice_index_or alive k []) column false) [] other in
      let is_alive = alive-number complex j in
      elim (beside j k) [
        | Beside.is_at same ↦
            second (λ next. omega (arith, same, next))
            ∙ ap (λ (m : ℕ). slice_index_or (with_dead m column alive) j []) (sym same)
            ∙ get_or-set_same alive j (set (slice_index_or alive j []) column false) [] within
            ∙ set-without_place column (slice_index_or alive j [])
            ∙ ap (without_place column) is_alive
            ∙ sym (ap places (degree-at_pivot p complex pivot at (omega (arith, ints, here, same))))
        | Beside.is_after same ↦
            ap (λ (m : ℕ). slice_index_or (with_dead m row first) j []) (sym same)
            ∙ get_or-set_same first j (set (slice_index_or first j []) row false) [] (omega (arith, within, size_first))
            ∙ set-without_place row (slice_index_or first j [])
            ∙ ap (without_place row) (one (λ own. omega (arith, own, same)) ∙ is_alive)
            ∙ sym (ap places (degree-after_pivot p complex pivot at (omega (arith, ints, here, same))))
        | Beside.is_before same ↦
            second (λ next. omega (arith, same, next)) ∙ one (λ own. omega (arith, same, own)) ∙ is_alive
            ∙ sym (ap places (degree-before_pivot p complex pivot at (omega (arith, ints, here, same))))
        | Beside.is_elsewhere not_at not_after not_before ↦
            second not_after ∙ one not_at ∙ is_alive
            ∙ sym (ap places
            (degree-elsewhere p complex pivot at (λ same. not_at (omega (arith, ints, here, same)))
            (λ same. not_after (omega (arith, ints, here, same)))
            (λ same. not_before (omega (arith, ints, here, same)))))
      ]
      ∙ sym (alive-number (cancel p complex pivot) j)

  alive_in-cancel : with_dead (k + 1) row (with_dead k column (alive_in complex)) ≡ alive_in (cancel p complex (pivot_at i column row))
  alive_in-cancel =
      let total : length alive ≡ length complex.degrees = length-map complex.degrees places in
      let total_after : length (alive_in (cancel p complex pivot)) ≡ length complex.degrees =
      length-map (cancel p complex pivot).degrees places ∙ degrees-cancel p complex pivot in
      ext_get_or [] (with_dead (k + 1) row first) (alive_in (cancel p complex pivot)) (omega (arith, size, total, total_after))
      (λ j within. alive-at j (omega (arith, within, size)))

-- the pivots of stored columns
pub alive_in-pairs : (p k : ℕ) (complex : Complex) (i : ℤ) (stored : List StoredColumn) → i ≡ complex.low +ℤ pos k
    → with_pairs k (alive_in complex) stored ≡ alive_in (replay p complex (stored_pivots i stored))
alive_in-pairs p k complex i [] here = refl
alive_in-pairs p k complex i (line ∷ lines) here =
    ap (λ (alive : List (List Bool)). with_pairs k alive lines) (alive_in-cancel p k line.column line.row complex i here)
    ∙ alive_in-pairs p k (cancel p complex (pivot_at i line.column line.row)) i lines here
