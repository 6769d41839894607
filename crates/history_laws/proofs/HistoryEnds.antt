-- Which legal histories end at zero: those with as many pivots as all ranks together. There is one, and so ranks fit into places.
use Rattle.std.proofs.lemmas.Bool.Decides.{nat_tests}
use Rattle.std.proofs.Common.{◌≡◌, ℕ, zero, suc, ◌+◌, ◌*◌, ◌≤◌, inl, inr, List, [], ◌∷◌, ℤ, pos, ◌-ℤ◌, length, refl, arith, true}
use Rattle.kh_types.specs.Complex.{Complex, Pivot, IsComplex, alive_count, dimension_of, is_zero, cancel}
use Rattle.kh_types.specs.History.{IsLegal, replay}
use Rattle.prime_field.specs.Residues.{IsField}
use Rattle.sparse_block.proofs.CancelledComplexes.{complex-cancel}
use Rattle.sparse_block.specs.Complexes.{live_places}
use Rattle.history_laws.specs.RankSums.{rank_out, rank_into, rank_sum}
use Rattle.history_laws.proofs.ZeroLemmas.{rank_out-zero, dimension_of-zero}
use Rattle.sparse_block.proofs.FindPivot.{find_pivot}
use Rattle.history_laws.proofs.RankSumLemmas.{rank_sum-cancel, rank_sum-zero}
use Rattle.sparse_block.proofs.HistoryLemmas.{complex-replay}
use Rattle.history_laws.proofs.HistoryRanks.{loses-replay, dimension_of-replay, length-legal, live_places-replay}

-- a complex without ranks is zero
zero-from_ranks : (p : ℕ) (complex : Complex) → IsField p → IsComplex p complex → rank_sum p complex ≡ 0 → is_zero complex ≡ true
zero-from_ranks p complex field is none =
    elim (find_pivot complex) [
      | inl zeros ↦ zeros
      | inr found ↦ absurd (omega (arith, rank_sum-cancel p complex found.0 field is found.1, none))
    ]

pub length-longest : (p : ℕ) (complex : Complex) (history : List Pivot) → IsField p → IsComplex p complex
    → IsLegal p complex history → length history ≤ rank_sum p complex
length-longest p complex history field is legal = omega (arith, length-legal p complex history field is legal)

pub length-zero : (p : ℕ) (complex : Complex) (history : List Pivot) → IsField p → IsComplex p complex
    → IsLegal p complex history → is_zero (replay p complex history) ≡ true → length history ≡ rank_sum p complex
length-zero p complex history field is legal zeros =
    omega (arith, length-legal p complex history field is legal, rank_sum-zero p (replay p complex history) zeros)

pub zero-length : (p : ℕ) (complex : Complex) (history : List Pivot) → IsField p → IsComplex p complex
    → IsLegal p complex history → length history ≡ rank_sum p complex → is_zero (replay p complex history) ≡ true
zero-length p complex history field is legal all =
    zero-from_ranks p (replay p complex history) field (complex-replay p complex history field is legal)
    (omega (arith, length-legal p complex history field is legal, all))

-- where a history ends at zero, the dimensions are the places that it leaves alive
pub alive_count-end : (p : ℕ) (complex : Complex) (history : List Pivot) (i : ℤ) → IsField p → IsComplex p complex
    → IsLegal p complex history → is_zero (replay p complex history) ≡ true
    → alive_count (replay p complex history) i ≡ dimension_of p complex i
alive_count-end p complex history i field is legal zeros = grind (arith, nat_tests, dimension_of-zero, dimension_of-replay)

-- a history that ends at zero: as long as there is a pivot, it is cancelled
ending-within : (n p : ℕ) (complex : Complex) → IsField p → IsComplex p complex → rank_sum p complex ≡ n
    → (history : List Pivot) × IsLegal p complex history × (is_zero (replay p complex history) ≡ true)
ending-within zero p complex field is total = ([], tt, zero-from_ranks p complex field is total)
ending-within (suc n) p complex field is total =
    elim (find_pivot complex) [
      | inl zeros ↦ ([], tt, zeros)
      | inr found ↦
          let falls = rank_sum-cancel p complex found.0 field is found.1 in
          let rest = ending-within n p (cancel p complex found.0) field (complex-cancel p complex found.0 field is found.1)
          (omega (arith, falls, total)) in
          (found.0 ∷ rest.0, (found.1, rest.1), rest.2)
    ]

pub ending : (p : ℕ) (complex : Complex) → IsField p → IsComplex p complex
    → (history : List Pivot) × IsLegal p complex history × (is_zero (replay p complex history) ≡ true)
ending p complex field is = ending-within (rank_sum p complex) p complex field is refl

-- at its end no ranks are left: so they fit into the places alive, and the dimension is the rest
pub dimension_of-add : (p : ℕ) (complex : Complex) (i : ℤ) → IsField p → IsComplex p complex
    → dimension_of p complex i + rank_out p complex i + rank_into p complex i ≡ alive_count complex i
dimension_of-add p complex i field is =
    let end = ending p complex field is in
    let left = replay p complex end.0 in
    let loses = loses-replay p complex end.0 i field is end.1 in
    let no_out = rank_out-zero p left i end.2 in
    let no_into = rank_out-zero p left (i -ℤ pos 1) end.2 in
    omega (arith, loses.places, loses.out, loses.into, no_out, no_into)

pub rank_sum-half : (p : ℕ) (complex : Complex) → IsField p → IsComplex p complex → 2 * rank_sum p complex ≤ live_places complex
rank_sum-half p complex field is =
    let end = ending p complex field is in
    let size = length-zero p complex end.0 field is end.1 end.2 in
    omega (arith, live_places-replay p complex end.0 field is end.1, size)

pub length-half : (p : ℕ) (complex : Complex) (history : List Pivot) → IsField p → IsComplex p complex
    → IsLegal p complex history → 2 * length history ≤ live_places complex
length-half p complex history field is legal = omega (arith, live_places-replay p complex history field is legal)
