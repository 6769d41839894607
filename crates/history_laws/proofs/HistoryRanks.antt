-- What legal histories keep of ranks, dimensions and places alive.
use Rattle.std.proofs.Common.{◌≡◌, ℕ, ◌+◌, ◌*◌, List, [], ◌∷◌, ℤ, length, arith}
use Rattle.kh_types.specs.Complex.{Complex, Pivot, IsComplex, dimension_of, cancel}
use Rattle.kh_types.specs.History.{IsLegal, replay}
use Rattle.prime_field.specs.Residues.{IsField}
use Rattle.sparse_block.proofs.CancelledComplexes.{complex-cancel}
use Rattle.sparse_block.specs.Complexes.{live_places}
use Rattle.history_laws.specs.RankSums.{rank_sum}
use Rattle.history_laws.proofs.DegreeRanks.{LosesAlike, loses-cancel, dimension_of-loses}
use Rattle.sparse_block.proofs.LivePlaces.{live_places-cancel}
use Rattle.history_laws.proofs.RankSumLemmas.{rank_sum-cancel}

-- places alive and ranks lose alike
loses-both : (p : ℕ) (first second third : Complex) (i : ℤ) → LosesAlike p first second i → LosesAlike p second third i
    → LosesAlike p first third i
loses-both p first second third i before after =
    record {
      lost_out = before.lost_out + after.lost_out;
      lost_in = before.lost_in + after.lost_in;
      places = omega (arith, before.places, after.places);
      out = omega (arith, before.out, after.out);
      into = omega (arith, before.into, after.into);
    }

pub loses-replay : (p : ℕ) (complex : Complex) (history : List Pivot) (i : ℤ) → IsField p → IsComplex p complex
    → IsLegal p complex history → LosesAlike p complex (replay p complex history) i
loses-replay p complex [] i field is legal =
    record { lost_out = 0; lost_in = 0; places = omega arith; out = omega arith; into = omega arith }
loses-replay p complex (pivot ∷ later) i field is legal =
    let after = cancel p complex pivot in
    loses-both p complex after (replay p after later) i (loses-cancel p complex pivot i field is legal.0)
    (loses-replay p after later i field (complex-cancel p complex pivot field is legal.0) legal.1)

pub dimension_of-replay : (p : ℕ) (complex : Complex) (history : List Pivot) (i : ℤ) → IsField p → IsComplex p complex
    → IsLegal p complex history → dimension_of p (replay p complex history) i ≡ dimension_of p complex i
dimension_of-replay p complex history i field is legal =
    dimension_of-loses p complex (replay p complex history) i (loses-replay p complex history i field is legal)

-- each pivot takes one from the sum of the ranks, and two from the places alive
pub length-legal : (p : ℕ) (complex : Complex) (history : List Pivot) → IsField p → IsComplex p complex
    → IsLegal p complex history → length history + rank_sum p (replay p complex history) ≡ rank_sum p complex
length-legal p complex [] field is legal = omega arith
length-legal p complex (pivot ∷ later) field is legal =
    let falls = rank_sum-cancel p complex pivot field is legal.0 in
    let rest = length-legal p (cancel p complex pivot) later field (complex-cancel p complex pivot field is legal.0) legal.1 in
    omega (arith, falls, rest)

pub live_places-replay : (p : ℕ) (complex : Complex) (history : List Pivot) → IsField p → IsComplex p complex
    → IsLegal p complex history → live_places (replay p complex history) + 2 * length history ≡ live_places complex
live_places-replay p complex [] field is legal = omega arith
live_places-replay p complex (pivot ∷ later) field is legal =
    let falls = live_places-cancel p complex pivot is legal.0 in
    let rest = live_places-replay p (cancel p complex pivot) later field (complex-cancel p complex pivot field is legal.0) legal.1 in
    omega (arith, falls, rest)
