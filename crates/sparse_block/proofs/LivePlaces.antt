-- A cancellation takes two from the places alive.
use Rattle.std.proofs.lemmas.Bool.Decides.{nat_tests, leb_tells}
use Rattle.std.proofs.Common.{◌≡◌, ℕ, suc, ◌+◌, ◌<◌, ◌∙◌, inl, inr, ℤ, pos, negsuc, ◌+ℤ◌, ◌-ℤ◌, length, ap, sym, subst, arith}
use Rattle.std.specs.Prelude.{◌≢◌}
use Rattle.std.proofs.lemmas.Int.{ints}
use Rattle.std.proofs.lemmas.List.{get_or_past}
use Rattle.kh_types.specs.Complex.{Complex, Pivot, IsComplex, IsPivot, empty_degree, degree_number, degree_from, degree_of, alive_count, cancel}
use Rattle.kh_types.proofs.CancelLemmas.{degrees-cancel}
use Rattle.kh_types.proofs.ComplexLemmas.{degree_of-number}
use Rattle.sparse_block.specs.Complexes.{live_places}
use Rattle.sparse_block.proofs.ComplexMatrices.{entry-stands}
use Rattle.sparse_block.proofs.ListSums.{sum_by-two_more}
use Rattle.sparse_block.proofs.PlaceLemmas.{living, alive_count-at_pivot, alive_count-after_pivot, alive_count-others}

-- a degree with a row in its matrix and a place in the next degree has a number, and so has the next
number_from : (complex : Complex) (i distance : ℤ) → i -ℤ complex.low ≡ distance → 0 < length (degree_from complex distance).matrix
    → 0 < length (degree_of complex (i +ℤ pos 1)).alive
    → (k : ℕ) × (k + 1 < length complex.degrees) × (i ≡ complex.low +ℤ pos k)
number_from complex i (negsuc k) is_distance some next_some = absurd (omega arith)
number_from complex i (pos k) is_distance some next_some =
    let next : i +ℤ pos 1 -ℤ complex.low ≡ pos (k + 1) = omega (arith, ints) in
    let places : 0 < length (degree_number complex (k + 1)).alive =
    subst (λ d. 0 < length (degree_from complex d).alive) next next_some in
    elim (leb_tells (length complex.degrees) (k + 1)) [
      | inl past ↦
          absurd (omega (arith, places, ap (λ degree. length degree.alive) (get_or_past complex.degrees (k + 1) empty_degree past.1)))
      | inr within ↦ (k, within.1, omega (arith, ints))
    ]

-- so has the degree of a pivot
pub pivot-number : (p : ℕ) (complex : Complex) (pivot : Pivot) → IsComplex p complex → IsPivot complex pivot
    → (k : ℕ) × (k + 1 < length complex.degrees) × (pivot.degree ≡ complex.low +ℤ pos k)
pivot-number p complex pivot is is_pivot = grind (arith, nat_tests, entry-stands, number_from)

-- degrees that are equal have one number
pub same_number : (low : ℤ) (a b : ℕ) → low +ℤ pos a ≡ low +ℤ pos b → a ≡ b
same_number low a b same = omega (arith, ints)

-- the places alive of a degree, by its number
living-number : (complex : Complex) (k : ℕ) → living (degree_number complex k).alive ≡ alive_count complex (complex.low +ℤ pos k)
living-number complex k = ap (λ degree. living degree.alive) (sym (degree_of-number complex k))

pub live_places-cancel : (p : ℕ) (complex : Complex) (pivot : Pivot) → IsComplex p complex → IsPivot complex pivot
    → live_places (cancel p complex pivot) + 2 ≡ live_places complex
live_places-cancel p complex pivot is is_pivot =
    let after = cancel p complex pivot in
    let number = pivot-number p complex pivot is is_pivot in
    let at = number.0 in
    let next : pivot.degree +ℤ pos 1 ≡ complex.low +ℤ pos (suc at) = omega (arith, ints, number.2) in
    let column : living (degree_number after at).alive + 1 ≡ living (degree_number complex at).alive =
    ap (λ r. r + 1) (living-number after at)
    ∙ subst (λ d. alive_count after d + 1 ≡ alive_count complex d) number.2 (alive_count-at_pivot p complex pivot is is_pivot)
    ∙ sym (living-number complex at) in
    let row : living (degree_number after (suc at)).alive + 1 ≡ living (degree_number complex (suc at)).alive =
    ap (λ r. r + 1) (living-number after (suc at))
    ∙ subst (λ d. alive_count after d + 1 ≡ alive_count complex d) next (alive_count-after_pivot p complex pivot is is_pivot)
    ∙ sym (living-number complex (suc at)) in
    let stays : (k : ℕ) → k ≢ at → k ≢ suc at → living (degree_number after k).alive ≡ living (degree_number complex k).alive =
    λ k other not_next.
    let not_here : complex.low +ℤ pos k ≢ pivot.degree = λ same. other (same_number complex.low k at (same ∙ number.2)) in
    let not_after : complex.low +ℤ pos k ≢ pivot.degree +ℤ pos 1 =
    λ same. not_next (same_number complex.low k (suc at) (same ∙ next)) in
    living-number after k ∙ alive_count-others p complex pivot (complex.low +ℤ pos k) not_here not_after
    ∙ sym (living-number complex k) in
    sum_by-two_more (λ degree. living degree.alive) empty_degree after.degrees complex.degrees at
    (degrees-cancel p complex pivot) (omega (arith, number.1)) column row stays
