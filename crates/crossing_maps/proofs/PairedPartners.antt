-- Partners are a pairing of the arcs that have one: each of these is an end of exactly one pair.
use Rattle.std.proofs.Common.{◌≡◌, ℕ, inl, inr, ◌+◌, ◌≤◌, ◌∙◌, List, [], ◌∷◌, sym, subst, ap, arith, Bool, cond}
use Rattle.std.specs.Prelude.{nat_eq}
use Rattle.std.specs.List.{count_by, sum_by, Contains}
use Rattle.std.proofs.lemmas.Bool.{eq-eqb}
use Rattle.std.proofs.lemmas.Bool.Decides.{nat_tests}
use Rattle.std.proofs.lemmas.List.Sorted.{sum_by-IsPermutation}
use Rattle.std.proofs.lemmas.List.Sums.{sum_by-cons}
use Rattle.kh_types.proofs.ListSums.{sum_by-alike, sum_by-flat_map}
use Rattle.surface_laws.specs.Points.{Points, AreAmong, IsOpenPairing, ends_of}
use Rattle.dotted_maps.proofs.ComponentParts.{one_at}
use Rattle.added_crossing_laws.specs.Pairings.{IsPairingOf, end_count, ends_in}
use Rattle.tangle_maps.specs.Pairings.{ArePartners, joins_of, opened_points, paired_arcs}
use Rattle.kh_types.proofs.Lists.{Contains-cases}
use Rattle.tangle_maps.proofs.PairedLemmas.{paired, paired-among}

abbrev one_if : Bool → ℕ
one_if b = cond b 1 0

abbrev both_ends : ℕ × ℕ → List ℕ
both_ends pair = pair.0 ∷ pair.1 ∷ []

-- ends are counted pair by pair, or in the list of all ends
ends-counted : (pairs : List (ℕ × ℕ)) (x : ℕ) → end_count pairs x ≡ count_by (nat_eq x) (ends_of pairs)
ends-counted pairs x =
    sum_by-alike (ends_in x) (λ pair. sum_by (one_at x) (both_ends pair)) (λ pair. two pair.0 pair.1) pairs
    ∙ sym (sum_by-flat_map (one_at x) both_ends pairs)
  where
    turned : (y : ℕ) → cond (nat_eq y x) 1 0 ≡ one_at x y
    turned y = grind (arith, nat_tests)

    two : (a b : ℕ) → cond (nat_eq a x) 1 0 + cond (nat_eq b x) 1 0 ≡ sum_by (one_at x) (a ∷ b ∷ [])
    two a b = omega (arith, turned a, turned b)

counted : (x : ℕ) (xs : List ℕ) → Contains xs x → 1 ≤ count_by (nat_eq x) xs
counted x [] (k, below, is) = absurd (omega (arith, below))
counted x (y ∷ xs) has = elim (Contains-cases y x xs has) [
  | inl same ↦ omega (arith, sum_by-cons (one_at x) y xs, ap one_if (eq-eqb x y (sym same)))
  | inr later ↦ omega (arith, sum_by-cons (one_at x) y xs, counted x xs later)
]

IsPairingOf-of : (points : Points) (pairs : List (ℕ × ℕ)) → IsOpenPairing points pairs → AreAmong points.opened pairs
    → IsPairingOf points.opened pairs
IsPairingOf-of points pairs pairing among = record {
  among = among;
  once = λ x has.
      omega (
        arith,
        counted x points.opened has,
        sum_by-IsPermutation (one_at x) points.opened (ends_of pairs) pairing.ends,
        pairing.once x,
        ends-counted pairs x,
      );
}

pub partners-paired : (partners opened : List ℕ) → opened ≡ paired_arcs partners → ArePartners partners
    → IsPairingOf opened (joins_of partners opened)
partners-paired partners opened are is =
    subst (λ xs. IsPairingOf xs (joins_of partners xs)) (sym are)
    (IsPairingOf-of (opened_points (paired_arcs partners)) (joins_of partners (paired_arcs partners)) (paired partners is)
    (paired-among partners is))
