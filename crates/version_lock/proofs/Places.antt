-- Ascending places, each of which stands there once, are a whole range.
use Rattle.std.proofs.Common.{◌≡◌, ◌≢◌, ℕ, zero, suc, ◌+◌, ◌-◌, ◌<◌, ◌≤◌, List, [], ◌∷◌, length, sym, refl, ap, ◌∙◌, arith, eq-eqb, ne_eqb}
use Rattle.std.specs.List.{range_with_len}
use Rattle.std.proofs.lemmas.List.FromFn.{length-range_with_len}
use mathlib.Core.Logic.{dite}
use native.Mathlib.Decide.{ℕ_discrete, dec_le}
use Rattle.kh_types.specs.Bits.{one_if}
use Rattle.version_lock.specs.Places.{IsAscending, copies, merged_places}
use Rattle.version_lock.proofs.Sums.{Each-map}
use Rattle.version_lock.proofs.Merging.{copies-none, length-merged_places}

here : (x : ℕ) (xs : List ℕ) → 1 ≤ copies x (x ∷ xs)
here x xs = omega (arith, ap one_if (eq-eqb x x refl))

is_first : (n first x : ℕ) (xs : List ℕ) → IsAscending (x ∷ xs) → copies first (x ∷ xs) ≡ 1 → ((place : ℕ) → place < first → copies place (x ∷ xs) ≡ 0) → x ≡ first
is_first n first x xs h one before = dite (ℕ_discrete x first) (λ e. e) (λ apart. dite (dec_le first x)
    (λ le. let less : first < x = omega (arith, le, apart) in
    absurd (omega (arith, one, copies-none first (x ∷ xs) ((λ e. apart e), Each-map (λ y. x < y) (λ y. y ≢ first) (λ y l e. omega (arith, l, e, less)) xs h.0))))
    (λ gt. absurd (omega (arith, here x xs, before x (omega (arith, gt))))))

pub places_are : (n first : ℕ) (xs : List ℕ) → IsAscending xs → ((place : ℕ) → first ≤ place → place < first + n → copies place xs ≡ 1) → ((place : ℕ) → place < first → copies place xs ≡ 0)
    → ((place : ℕ) → first + n ≤ place → copies place xs ≡ 0) → xs ≡ range_with_len first n
places_are zero first [] h within before after = refl
places_are zero first (x ∷ xs) h within before after = absurd (dite (dec_le first x) (λ le. omega (arith, here x xs, after x (omega (arith, le)))) (λ gt. omega (arith, here x xs, before x (omega (arith, gt)))))
places_are (suc n) first [] h within before after = absurd (omega (arith, within first (omega arith) (omega arith)))
places_are (suc n) first (x ∷ xs) h within before after =
    let e : x ≡ first = is_first n first x xs h (within first (omega arith) (omega arith)) before in
    let other : (place : ℕ) → place ≢ first → copies place xs ≡ copies place (x ∷ xs) = λ place apart. omega (arith, ap one_if (ne_eqb x place (λ same. apart (sym same ∙ e)))) in
    let gone : copies first xs ≡ 0 = omega (arith, within first (omega arith) (omega arith), ap one_if (eq-eqb x first e)) in
    let rest = places_are n (first + 1) xs h.1 (λ place a b. other place (λ z. omega (arith, a, z)) ∙ within place (omega (arith, a)) (omega (arith, b)))
    (λ place a. dite (ℕ_discrete place first) (λ z. ap (λ k. copies k xs) z ∙ gone) (λ apart. other place apart ∙ before place (omega (arith, a, apart))))
    (λ place a. other place (λ z. omega (arith, a, z)) ∙ after place (omega (arith, a))) in
    λ i. e i ∷ rest i

-- where the places of two seats, merged, are all those from the first on, they are as many as those
pub length-all_places : (first size : ℕ) (xs ys zs : List ℕ) → zs ≡ merged_places xs ys → zs ≡ range_with_len first (size - first) → length xs + length ys ≡ size - first
length-all_places first size xs ys zs both all = omega (arith, ap length both, length-merged_places xs ys, ap length all, length-range_with_len first (size - first))
