-- Sums whose dot sets have certain coefficients are sums of a term for each dot set.
use Rattle.std.proofs.Common.{◌≡◌, ℕ, zero, suc, inl, inr, ◌+◌, ◌*◌, ◌%◌, ◌<◌, ◌≤◌, ◌∙◌, List, [], ◌∷◌, map, refl, sym, subst, ap, ap₂, arith, cond, eq-eqb}
use Rattle.std.specs.Prelude.{nat_eq}
use Rattle.std.specs.List.{flat_map, range_with_len}
use Rattle.std.proofs.lemmas.Bool.{cases_lt, ne_eqb}
use Rattle.std.proofs.lemmas.List.Sums.{sum_by-cons}
use Rattle.kh_types.proofs.Lists.{AllByRecursion-append, AllByRecursion-first, AllByRecursion-second}
use Rattle.kh_types.proofs.ListSums.{sum_by-alike, sum_by-flat_map, sum_by-map, sum_by-single}
use Rattle.dotted_maps.specs.declared.term.Term.{Term}
use Rattle.dotted_maps.specs.Maps.{coefficient_in, scaled}
use Rattle.tangle_maps.specs.Sums.{HaveDotsBelow, IsSum, dotted_term}
use Rattle.tangle_maps.proofs.SumLemmas.{IsSum-alike, coefficient-scaled, scaled-append}
use Rattle.crossing_maps.specs.NewTerms.{all_terms}

abbrev counted : ℕ → Term → ℕ
counted dots term = cond (nat_eq term.dots dots) term.coefficient 0

-- terms below a count, whose dot sets have these coefficients
pub record HaveCoefficients (count : ℕ) (coefficient : ℕ → ℕ) (terms : List Term) : Type 0 where
  pub each : (kept : ℕ) → kept < count → coefficient_in terms kept ≡ coefficient kept
  pub dots : HaveDotsBelow count terms

-- behind the count nothing is found
beyond : (limit d : ℕ) (terms : List Term) → HaveDotsBelow limit terms → limit ≤ d → coefficient_in terms d ≡ 0
beyond limit d [] below past = refl
beyond limit d (t ∷ ts) below past =
    sum_by-cons (counted d) t ts
    ∙ ap₂ (λ x y. x + y)
    (ap (λ b. cond b t.coefficient 0) (ne_eqb t.dots d (λ same. absurd (omega (arith, same, below.0, past)))))
    (beyond limit d ts below.1 past)

abbrev spread_term : (ℕ → ℕ) → ℕ → Term
spread_term coefficient kept = dotted_term kept (coefficient kept)

pub all-below : (coefficient : ℕ → ℕ) (limit a n : ℕ) → a + n ≤ limit → HaveDotsBelow limit (map (spread_term coefficient) (range_with_len a n))
all-below coefficient limit a zero within = tt
all-below coefficient limit a (suc n) within =
    (omega (arith, within), all-below coefficient limit (a + 1) n (omega (arith, within)))

pub spread-each : (count kept : ℕ) (coefficient : ℕ → ℕ) → kept < count → coefficient_in (all_terms count coefficient) kept ≡ coefficient kept
spread-each count kept coefficient within =
    sum_by-map (counted kept) (spread_term coefficient) (range_with_len 0 count)
    ∙ sum_by-single (λ x. cond (nat_eq x kept) (coefficient x) 0) 0 count kept (omega arith) (omega (arith, within))
    (λ x above below other. ap (λ b. cond b (coefficient x) 0) (ne_eqb x kept other))
    ∙ ap (λ b. cond b (coefficient kept) 0) (eq-eqb kept kept refl)

spread-alike : (count d : ℕ) (coefficient : ℕ → ℕ) (terms : List Term) → HaveCoefficients count coefficient terms
    → coefficient_in terms d ≡ coefficient_in (all_terms count coefficient) d
spread-alike count d coefficient terms have = elim (cases_lt d count) [
  | inl within ↦ have.each d within ∙ sym (spread-each count d coefficient within)
  | inr past ↦
      beyond count d terms have.dots past
      ∙ sym (beyond count d (all_terms count coefficient) (all-below coefficient count 0 count (omega arith)) past)
]

-- multiples

scaled-below : (f count limit : ℕ) (terms : List Term) → count ≤ limit → HaveDotsBelow count terms → HaveDotsBelow limit (scaled f terms)
scaled-below f count limit [] within below = tt
scaled-below f count limit (t ∷ ts) within below =
    (omega (arith, within, below.0), scaled-below f count limit ts within below.1)

-- all dot sets below a count are below a limit only if the count is
count-within : (f limit a n : ℕ) (coefficient : ℕ → ℕ) → 0 < n
    → HaveDotsBelow limit (scaled f (map (spread_term coefficient) (range_with_len a n))) → a + n ≤ limit
count-within f limit a zero coefficient some below = absurd (omega (arith, some))
count-within f limit a (suc zero) coefficient some below = omega (arith, below.0)
count-within f limit a (suc (suc n)) coefficient some below =
    omega (arith, count-within f limit (a + 1) (suc n) coefficient (omega arith) below.1)

-- maps

abbrev Makes : ℕ → (Term → ℕ → ℕ) → (Term → List Term) → Type 0
Makes count coefficient make = (term : Term) → HaveCoefficients count (coefficient term) (make term)

flat-alike : (count d : ℕ) (coefficient : Term → ℕ → ℕ) (make : Term → List Term) (terms : List Term) → Makes count coefficient make
    → coefficient_in (flat_map make terms) d ≡ coefficient_in (flat_map (λ term. all_terms count (coefficient term)) terms) d
flat-alike count d coefficient make terms makes =
    sum_by-flat_map (counted d) make terms
    ∙ sum_by-alike (λ term. coefficient_in (make term) d) (λ term. coefficient_in (all_terms count (coefficient term)) d)
    (λ term. spread-alike count d (coefficient term) (make term) (makes term)) terms
    ∙ sym (sum_by-flat_map (counted d) (λ term. all_terms count (coefficient term)) terms)

flat-below : (f count limit : ℕ) (coefficient : Term → ℕ → ℕ) (make : Term → List Term) (terms : List Term) → 0 < count
    → Makes count coefficient make → HaveDotsBelow limit (scaled f (flat_map (λ term. all_terms count (coefficient term)) terms))
    → HaveDotsBelow limit (scaled f (flat_map make terms))
flat-below f count limit coefficient make [] some makes below = tt
flat-below f count limit coefficient make (t ∷ ts) some makes below =
    let IsBelow : Term → Type 0 = λ term. term.dots < limit in
    let spread : Term → List Term = λ term. all_terms count (coefficient term) in
    let parted = subst (HaveDotsBelow limit) (scaled-append f (spread t) (flat_map spread ts)) below in
    let here = AllByRecursion-first IsBelow (scaled f (spread t)) (scaled f (flat_map spread ts)) parted in
    let later = AllByRecursion-second IsBelow (scaled f (spread t)) (scaled f (flat_map spread ts)) parted in
    subst (HaveDotsBelow limit) (sym (scaled-append f (make t) (flat_map make ts)))
    (AllByRecursion-append IsBelow (scaled f (make t)) (scaled f (flat_map make ts))
    (scaled-below f count limit (make t) (omega (arith, count-within f limit 0 count (coefficient t) some here)) (makes t).dots)
    (flat-below f count limit coefficient make ts some makes later))

pub IsSum-spread : (p f count : ℕ) (coefficient : Term → ℕ → ℕ) (make : Term → List Term) (terms old new : List Term) → 0 < count
    → Makes count coefficient make → IsSum p old (scaled f (flat_map make terms)) new
    → IsSum p old (scaled f (flat_map (λ term. all_terms count (coefficient term)) terms)) new
IsSum-spread p f count coefficient make terms old new some makes is =
    let spread : Term → List Term = λ term. all_terms count (coefficient term) in
    IsSum-alike p old (scaled f (flat_map make terms)) (scaled f (flat_map spread terms)) new is
    (λ d. ap (λ z. z % p)
    (coefficient-scaled f (flat_map make terms) d ∙ ap (λ z. f * z) (flat-alike count d coefficient make terms makes)
    ∙ sym (coefficient-scaled f (flat_map spread terms) d)))
    (λ limit below. flat-below f count limit coefficient make terms some makes below)
