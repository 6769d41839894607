-- What reduced sums tell, and what sums are as matrices.
-- In a reduced sum no other term has the dots of the first one, so its coefficient is that of its dots (`first-alone`), which is not 0
-- modulo p. So a reduced sum whose coefficients are 0 has no first term; and one with the coefficients of a number times the identity has a
-- first term without dots and no second one, which would have dots of its own.
use Rattle.std.proofs.Common.{◌≡◌, ◌≢◌, ℕ, inl, inr, ◌+◌, ◌*◌, ◌%◌, ◌^◌, ◌<◌, ◌≤◌, ◌∙◌, List, [], ◌∷◌, ◌++◌, length, refl, sym, ap, ap₂, arith, Bool, true, false, cond, Some, None, eq-eqb}
use Rattle.std.specs.Prelude.{nat_eq}
use Rattle.std.specs.List.{count_by}
use Rattle.std.proofs.Math.Nat.{mod-eq_of_lt}
use Rattle.std.proofs.lemmas.Bool.{cases_eq}
use Rattle.std.proofs.lemmas.Bool.Decides.{nat_tests}
use Rattle.std.proofs.lemmas.List.Sums.{sum_by-cons}
use Rattle.kh_types.specs.Bits.{one_if}
use Rattle.kh_types.specs.Products.{product_at}
use Rattle.kh_types.specs.Residues.{Same}
use Rattle.kh_types.proofs.Lists.{AllByRecursion-append}
use Rattle.dotted_maps.specs.declared.term.Term.{Term}
use Rattle.dotted_maps.specs.Choices.{listed}
use Rattle.dotted_maps.specs.Maps.{AreDotted, AreOneMap, coefficient_in, identity, matrix_of, scaled}
use Rattle.surface_laws.specs.Points.{Points, ArePlaced, IsOpenPairing, circles, discs, inner}
use Rattle.dotted_maps.specs.Terms.{AreGlued}
use Rattle.dotted_maps.proofs.Listed.{IsComposition-listed}
use Rattle.dotted_maps.proofs.MapProducts.{matrix-added, matrix-same}
use Rattle.tangle_maps.specs.Sums.{AreReduced, IsSum, has_dots, number_in, dotted_term}
use Rattle.tangle_maps.proofs.SumLemmas.{scaled-below}

abbrev counted : ℕ → Term → ℕ
counted dots term = cond (nat_eq term.dots dots) term.coefficient 0

none-counted : (dots : ℕ) (terms : List Term) → count_by (has_dots dots) terms ≡ 0 → coefficient_in terms dots ≡ 0
none-counted dots [] none = refl
none-counted dots (t ∷ ts) none =
    sum_by-cons (counted dots) t ts
    ∙ here (nat_eq t.dots dots) t.coefficient (λ later. none-counted dots ts later)
    (sym (sum_by-cons (λ u. one_if (has_dots dots u)) t ts) ∙ none)
  where
    here : (b : Bool) (c : ℕ) → (count_by (has_dots dots) ts ≡ 0 → coefficient_in ts dots ≡ 0) → one_if b + count_by (has_dots dots) ts ≡ 0
        → cond b c 0 + coefficient_in ts dots ≡ 0
    here true c later none = absurd (omega (arith, none))
    here false c later none = omega (arith, later (omega (arith, none)))

-- the first term has the coefficient of its dots, where no other has them
first-alone : (t : Term) (ts : List Term) → count_by (has_dots t.dots) (t ∷ ts) ≤ 1 → coefficient_in (t ∷ ts) t.dots ≡ t.coefficient
first-alone t ts once =
    let test = eq-eqb t.dots t.dots refl in
    let rest : count_by (has_dots t.dots) ts ≡ 0 =
    omega (arith, once, sum_by-cons (λ u. one_if (has_dots t.dots u)) t ts, ap one_if test) in
    sum_by-cons (counted t.dots) t ts
    ∙ ap₂ (λ b n. cond b t.coefficient 0 + n) test (none-counted t.dots ts rest) ∙ plus_zero t.coefficient
  where
    plus_zero : (x : ℕ) → x + 0 ≡ x
    plus_zero x = omega arith

not-none : (p c : ℕ) → 0 < c → c < p → Same p c 0 → ⊥
not-none p c some below none = omega (arith, some, sym (mod-eq_of_lt below) ∙ none ∙ zero_mod p)
  where
    zero_mod : (p : ℕ) → 0 % p ≡ 0
    zero_mod p = omega arith

pub reduced-zero : (p : ℕ) (terms : List Term) → AreReduced p terms → ((dots : ℕ) → Same p (coefficient_in terms dots) 0) → terms ≡ []
reduced-zero p [] is none = refl
reduced-zero p (t ∷ ts) is none =
    absurd (not-none p t.coefficient (is.some 0 t (omega arith)) (is.below 0 t (omega arith))
    (ap (λ c. c % p) (sym (first-alone t ts (is.once t.dots))) ∙ none t.dots))

-- the identity has no other dots
identity-else : (number dots : ℕ) → dots ≢ 0 → coefficient_in (scaled number identity) dots ≡ 0
identity-else number dots some = ap (λ b. 0 + cond b (number * 1) 0) (apart-test 0 dots (λ same. some (sym same)))
  where
    apart-test : (x y : ℕ) → x ≢ y → nat_eq x y ≡ false
    apart-test x y apart = grind (arith, nat_tests)

identity-there : (number : ℕ) → coefficient_in (scaled number identity) 0 ≡ number
identity-there number = omega arith

-- a term with dots that a number does not have
no-dots : (p number : ℕ) (t : Term) (ts : List Term) → AreReduced p (t ∷ ts)
    → ((dots : ℕ) → Same p (coefficient_in (t ∷ ts) dots) (coefficient_in (scaled number identity) dots)) → t.dots ≡ 0
no-dots p number t ts is alike = elim (cases_eq t.dots 0) [
  | inl same ↦ same
  | inr some ↦
      absurd (not-none p t.coefficient (is.some 0 t (omega arith)) (is.below 0 t (omega arith))
      (ap (λ c. c % p) (sym (first-alone t ts (is.once t.dots))) ∙ alike t.dots ∙ ap (λ c. c % p) (identity-else number t.dots some)))
]

second-alone : (t u : Term) (ts : List Term) → t.dots ≡ 0 → u.dots ≢ 0 → count_by (has_dots u.dots) (t ∷ u ∷ ts) ≤ 1
    → coefficient_in (t ∷ u ∷ ts) u.dots ≡ u.coefficient
second-alone t u ts none some once =
    let test : nat_eq t.dots u.dots ≡ false = apart-test t.dots u.dots (λ same. some (sym same ∙ none)) in
    sum_by-cons (counted u.dots) t (u ∷ ts)
    ∙ ap₂ (λ b n. cond b t.coefficient 0 + n) test
    (first-alone u ts (omega (arith, once, sum_by-cons (λ v. one_if (has_dots u.dots v)) t (u ∷ ts), ap one_if test)))
    ∙ zero_plus u.coefficient
  where
    apart-test : (x y : ℕ) → x ≢ y → nat_eq x y ≡ false
    apart-test x y apart = grind (arith, nat_tests)

    zero_plus : (x : ℕ) → 0 + x ≡ x
    zero_plus x = omega arith

pub reduced-number : (p number : ℕ) (terms : List Term) → 0 < number → number < p → AreReduced p terms
    → ((dots : ℕ) → Same p (coefficient_in terms dots) (coefficient_in (scaled number identity) dots)) → number_in terms ≡ Some number
reduced-number p number [] some below is alike =
    absurd (not-none p number some below (sym (alike 0 ∙ ap (λ c. c % p) (identity-there number))))
reduced-number p number (t ∷ []) some below is alike =
    let none = no-dots p number t [] is alike in
    let same : t.coefficient ≡ number =
    sym (mod-eq_of_lt (is.below 0 t (omega arith)))
    ∙ ap (λ c. c % p) (sym (first-alone t [] (is.once t.dots))) ∙ alike t.dots
    ∙ ap (λ d. coefficient_in (scaled number identity) d % p) none
    ∙ ap (λ c. c % p) (identity-there number) ∙ mod-eq_of_lt below in
    ap₂ (λ b c. cond b (Some c) None) (eq-eqb t.dots 0 none) same
reduced-number p number (t ∷ u ∷ ts) some below is alike =
    let none = no-dots p number t (u ∷ ts) is alike in
    elim (cases_eq u.dots 0) [
      | inl same ↦ absurd (twice none same (is.once t.dots))
      | inr other ↦
          absurd (not-none p u.coefficient (is.some 1 u (omega arith)) (is.below 1 u (omega arith))
          (ap (λ c. c % p) (sym (second-alone t u ts none other (is.once u.dots))) ∙ alike u.dots
          ∙ ap (λ c. c % p) (identity-else number u.dots other)))
    ]
  where
    twice : t.dots ≡ 0 → u.dots ≡ 0 → count_by (has_dots t.dots) (t ∷ u ∷ ts) ≤ 1 → ⊥
    twice first second once =
        let f : Term → ℕ = λ v. one_if (has_dots t.dots v) in
        omega (
          arith,
          once,
          sum_by-cons f t (u ∷ ts),
          sum_by-cons f u ts,
          ap one_if (eq-eqb t.dots t.dots refl),
          ap one_if (eq-eqb u.dots t.dots (second ∙ sym first)),
        )

-- the other way round
pub number-told : (number : ℕ) (terms : List Term) → number_in terms ≡ Some number → terms ≡ scaled number identity
number-told number [] is = absurd (no-some number is)
  where
    no-some : (number : ℕ) → None ≡ Some number → ⊥
    no-some number is = grind (arith, nat_tests)
number-told number (t ∷ []) is = elim (cases_eq t.dots 0) [
  | inl none ↦
      ap₂ (λ d c. dotted_term d c ∷ []) none
      (same t.coefficient number (sym (ap (λ b. cond b (Some t.coefficient) None) (eq-eqb t.dots 0 none)) ∙ is) ∙ one_time number)
  | inr some ↦ absurd (differ number (sym (ap (λ b. cond b (Some t.coefficient) None) (apart-test t.dots 0 some)) ∙ is))
]
  where
    apart-test : (x y : ℕ) → x ≢ y → nat_eq x y ≡ false
    apart-test x y apart = grind (arith, nat_tests)

    same : (x y : ℕ) → Some x ≡ Some y → x ≡ y
    same x y is = grind (arith, nat_tests)

    differ : (number : ℕ) → None ≡ Some number → ⊥
    differ number is = grind (arith, nat_tests)

    one_time : (x : ℕ) → x ≡ x * 1
    one_time x = omega arith
number-told number (t ∷ u ∷ ts) is = absurd (no-some number is)
  where
    no-some : (number : ℕ) → None ≡ Some number → ⊥
    no-some number is = grind (arith, nat_tests)

-- sums as maps

pub IsSum-map : (p : ℕ) (points : Points) (m n : List (ℕ × ℕ)) (terms more sum : List Term) → AreDotted points m n terms
    → AreDotted points m n more → IsSum p terms more sum → AreOneMap p points m n sum (terms ++ more)
IsSum-map p points m n terms more sum first second is = record {
  dots = is.dots (2 ^ length (discs points m n)) first second;
  other_dots = AllByRecursion-append (λ term. term.dots < 2 ^ length (discs points m n)) terms more first second;
  coefficients = λ dots below. is.coefficients dots;
}

pub IsSum-matrix : (p : ℕ) (points : Points) (m n o w : List (ℕ × ℕ)) (first second old sum : List Term) (factor row column : ℕ)
    → ArePlaced points → IsOpenPairing points m → AreGlued points m n w → AreGlued points n o w → AreGlued points m o w
    → AreGlued (inner points) m o n → AreDotted points m o old
    → IsSum p old (scaled factor (listed points m n o first second)) sum
    → matrix_of p 0 0 points m o w sum row column
    ≡ (matrix_of p 0 0 points m o w old row column
    + factor * product_at (2 ^ length (circles points n w)) (matrix_of p 0 0 points n o w second) (matrix_of p 0 0 points m n w first) row column)
    % p
IsSum-matrix p points m n o w first second old sum factor row column placed pairing before onward across inside dotted is =
    let list = listed points m n o first second in
    let made = IsComposition-listed p points m n o first second
    record { placed = placed; pairing = pairing; first = before.first; second = before.second; third = across.second } in
    matrix-same p 0 0 points m o w sum (old ++ scaled factor list) row column
    (IsSum-map p points m o old (scaled factor list) sum dotted (scaled-below factor (2 ^ length (discs points m o)) list made.dots) is)
    ∙ matrix-added p 0 0 points m n o w first second list old factor row column refl
    record { placed = placed; first = before; second = onward; whole = across; inside = inside } made
