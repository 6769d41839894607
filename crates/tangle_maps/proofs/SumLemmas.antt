-- Sums of terms: what adding one makes, and one after the other.
-- `IsSum p old more new` says that new is old with more added to it. It is chained (`IsSum-chained`): where mid is old with more, and new is
-- mid with others, new is old with both. So each loop that adds to a sum has one invariant: the sum now is the first one with what the
-- terms so far make (`multiples_more`, `made_more`). One term is added in three ways: it is put behind the others, where none has its dots;
-- else the coefficient there changes (`IsSum-set`), or the term goes where it becomes 0 (`IsSum-remove`); both by `changed`. In all three the
-- sum stays reduced.
use Rattle.std.proofs.Common.{◌≡◌, ◌≢◌, ℕ, zero, suc, inl, inr, ◌+◌, ◌*◌, ◌%◌, ◌<◌, ◌≤◌, ◌∙◌, List, [], ◌∷◌, ◌++◌, length, set, take, drop, None, Some, refl, sym, subst, ap, ap₂, arith, Bool, true, false, cond, not, All}
use Rattle.std.specs.Prelude.{nat_eq, get_or}
use Rattle.std.specs.List.{count_by, remove, position, position_or_len, flat_map, AllByRecursion}
use Rattle.std.proofs.Math.Nat.{mod-mod}
use Rattle.std.proofs.lemmas.List.{append-nil, map-append, take_more}
use Rattle.std.proofs.lemmas.Grind.{flat_map-append}
use Rattle.std.proofs.lemmas.Bool.{cases_eq, eqb-true}
use Rattle.std.proofs.lemmas.Bool.Decides.{nat_tests}
use Rattle.std.proofs.lemmas.List.Quantifiers.{position-Some}
use Rattle.std.proofs.lemmas.List.Sums.{sum_by_push, sum_by-cons, sum_by-append, sum_by-remove, sum_by-set}
use Rattle.std.proofs.lemmas.List.Elements.{All-set, All-push, recursion_from_All, All-from_recursion}
use Rattle.kh_types.specs.Bits.{one_if}
use Rattle.kh_types.specs.Residues.{Same}
use Rattle.kh_types.proofs.ListSums.{sum_by-alike, sum_by-map, sum_by-times}
use Rattle.kh_types.proofs.Residues.{same-add, same-cancel}
use Rattle.kh_types.proofs.Lists.{AllByRecursion-append, AllByRecursion-first, AllByRecursion-second}
use Rattle.dotted_maps.specs.declared.term.Term.{Term}
use Rattle.dotted_maps.specs.Maps.{coefficient_in, scaled}
use Rattle.tangle_maps.specs.Sums.{AreReduced, HaveDotsBelow, IsSum, has_dots, dotted_term}

abbrev counted : ℕ → Term → ℕ
counted dots term = cond (nat_eq term.dots dots) term.coefficient 0

abbrev with_multiple : ℕ → Term → Term
with_multiple factor term = record { dots = term.dots; coefficient = factor * term.coefficient }

pub coefficient-append : (xs ys : List Term) (dots : ℕ) → coefficient_in (xs ++ ys) dots ≡ coefficient_in xs dots + coefficient_in ys dots
coefficient-append xs ys dots = sum_by-append (counted dots) xs ys

-- one sum after the other
pub IsSum-chained : (p : ℕ) (old more mid others new : List Term) → IsSum p old more mid → IsSum p mid others new
    → IsSum p old (more ++ others) new
IsSum-chained p old more mid others new first second = record {
  coefficients = λ dots.
      second.coefficients dots
      ∙ ap (λ z. z % p) (coefficient-append mid others dots)
      ∙ same-add p (coefficient_in mid dots) (coefficient_in (old ++ more) dots) (coefficient_in others dots)
      (coefficient_in others dots) (first.coefficients dots) refl
      ∙ ap (λ z. z % p) (ap (λ z. z + coefficient_in others dots) (coefficient-append old more dots)
      ∙ grouped (coefficient_in old dots) (coefficient_in more dots) (coefficient_in others dots)
      ∙ ap (λ z. coefficient_in old dots + z) (sym (coefficient-append more others dots))
      ∙ sym (coefficient-append old (more ++ others) dots));
  dots = λ limit below all.
      second.dots limit (first.dots limit below (AllByRecursion-first (λ term. term.dots < limit) more others all))
      (AllByRecursion-second (λ term. term.dots < limit) more others all);
}
  where
    grouped : (a b c : ℕ) → a + b + c ≡ a + (b + c)
    grouped a b c = omega arith

-- the same with what has the same coefficients
pub IsSum-alike : (p : ℕ) (old more others new : List Term) → IsSum p old more new
    → ((dots : ℕ) → Same p (coefficient_in more dots) (coefficient_in others dots))
    → ((limit : ℕ) → HaveDotsBelow limit others → HaveDotsBelow limit more) → IsSum p old others new
IsSum-alike p old more others new is alike below = record {
  coefficients = λ dots.
      is.coefficients dots ∙ ap (λ z. z % p) (coefficient-append old more dots)
      ∙ same-add p (coefficient_in old dots) (coefficient_in old dots) (coefficient_in more dots) (coefficient_in others dots)
      refl (alike dots)
      ∙ ap (λ z. z % p) (sym (coefficient-append old others dots));
  dots = λ limit first second. is.dots limit first (below limit second);
}

-- one term, its coefficient modulo p
pub IsSum-reduced : (p dots coefficient : ℕ) (old new : List Term) → IsSum p old (dotted_term dots (coefficient % p) ∷ []) new
    → IsSum p old (dotted_term dots coefficient ∷ []) new
IsSum-reduced p dots coefficient old new is =
    IsSum-alike p old (dotted_term dots (coefficient % p) ∷ []) (dotted_term dots coefficient ∷ []) new is
    (λ other. ap (λ z. z % p) (single (nat_eq dots other) (coefficient % p)) ∙ test (nat_eq dots other)
    ∙ ap (λ z. z % p) (sym (single (nat_eq dots other) coefficient)))
    (λ limit below. below)
  where
    single : (b : Bool) (x : ℕ) → 0 + cond b x 0 ≡ cond b x 0
    single b x = zero_plus (cond b x 0)
      where
        zero_plus : (x : ℕ) → 0 + x ≡ x
        zero_plus x = omega arith

    test : (b : Bool) → cond b (coefficient % p) 0 % p ≡ cond b coefficient 0 % p
    test true = mod-mod coefficient p
    test false = refl

-- a list with one term changed
changed : (p : ℕ) (terms new : List Term) (there added : Term) (rest : ℕ → ℕ)
    → ((dots : ℕ) → coefficient_in new dots + counted dots there ≡ coefficient_in terms dots + rest dots)
    → ((dots : ℕ) → Same p (rest dots) (counted dots there + counted dots added)) → 0 < p → (dots : ℕ)
    → Same p (coefficient_in new dots) (coefficient_in (terms ++ added ∷ []) dots)
changed p terms new there added rest is alike positive dots =
    let f = counted dots in
    same-cancel p (coefficient_in new dots) (coefficient_in (terms ++ added ∷ []) dots) (f there) positive
    (ap (λ z. z % p) (is dots)
    ∙ same-add p (coefficient_in terms dots) (coefficient_in terms dots) (rest dots) (f there + f added) refl (alike dots)
    ∙ ap (λ z. z % p) (turned (coefficient_in terms dots) (f there) (f added)
    ∙ ap (λ z. z + f there) (sym (sum_by_push f terms added))))
  where
    turned : (a b c : ℕ) → a + (b + c) ≡ a + c + b
    turned a b c = omega arith

AllByRecursion-take : {X : Type 0} (P : X → Type 0) (xs : List X) (i : ℕ) → AllByRecursion P xs → AllByRecursion P (take i xs)
AllByRecursion-take P [] zero all = tt
AllByRecursion-take P [] (suc i) all = tt
AllByRecursion-take P (x ∷ xs) zero all = tt
AllByRecursion-take P (x ∷ xs) (suc i) all = (all.0, AllByRecursion-take P xs i all.1)

AllByRecursion-drop : {X : Type 0} (P : X → Type 0) (xs : List X) (i : ℕ) → AllByRecursion P xs → AllByRecursion P (drop i xs)
AllByRecursion-drop P [] zero all = tt
AllByRecursion-drop P [] (suc i) all = tt
AllByRecursion-drop P (x ∷ xs) zero all = all
AllByRecursion-drop P (x ∷ xs) (suc i) all = AllByRecursion-drop P xs i all.1

AllByRecursion-remove : {X : Type 0} (P : X → Type 0) (xs : List X) (i : ℕ) → AllByRecursion P xs → AllByRecursion P (remove xs i)
AllByRecursion-remove P xs i all =
    AllByRecursion-append P (take i xs) (drop (suc i) xs) (AllByRecursion-take P xs i all) (AllByRecursion-drop P xs (suc i) all)

AllByRecursion-set : {X : Type 0} (P : X → Type 0) (xs : List X) (i : ℕ) (y : X) → P y → AllByRecursion P xs → AllByRecursion P (set xs i y)
AllByRecursion-set P [] i y here all = tt
AllByRecursion-set P (x ∷ xs) zero y here all = (here, all.1)
AllByRecursion-set P (x ∷ xs) (suc i) y here all = (all.0, AllByRecursion-set P xs i y here all.1)

pub sums-alike : (p a b : ℕ) (test : Bool) → Same p a b → Same p (cond test a 0) (cond test b 0)
sums-alike p a b true same = same
sums-alike p a b false same = refl

both-counted : (test : Bool) (a b : ℕ) → cond test (a + b) 0 ≡ cond test a 0 + cond test b 0
both-counted true a b = refl
both-counted false a b = refl

-- a term is taken out, since it becomes 0
pub IsSum-remove : (p : ℕ) (terms : List Term) (place value : ℕ) → 0 < p → place < length terms
    → ((get_or terms place (dotted_term 0 0)).coefficient + value) % p ≡ 0
    → IsSum p terms (dotted_term (get_or terms place (dotted_term 0 0)).dots value ∷ []) (remove terms place)
IsSum-remove p terms place value positive within none =
    let there = get_or terms place (dotted_term 0 0) in
    let added = dotted_term there.dots value in
    record {
      coefficients = changed p terms (remove terms place) there added (λ dots. 0)
          (λ dots. sum_by-remove (counted dots) terms place (dotted_term 0 0) within ∙ plus_zero (coefficient_in terms dots))
          (λ dots.
          let test = nat_eq there.dots dots in
          zeros test
          ∙ sym (sums-alike p (there.coefficient + value) 0 test (none ∙ sym (zero-mod p)))
          ∙ ap (λ z. z % p) (both-counted test there.coefficient value)) positive;
      dots = λ limit below more. AllByRecursion-remove (λ term. term.dots < limit) terms place below;
    }
  where
    plus_zero : (x : ℕ) → x ≡ x + 0
    plus_zero x = omega arith

    zero-mod : (p : ℕ) → 0 % p ≡ 0
    zero-mod p = omega arith

    zeros : (test : Bool) → 0 % p ≡ cond test 0 0 % p
    zeros true = refl
    zeros false = refl

-- or its coefficient changes
pub IsSum-set : (p : ℕ) (terms : List Term) (place value : ℕ) → 0 < p → place < length terms
    → IsSum p terms (dotted_term (get_or terms place (dotted_term 0 0)).dots value ∷ [])
    (set terms place (dotted_term (get_or terms place (dotted_term 0 0)).dots (((get_or terms place (dotted_term 0 0)).coefficient + value) % p)))
IsSum-set p terms place value positive within =
    let there = get_or terms place (dotted_term 0 0) in
    let added = dotted_term there.dots value in
    let made = dotted_term there.dots ((there.coefficient + value) % p) in
    record {
      coefficients = changed p terms (set terms place made) there added (λ dots. counted dots made)
          (λ dots. sum_by-set (counted dots) terms place made (dotted_term 0 0) within)
          (λ dots.
          let test = nat_eq there.dots dots in
          sums-alike p ((there.coefficient + value) % p) (there.coefficient + value) test (mod-mod (there.coefficient + value) p)
          ∙ ap (λ z. z % p) (both-counted test there.coefficient value)) positive;
      dots = λ limit below more. AllByRecursion-set (λ term. term.dots < limit) terms place made more.0 below;
    }

-- what stays reduced

All-remove : {X : Type 0} (P : X → Type 0) (xs : List X) (i : ℕ) → All P xs → All P (remove xs i)
All-remove P xs i all = All-from_recursion P (remove xs i) (AllByRecursion-remove P xs i (recursion_from_All P xs all))

pub AreReduced-remove : (p : ℕ) (terms : List Term) (place : ℕ) → place < length terms → AreReduced p terms
    → AreReduced p (remove terms place)
AreReduced-remove p terms place within is = record {
  some = All-remove (λ term. 0 < term.coefficient) terms place is.some;
  below = All-remove (λ term. term.coefficient < p) terms place is.below;
  once = λ dots.
      let e = sum_by-remove (λ term. one_if (has_dots dots term)) terms place (dotted_term 0 0) within in
      omega (arith, e, is.once dots);
}

pub AreReduced-set : (p : ℕ) (terms : List Term) (place coefficient : ℕ) → place < length terms → 0 < coefficient → coefficient < p
    → AreReduced p terms → AreReduced p (set terms place (dotted_term (get_or terms place (dotted_term 0 0)).dots coefficient))
AreReduced-set p terms place coefficient within some below is =
    let made = dotted_term (get_or terms place (dotted_term 0 0)).dots coefficient in
    record {
      some = All-set (λ term. 0 < term.coefficient) terms place made some is.some;
      below = All-set (λ term. term.coefficient < p) terms place made below is.below;
      once = λ dots.
          let e = sum_by-set (λ term. one_if (has_dots dots term)) terms place made (dotted_term 0 0) within in
          omega (arith, e, is.once dots);
    }

-- as code has it
pub removed_at : (p : ℕ) (terms new : List Term) (place value coefficient : ℕ) → 1 < p → place < length terms
    → coefficient ≡ ((get_or terms place (dotted_term 0 0)).coefficient + value) % p → coefficient ≡ 0 → new ≡ remove terms place
    → IsSum p terms (dotted_term (get_or terms place (dotted_term 0 0)).dots value ∷ []) new
removed_at p terms new place value coefficient above within is none made =
    subst (λ xs. IsSum p terms (dotted_term (get_or terms place (dotted_term 0 0)).dots value ∷ []) xs) (sym made)
    (IsSum-remove p terms place value (omega (arith, above)) within (sym is ∙ none))

pub set_at : (p : ℕ) (terms new : List Term) (place value coefficient dots : ℕ) → 1 < p → place < length terms
    → coefficient ≡ ((get_or terms place (dotted_term 0 0)).coefficient + value) % p
    → dots ≡ (get_or terms place (dotted_term 0 0)).dots → new ≡ set terms place (dotted_term dots coefficient)
    → IsSum p terms (dotted_term (get_or terms place (dotted_term 0 0)).dots value ∷ []) new
set_at p terms new place value coefficient dots above within is at made =
    subst (λ xs. IsSum p terms (dotted_term (get_or terms place (dotted_term 0 0)).dots value ∷ []) xs)
    (sym (made ∙ ap₂ (λ d x. set terms place (dotted_term d x)) at is))
    (IsSum-set p terms place value (omega (arith, above)) within)

pub reduced_set_at : (p : ℕ) (terms new : List Term) (place coefficient dots : ℕ) → place < length terms → coefficient ≢ 0
    → coefficient < p → dots ≡ (get_or terms place (dotted_term 0 0)).dots → new ≡ set terms place (dotted_term dots coefficient)
    → AreReduced p terms → AreReduced p new
reduced_set_at p terms new place coefficient dots within some below at made is =
    subst (λ xs. AreReduced p xs) (sym (made ∙ ap (λ d. set terms place (dotted_term d coefficient)) at))
    (AreReduced-set p terms place coefficient within (omega (arith, some)) below is)

all-fail : (p : Term → Bool) (xs : List Term) → length xs ≤ position_or_len p xs → count_by p xs ≡ 0
all-fail p [] is = refl
all-fail p (x ∷ xs) is = sum_by-cons (λ y. one_if (p y)) x xs ∙ here (p x) (λ more. all-fail p xs more) is
  where
    here : (b : Bool) → (length xs ≤ position_or_len p xs → count_by p xs ≡ 0)
        → length (x ∷ xs) ≤ cond (not b) (1 + position_or_len p xs) 0 → one_if b + count_by p xs ≡ 0
    here true later none = absurd (omega (arith, none))
    here false later more = omega (arith, later (omega (arith, more)))

none-counted : (p : Term → Bool) (xs : List Term) → position p xs ≡ None → count_by p xs ≡ 0
none-counted p xs is = all-fail p xs (past is)
  where
    past : position p xs ≡ None → length xs ≤ position_or_len p xs
    past none = grind (arith, nat_tests)

pub AreReduced-push : (p : ℕ) (terms : List Term) (dots coefficient : ℕ) → position (has_dots dots) terms ≡ None → 0 < coefficient
    → coefficient < p → AreReduced p terms → AreReduced p (terms ++ dotted_term dots coefficient ∷ [])
AreReduced-push p terms dots coefficient none some below is = record {
  some = All-push (λ term. 0 < term.coefficient) terms (dotted_term dots coefficient) is.some some;
  below = All-push (λ term. term.coefficient < p) terms (dotted_term dots coefficient) is.below below;
  once = λ other. once other;
}
  where
    most : (b : Bool) → one_if b ≤ 1
    most true = omega arith
    most false = omega arith

    apart-test : (x y : ℕ) → x ≢ y → nat_eq x y ≡ false
    apart-test x y apart = grind (arith, nat_tests)

    once : (other : ℕ) → count_by (has_dots other) (terms ++ dotted_term dots coefficient ∷ []) ≤ 1
    once other =
        let e = sum_by_push (λ term. one_if (has_dots other term)) terms (dotted_term dots coefficient) in
        elim (cases_eq dots other) [
          | inl same ↦ omega (arith, e, none-counted (has_dots other) terms (subst (λ d. position (has_dots d) terms ≡ None) same none), most (nat_eq dots other))
          | inr apart ↦ omega (arith, e, is.once other, ap one_if (apart-test dots other apart))
        ]

pub pushed_reduced : (p : ℕ) (terms new : List Term) (dots coefficient : ℕ) → position (has_dots dots) terms ≡ None → coefficient ≢ 0
    → coefficient < p → new ≡ terms ++ dotted_term dots coefficient ∷ [] → AreReduced p terms → AreReduced p new
pushed_reduced p terms new dots coefficient none some below made is =
    subst (λ xs. AreReduced p xs) (sym made) (AreReduced-push p terms dots coefficient none (omega (arith, some)) below is)

-- the term at the first place that has these dots has them
pub found_dots : (p : ℕ) (terms new : List Term) (dots place value : ℕ) → position (has_dots dots) terms ≡ Some place
    → IsSum p terms (dotted_term (get_or terms place (dotted_term 0 0)).dots value ∷ []) new → IsSum p terms (dotted_term dots value ∷ []) new
found_dots p terms new dots place value found is =
    let has = (position-Some (has_dots dots) terms place (dotted_term 0 0) found).1 in
    subst (λ d. IsSum p terms (dotted_term d value ∷ []) new) (eqb-true (get_or terms place (dotted_term 0 0)).dots dots has) is

-- multiples of sums

pub coefficient-scaled : (factor : ℕ) (terms : List Term) (dots : ℕ)
    → coefficient_in (scaled factor terms) dots ≡ factor * coefficient_in terms dots
coefficient-scaled factor terms dots =
    sum_by-map (counted dots) (with_multiple factor) terms
    ∙ sum_by-alike (λ term. cond (nat_eq term.dots dots) (factor * term.coefficient) 0) (λ term. factor * counted dots term)
    (λ term. taken (nat_eq term.dots dots) term.coefficient) terms
    ∙ sum_by-times (counted dots) factor terms
  where
    taken : (b : Bool) (c : ℕ) → cond b (factor * c) 0 ≡ factor * cond b c 0
    taken true c = refl
    taken false c = omega arith

pub scaled-below : (factor limit : ℕ) (terms : List Term) → HaveDotsBelow limit terms → HaveDotsBelow limit (scaled factor terms)
scaled-below factor limit [] all = tt
scaled-below factor limit (x ∷ xs) all = (all.0, scaled-below factor limit xs all.1)

pub scaled-append : (factor : ℕ) (xs ys : List Term) → scaled factor (xs ++ ys) ≡ scaled factor xs ++ scaled factor ys
scaled-append factor xs ys = map-append (with_multiple factor) xs ys

pub multiple_added : (p factor coefficient element dots : ℕ) (old new : List Term) → element ≡ coefficient
    → IsSum p old (dotted_term dots (factor * element % p) ∷ []) new → IsSum p old (dotted_term dots (factor * coefficient) ∷ []) new
multiple_added p factor coefficient element dots old new same is =
    IsSum-reduced p dots (factor * coefficient) old new
    (subst (λ e. IsSum p old (dotted_term dots (factor * e % p) ∷ []) new) same is)

pub multiples_more : (p factor k : ℕ) (old terms new more : List Term) → k < length more
    → IsSum p old (scaled factor (take k more)) terms → IsSum p terms (scaled factor (get_or more k (dotted_term 0 0) ∷ [])) new
    → IsSum p old (scaled factor (take (k + 1) more)) new
multiples_more p factor k old terms new more within first second =
    let term = get_or more k (dotted_term 0 0) in
    subst (λ xs. IsSum p old xs new)
    (sym (ap (scaled factor) (take_more more k (dotted_term 0 0) within) ∙ scaled-append factor (take k more) (term ∷ [])))
    (IsSum-chained p old (scaled factor (take k more)) terms (scaled factor (term ∷ [])) new first second)

-- sums of what terms make, one term more
pub made_more : (p factor k : ℕ) (make : Term → List Term) (old terms new more : List Term) → k < length more
    → IsSum p old (scaled factor (flat_map make (take k more))) terms → IsSum p terms (scaled factor (make (get_or more k (dotted_term 0 0)))) new
    → IsSum p old (scaled factor (flat_map make (take (k + 1) more))) new
made_more p factor k make old terms new more within first second =
    let term = get_or more k (dotted_term 0 0) in
    subst (λ xs. IsSum p old xs new)
    (sym (ap (λ xs. scaled factor (flat_map make xs)) (take_more more k (dotted_term 0 0) within)
    ∙ ap (scaled factor) (flat_map-append make (take k more) (term ∷ [])
    ∙ ap (λ (xs : List Term). flat_map make (take k more) ++ xs) (append-nil (make term)))
    ∙ scaled-append factor (flat_map make (take k more)) (make term)))
    (IsSum-chained p old (scaled factor (flat_map make (take k more))) terms (scaled factor (make term)) new first second)
