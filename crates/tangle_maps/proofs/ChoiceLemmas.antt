-- Choices of discs, as terms, disc by disc.
-- The code goes through the discs in order. It has the dots on the discs before a place, and adds a term for each choice of the rest.
-- `chosen dots place` are the terms with these dots before the place and each of some dot sets from there on. A disc with a dot adds
-- 2 ^ place to the dots and leaves the sets 1 + 2 * s (`chosen-odd`), one without leaves the sets 2 * s (`chosen-even`); so the definition's
-- `choices`, branch by branch, is what the code's two calls add (`chosen_both`, `chosen_dotted`, `chosen_last`). From the place 0 on these are the
-- terms of the composition of two terms (`composed_added`).
use Rattle.std.proofs.Common.{◌≡◌, ◌≢◌, ℕ, zero, suc, inl, inr, ◌+◌, ◌-◌, ◌*◌, ◌%◌, ◌^◌, ◌<◌, ◌∙◌, List, [], ◌∷◌, ◌++◌, length, map, set, refl, sym, subst, ap, ap₂, arith, Bool, true, false, cond, ◌&&◌, eq-eqb}
use Rattle.std.specs.Prelude.{nat_eq, slice_index, get_or}
use Rattle.std.specs.List.{count_by, list_all, AllByRecursion, Contains}
use Rattle.std.proofs.Math.Nat.{pow-suc}
use Rattle.std.proofs.lemmas.Bool.{cases_eq}
use Rattle.std.proofs.lemmas.Bool.Decides.{nat_tests}
use Rattle.std.proofs.lemmas.List.{map-append, append-nil, nil_from_length, get_or-set_same, get_or-set_other}
use Rattle.dotted_maps.specs.declared.term.Term.{Term}
use Rattle.dotted_maps.specs.Choices.{choices, fewer}
use Rattle.tangle_maps.specs.Chosen.{chosen}
use Rattle.tangle_maps.specs.Sums.{HaveDotsBelow, IsSum, dotted_term, dotted_times}
use Rattle.tangle_maps.specs.Seams.{CanCompose, factor_by, left_by, seam_terms}
use Rattle.tangle_maps.specs.declared.seam.Seam.{Seam}
use Rattle.kh_types.specs.Residues.{Same}
use Rattle.kh_types.proofs.Residues.{same-add, same-mul}
use Rattle.dotted_maps.specs.Maps.{coefficient_in, scaled}
use Rattle.dotted_maps.specs.Parts.{product_over}
use Rattle.dotted_maps.proofs.LeastPoints.{all-themselves}
use Rattle.std.proofs.lemmas.List.Sums.{sum_by-cons}
use Rattle.tangle_maps.proofs.SumLemmas.{IsSum-alike, IsSum-chained, coefficient-append, sums-alike}

abbrev made : ℕ → ℕ → ℕ → ℕ → Term
made dots place value s = dotted_term (dots + 2 ^ place * s) value

-- a disc with a dot, and one without

doubled : (j : ℕ) → 2 ^ (j + 1) ≡ 2 ^ j * 2
doubled j = let e : j + 1 ≡ suc j = omega arith in ap (λ i. 2 ^ i) e ∙ pow-suc 2 j

odd-dots : (a j s : ℕ) → a + 2 ^ j * (1 + 2 * s) ≡ a + 2 ^ j + 2 ^ (j + 1) * s
odd-dots a j s = lin a (2 ^ j) s ∙ ap (λ y. a + 2 ^ j + y * s) (sym (doubled j))
  where
    lin : (a x s : ℕ) → a + x * (1 + 2 * s) ≡ a + x + x * 2 * s
    lin a x s = omega arith

even-dots : (a j s : ℕ) → a + 2 ^ j * (2 * s) ≡ a + 2 ^ (j + 1) * s
even-dots a j s = lin a (2 ^ j) s ∙ ap (λ y. a + y * s) (sym (doubled j))
  where
    lin : (a x s : ℕ) → a + x * (2 * s) ≡ a + x * 2 * s
    lin a x s = omega arith

chosen-odd : (a j v : ℕ) (xs : List ℕ) → chosen a j v (map (λ s. 1 + 2 * s) xs) ≡ chosen (a + 2 ^ j) (j + 1) v xs
chosen-odd a j v [] = refl
chosen-odd a j v (x ∷ xs) = ap₂ (λ (d : ℕ) (ts : List Term). dotted_term d v ∷ ts) (odd-dots a j x) (chosen-odd a j v xs)

chosen-even : (a j v : ℕ) (xs : List ℕ) → chosen a j v (map (λ s. 2 * s) xs) ≡ chosen a (j + 1) v xs
chosen-even a j v [] = refl
chosen-even a j v (x ∷ xs) = ap₂ (λ (d : ℕ) (ts : List Term). dotted_term d v ∷ ts) (even-dots a j x) (chosen-even a j v xs)

-- terms with the coefficient 0 add nothing

chosen-zero : (a j kept : ℕ) (xs : List ℕ) → coefficient_in (chosen a j 0 xs) kept ≡ 0
chosen-zero a j kept [] = refl
chosen-zero a j kept (x ∷ xs) =
    sum_by-cons (λ term. cond (nat_eq term.dots kept) term.coefficient 0) (made a j 0 x) (chosen a j 0 xs)
    ∙ ap₂ (λ b n. b + n) (nothing (nat_eq (a + 2 ^ j * x) kept)) (chosen-zero a j kept xs)
  where
    nothing : (b : Bool) → cond {A = ℕ} b 0 0 ≡ 0
    nothing true = refl
    nothing false = refl

pub zero_added : (p value : ℕ) (sets : List ℕ) (terms : List Term) → value ≡ 0 → IsSum p terms (chosen 0 0 value sets) terms
zero_added p value sets terms is_zero = record {
  coefficients = λ kept.
      ap (λ n. n % p)
      (same (coefficient_in terms kept) (coefficient_in (chosen 0 0 value sets) kept)
      (ap (λ v. coefficient_in (chosen 0 0 v sets) kept) is_zero ∙ chosen-zero 0 0 kept sets)
      ∙ sym (coefficient-append terms (chosen 0 0 value sets) kept));
  dots = λ limit below more. below;
}
  where
    same : (a b : ℕ) → b ≡ 0 → a ≡ a + b
    same a b none = omega (arith, none)

-- choices depend on what is left at their names and discs alone, of which a fact P holds

all-on : (P : ℕ → Type 0) (p q : ℕ → Bool) (xs : List ℕ) → AllByRecursion P xs → ((x : ℕ) → P x → p x ≡ q x)
    → list_all p xs ≡ list_all q xs
all-on P p q [] all alike = refl
all-on P p q (x ∷ xs) all alike = ap₂ (λ a b. a && b) (alike x all.0) (all-on P p q xs all.1 alike)

choices-agree : (P : ℕ → Type 0) (names ks : List ℕ) (left other : ℕ → ℕ) → AllByRecursion P names → AllByRecursion P ks
    → ((k : ℕ) → P k → left k ≡ other k) → choices names ks left ≡ choices names ks other
choices-agree P names [] left other named all alike =
    ap (λ b. cond b (0 ∷ []) [])
    (all-on P (λ k. nat_eq (left k) 0) (λ k. nat_eq (other k) 0) names named (λ k has. ap (λ x. nat_eq x 0) (alike k has)))
choices-agree P names (k ∷ ks) left other named all alike =
    let odds = map (λ s. 1 + 2 * s) in
    let evens = map (λ s. 2 * s) in
    ap (λ xs. odds xs ++ cond (nat_eq (left k) 0) [] (evens (choices names ks (fewer k left))))
    (choices-agree P names ks left other named all.1 alike)
    ∙ ap (λ n. odds (choices names ks other) ++ cond (nat_eq n 0) [] (evens (choices names ks (fewer k left)))) (alike k all.0)
    ∙ ap (λ xs. odds (choices names ks other) ++ cond (nat_eq (other k) 0) [] (evens xs))
    (choices-agree P names ks (fewer k left) (fewer k other) named all.1
    (λ x has. ap (λ n. cond (nat_eq x k) (n - 1) (left x)) (alike x has) ∙ ap (λ n. cond (nat_eq x k) (other x - 1) n) (alike x has)))

-- at the names alone, where the discs are among them
pub choices-on : (names ks : List ℕ) (left other : ℕ → ℕ) → AllByRecursion (λ k. Contains names k) ks
    → ((k : ℕ) → Contains names k → left k ≡ other k) → choices names ks left ≡ choices names ks other
choices-on names ks left other named alike =
    choices-agree (λ k. Contains names k) names ks left other (all-themselves names) named alike

everywhere : (xs : List ℕ) → AllByRecursion (λ x. Unit {0}) xs
everywhere [] = tt
everywhere (x ∷ xs) = (tt, everywhere xs)

fewer-set : (left : List ℕ) (k x : ℕ) → k < length left → fewer k (slice_index left) x ≡ slice_index (set left k (slice_index left k - 1)) x
fewer-set left k x within = elim (cases_eq x k) [
  | inl same ↦
      ap (λ b. cond b (slice_index left x - 1) (slice_index left x)) (eq-eqb x k same) ∙ ap (λ i. slice_index left i - 1) same
      ∙ sym (ap (λ i. get_or (set left k (slice_index left k - 1)) i 0) same
      ∙ get_or-set_same left k (slice_index left k - 1) 0 within)
  | inr apart ↦
      ap (λ b. cond b (slice_index left x - 1) (slice_index left x)) (apart-test x k apart)
      ∙ sym (get_or-set_other left k x (slice_index left k - 1) 0 apart)
]
  where
    apart-test : (x y : ℕ) → x ≢ y → nat_eq x y ≡ false
    apart-test x y apart = grind (arith, nat_tests)

-- what is not 0 is in the list
within-some : (xs : List ℕ) (k : ℕ) → 0 < slice_index xs k → k < length xs
within-some [] k some = absurd (omega (arith, some))
within-some (x ∷ xs) zero some = omega arith
within-some (x ∷ xs) (suc k) some = omega (arith, within-some xs k some)

-- no disc is left
pub chosen_last : (p dots place value : ℕ) (names discs : List ℕ) (left : ℕ → ℕ) (old new : List Term) → length discs ≡ 0
    → list_all (λ k. nat_eq (left k) 0) names ≡ true → IsSum p old (dotted_term dots value ∷ []) new
    → IsSum p old (chosen dots place value (choices names discs left)) new
chosen_last p dots place value names discs left old new none done is =
    subst (λ xs. IsSum p old xs new)
    (sym (ap (λ ks. chosen dots place value (choices names ks left)) (nil_from_length discs none)
    ∙ ap (λ b. chosen dots place value (cond b (0 ∷ []) [])) done
    ∙ ap (λ d. dotted_term d value ∷ []) (nothing dots (2 ^ place)))) is
  where
    nothing : (a b : ℕ) → a + b * 0 ≡ a
    nothing a b = omega arith

-- what becomes of the choices with a disc more
abbrev even_part : List ℕ → ℕ → List ℕ → (ℕ → ℕ) → Bool → List ℕ
even_part names k ks left b = cond b [] (map (λ x. 2 * x) (choices names ks (fewer k left)))

chosen-parted : (a j v k : ℕ) (names ks : List ℕ) (left : ℕ → ℕ)
    → chosen a j v (choices names (k ∷ ks) left)
    ≡ chosen (a + 2 ^ j) (j + 1) v (choices names ks left) ++ chosen a j v (even_part names k ks left (nat_eq (left k) 0))
chosen-parted a j v k names ks left =
    map-append (made a j v) (map (λ s. 1 + 2 * s) (choices names ks left)) (even_part names k ks left (nat_eq (left k) 0))
    ∙ ap (λ (ts : List Term). ts ++ chosen a j v (even_part names k ks left (nat_eq (left k) 0))) (chosen-odd a j v (choices names ks left))

test-false : (u : ℕ) → u ≢ 0 → nat_eq u 0 ≡ false
test-false u some = grind (arith, nat_tests)

-- a disc that has a dot, or none
pub chosen_both : (p a j v k b i d e : ℕ) (names discs ks left fewer_left : List ℕ) (old mid new : List Term)
    → discs ≡ k ∷ ks → 0 < slice_index left k → b ≡ a + 2 ^ j → i ≡ j + 1 → d ≡ a → e ≡ j + 1
    → fewer_left ≡ set left k (slice_index left k - 1)
    → IsSum p old (chosen b i v (choices names ks (slice_index left))) mid
    → IsSum p mid (chosen d e v (choices names ks (slice_index fewer_left))) new
    → IsSum p old (chosen a j v (choices names discs (slice_index left))) new
chosen_both p a j v k b i d e names discs ks left fewer_left old mid new are some at_b at_i at_d at_e set_left first second =
    let mine = slice_index left in
    let one : chosen b i v (choices names ks mine) ≡ chosen (a + 2 ^ j) (j + 1) v (choices names ks mine) =
    ap₂ (λ x y. chosen x y v (choices names ks mine)) at_b at_i in
    let two : chosen d e v (choices names ks (slice_index fewer_left)) ≡ chosen a j v (even_part names k ks mine (nat_eq (mine k) 0)) =
    ap₂ (λ x y. chosen x y v (choices names ks (slice_index fewer_left))) at_d at_e
    ∙ ap (λ xs. chosen a (j + 1) v (choices names ks (slice_index xs))) set_left
    ∙ ap (λ xs. chosen a (j + 1) v xs)
    (sym (choices-agree (λ x. Unit {0}) names ks (fewer k mine) (slice_index (set left k (mine k - 1))) (everywhere names) (everywhere ks)
    (λ x all. fewer-set left k x (within-some left k some))))
    ∙ sym (chosen-even a j v (choices names ks (fewer k mine)))
    ∙ ap (λ c. chosen a j v (even_part names k ks mine c)) (sym (test-false (mine k) (λ none. absurd (omega (arith, none, some))))) in
    subst (λ xs. IsSum p old xs new)
    (ap₂ (λ xs ys. xs ++ ys) one two ∙ sym (chosen-parted a j v k names ks mine)
    ∙ ap (λ xs. chosen a j v (choices names xs mine)) (sym are))
    (IsSum-chained p old (chosen b i v (choices names ks mine)) mid (chosen d e v (choices names ks (slice_index fewer_left))) new first second)

-- a disc that has a dot
pub chosen_dotted : (p a j v k b i : ℕ) (names discs ks left : List ℕ) (old new : List Term)
    → discs ≡ k ∷ ks → slice_index left k ≡ 0 → b ≡ a + 2 ^ j → i ≡ j + 1
    → IsSum p old (chosen b i v (choices names ks (slice_index left))) new
    → IsSum p old (chosen a j v (choices names discs (slice_index left))) new
chosen_dotted p a j v k b i names discs ks left old new are none at_b at_i first =
    let mine = slice_index left in
    subst (λ xs. IsSum p old xs new)
    (sym (append-nil (chosen b i v (choices names ks mine)))
    ∙ ap₂ (λ xs ys. xs ++ ys) (ap₂ (λ x y. chosen x y v (choices names ks mine)) at_b at_i)
    (ap (λ c. chosen a j v (even_part names k ks mine c)) (sym (eq-eqb (mine k) 0 none)))
    ∙ sym (chosen-parted a j v k names ks mine) ∙ ap (λ xs. chosen a j v (choices names xs mine)) (sym are)) first

-- where a named component is to have a disc without a dot, and has no disc, there is no choice

not-done : (left : ℕ → ℕ) (names : List ℕ) (k : ℕ) → Contains names k → left k ≢ 0
    → list_all (λ j. nat_eq (left j) 0) names ≡ false
not-done left [] k has some = absurd (omega (arith, has.1))
not-done left (name ∷ names) k has some = elim (cases_eq (left name) 0) [
  | inl none ↦
      ap₂ (λ a b. a && b) (eq-eqb (left name) 0 none)
      (not-done left names k (behind (λ same. some (sym (ap left same) ∙ none))) some)
  | inr here ↦ ap (λ b. b && list_all (λ j. nat_eq (left j) 0) names) (test-false (left name) here)
]
  where
    later : (xs : List ℕ) → Contains (name ∷ xs) k → (name ≢ k) → Contains xs k
    later xs (zero, within, is) apart = absurd (apart is)
    later xs (suc i, within, is) apart = (i, omega (arith, within), is)

    behind : (name ≢ k) → Contains names k
    behind apart = later names has apart

pub choices-none : (names ks : List ℕ) (left : ℕ → ℕ) (k : ℕ) → Contains names k → left k ≢ 0 → count_by (λ x. nat_eq x k) ks ≡ 0
    → choices names ks left ≡ []
choices-none names [] left k has some none = ap (λ b. cond b (0 ∷ []) []) (not-done left names k has some)
choices-none names (j ∷ ks) left k has some none =
    let split = sum_by-cons (λ x. cond (nat_eq x k) 1 0) j ks in
    let rest : count_by (λ x. nat_eq x k) ks ≡ 0 = omega (arith, split, none) in
    let apart : k ≢ j = λ same. absurd (omega (arith, split, none, ap {B = ℕ} (λ b. cond b 1 0) (eq-eqb j k (sym same)))) in
    let later : fewer j left k ≢ 0 = λ is. some (sym (ap (λ b. cond b (left k - 1) (left k)) (apart-test k j apart)) ∙ is) in
    ap₂ (λ xs ys. map (λ s. 1 + 2 * s) xs ++ cond (nat_eq (left j) 0) [] (map (λ s. 2 * s) ys)) (choices-none names ks left k has some rest)
    (choices-none names ks (fewer j left) k has later rest)
    ∙ nothing (nat_eq (left j) 0)
  where
    apart-test : (x y : ℕ) → x ≢ y → nat_eq x y ≡ false
    apart-test x y apart = grind (arith, nat_tests)

    nothing : (b : Bool) → cond {A = List ℕ} b [] [] ≡ []
    nothing true = refl
    nothing false = refl

-- a disc that has none
pub chosen_undotted : (p a j v k d e : ℕ) (names discs ks left fewer_left : List ℕ) (old new : List Term)
    → AllByRecursion (λ x. Contains names x) discs → discs ≡ k ∷ ks
    → (slice_index left k ≢ 0) × (count_by (λ x. nat_eq x k) ks ≡ 0) → d ≡ a → e ≡ j + 1
    → fewer_left ≡ set left k (slice_index left k - 1)
    → IsSum p old (chosen d e v (choices names ks (slice_index fewer_left))) new
    → IsSum p old (chosen a j v (choices names discs (slice_index left))) new
chosen_undotted p a j v k d e names discs ks left fewer_left old new named are needs at_d at_e set_left second =
    let has : Contains names k = (subst (λ xs. AllByRecursion (λ x. Contains names x) xs) are named).0 in
    let none = choices-none names ks (slice_index left) k has needs.0 needs.1 in
    chosen_both p a j v k (a + 2 ^ j) (j + 1) d e names discs ks left fewer_left old old new are
    (omega (arith, needs.0)) refl refl at_d at_e set_left
    (subst (λ xs. IsSum p old (chosen (a + 2 ^ j) (j + 1) v xs) old) (sym none) (nothing-added p old)) second
  where
    nothing-added : (p : ℕ) (terms : List Term) → IsSum p terms [] terms
    nothing-added p terms = record {
      coefficients = λ dots. ap (λ xs. coefficient_in xs dots % p) (sym (append-nil terms));
      dots = λ limit below more. below;
    }

-- the same sets with the same coefficient modulo p

from_zero : (s : ℕ) → 0 + 2 ^ 0 * s ≡ s
from_zero s = omega arith

sets-alike : (p a f c : ℕ) → Same p a (f * c) → (sets : List ℕ) (dots : ℕ)
    → Same p (coefficient_in (chosen 0 0 a sets) dots) (coefficient_in (scaled f (map (dotted_times c) sets)) dots)
sets-alike p a f c same [] dots = refl
sets-alike p a f c same (s ∷ sets) dots =
    let count : Term → ℕ = λ term. cond (nat_eq term.dots dots) term.coefficient 0 in
    ap (λ z. z % p) (sum_by-cons count (dotted_term (0 + 2 ^ 0 * s) a) (chosen 0 0 a sets)
    ∙ ap (λ d. cond (nat_eq d dots) a 0 + coefficient_in (chosen 0 0 a sets) dots) (from_zero s))
    ∙ same-add p (cond (nat_eq s dots) a 0) (cond (nat_eq s dots) (f * c) 0) (coefficient_in (chosen 0 0 a sets) dots)
    (coefficient_in (scaled f (map (dotted_times c) sets)) dots) (sums-alike p a (f * c) (nat_eq s dots) same)
    (sets-alike p a f c same sets dots)
    ∙ ap (λ z. z % p) (sym (sum_by-cons count (dotted_term s (f * c)) (scaled f (map (dotted_times c) sets))))

sets-below : (a f c : ℕ) (sets : List ℕ) (limit : ℕ) → HaveDotsBelow limit (scaled f (map (dotted_times c) sets))
    → HaveDotsBelow limit (chosen 0 0 a sets)
sets-below a f c [] limit all = tt
sets-below a f c (s ∷ sets) limit all =
    (subst (λ d. d < limit) (sym (from_zero s)) all.0, sets-below a f c sets limit all.1)

-- the composition of two terms
pub composed_added : (p f value weighed : ℕ) (seam : Seam) (term other : Term) (left : List ℕ) (old new : List Term) → CanCompose seam
    → ((k : ℕ) → Contains seam.components.items k → slice_index left k ≡ left_by seam term.dots other.dots k)
    → Same p value (f * (term.coefficient * other.coefficient))
    → Same p weighed (value * product_over (factor_by seam term.dots other.dots) seam.components.items)
    → IsSum p old (chosen 0 0 weighed (choices seam.components.items seam.whole.items (slice_index left))) new
    → IsSum p old (scaled f (seam_terms seam term other)) new
composed_added p f value weighed seam term other left old new can lefts is_value is_weighed is =
    let names = seam.components.items in
    let parts = product_over (factor_by seam term.dots other.dots) names in
    let c = term.coefficient * other.coefficient * parts in
    let sets = choices names seam.whole.items (left_by seam term.dots other.dots) in
    let worth : Same p weighed (f * c) =
    is_weighed ∙ same-mul p value (f * (term.coefficient * other.coefficient)) parts parts is_value refl
    ∙ ap (λ z. z % p) (grouped f (term.coefficient * other.coefficient) parts) in
    IsSum-alike p old (chosen 0 0 weighed sets) (scaled f (map (dotted_times c) sets)) new
    (subst (λ xs. IsSum p old (chosen 0 0 weighed xs) new)
    (choices-on names seam.whole.items (slice_index left) (left_by seam term.dots other.dots) can.named lefts) is)
    (sets-alike p weighed f c worth sets) (sets-below weighed f c sets)
  where
    grouped : (a b c : ℕ) → a * b * c ≡ a * (b * c)
    grouped a b c = omega arith
