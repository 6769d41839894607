-- The components of paired passes, by the labels of their names, and the passes of these labels.
--
-- A component of names has labels, those of the passes that enter on them. Turned names have turned labels, so the list of labels stands
-- for the components in order, and the place of a name in the order is its new number. A pass of these labels enters on such a number and
-- leaves on the next in its component (`all-numbered`). The labels name crossings, each pass once, so that none is bad.
use Rattle.std.proofs.Common.{◌≡◌, ℕ, zero, suc, ◌⊎◌, inl, inr, ◌+◌, ◌/◌, ◌<◌, ◌≤◌, ◌∙◌, List, [], ◌∷◌, ◌++◌, length, map, take, get_or, refl, sym, ap, subst, arith, false, ◌||◌}
use Rattle.std.specs.Prelude.{nat_eq, nat_lt, None, ℤ, nat_abs}
use Rattle.std.specs.List.{flat_map, list_any, range_with_len, AllByRecursion}
use Rattle.std.specs.Ordering.{int_eq}
use Rattle.std.proofs.lemmas.Bool.{cases_eq}
use Rattle.std.proofs.lemmas.Bool.Decides.{nat_tests}
use Rattle.std.proofs.lemmas.List.{length-map, length-append, take-map}
use Rattle.kh_types.proofs.Lists.{AllByRecursion-append, find-none}
use Rattle.code_passes.specs.Labels.{listed_number, is_bad_label, bad_label, names_none}
use Rattle.code_passes.specs.Passes as gauss
use Rattle.code_passes.specs.Passes.{Pass, is_over, pass_at, passes_from, all_passes}
use Rattle.code_passes.specs.Passes.{all_labels}
use Rattle.code_passes.proofs.ComponentPasses.{leaves-last, leaves-inside}
use Rattle.kh_types.proofs.Integers.{int_eq-other}
use Rattle.orient_arcs.specs.Renumbered.{all_of, turned_names, number_in}
use Rattle.orient_arcs.proofs.Members.{IsIn, IsIn-same, IsIn-left, IsIn-right, IsIn-parts, AreDistinct, AreDistinct-append, IsIn-get, apart-before, position-get}
use Rattle.orient_arcs.proofs.Walks.{AreLed}
use Rattle.orient_arcs.proofs.AllComponents.{IsRound}

-- a turned component is the component, or has its two names exchanged
pub turned-cases : (label : ℕ → ℤ) (names : List ℕ)
    → (turned_names label names ≡ names)
    ⊎ ((a : ℕ) × (b : ℕ) × (names ≡ a ∷ b ∷ []) × (turned_names label names ≡ b ∷ a ∷ []))
turned-cases label names = grind (arith, nat_tests)

length-turned_names : (label : ℕ → ℤ) (names : List ℕ) → length (turned_names label names) ≡ length names
length-turned_names label names = grind (arith, nat_tests)

IsIn-turned : (label : ℕ → ℤ) (names : List ℕ) (x : ℕ) → IsIn x names → IsIn x (turned_names label names)
IsIn-turned label names x is = grind (arith, nat_tests)

turned-IsIn : (label : ℕ → ℤ) (names : List ℕ) (x : ℕ) → IsIn x (turned_names label names) → IsIn x names
turned-IsIn label names x is = grind (arith, nat_tests)

AreDistinct-turned : (label : ℕ → ℤ) (names : List ℕ) → AreDistinct names → AreDistinct (turned_names label names)
AreDistinct-turned label names distinct = grind (arith, nat_tests)

round-turned : (label : ℕ → ℤ) (next : ℕ → ℕ) (names : List ℕ) → IsRound next names → IsRound next (turned_names label names)
round-turned label next names round = grind (arith, nat_tests)

-- labels are turned as names are
pub turned-labels : (label : ℕ → ℤ) (names : List ℕ) → gauss.turned_labels (map label names) ≡ map label (turned_names label names)
turned-labels label names = grind (arith, nat_tests)

-- all names in order are those of the components

pub IsIn-order : (label : ℕ → ℤ) (components : List (List ℕ)) (x : ℕ) → IsIn x (all_of components) → IsIn x (flat_map (turned_names label) components)
IsIn-order label [] x is = is
IsIn-order label (names ∷ more) x is = elim (IsIn-parts x names (all_of more) is) [
  | inl here ↦ IsIn-left x (turned_names label names) (flat_map (turned_names label) more) (IsIn-turned label names x here)
  | inr there ↦ IsIn-right x (turned_names label names) (flat_map (turned_names label) more) (IsIn-order label more x there)
]

pub order-IsIn : (label : ℕ → ℤ) (components : List (List ℕ)) (x : ℕ) → IsIn x (flat_map (turned_names label) components) → IsIn x (all_of components)
order-IsIn label [] x is = is
order-IsIn label (names ∷ more) x is = elim (IsIn-parts x (turned_names label names) (flat_map (turned_names label) more) is) [
  | inl here ↦ IsIn-left x names (all_of more) (turned-IsIn label names x here)
  | inr there ↦ IsIn-right x names (all_of more) (order-IsIn label more x there)
]

distinct-first : (xs ys : List ℕ) → AreDistinct (xs ++ ys) → AreDistinct xs
distinct-first [] ys distinct = tt
distinct-first (x ∷ xs) ys distinct = (λ is. distinct.0 (IsIn-left x xs ys is), distinct-first xs ys distinct.1)

distinct-second : (xs ys : List ℕ) → AreDistinct (xs ++ ys) → AreDistinct ys
distinct-second [] ys distinct = distinct
distinct-second (x ∷ xs) ys distinct = distinct-second xs ys distinct.1

distinct-apart : (xs ys : List ℕ) → AreDistinct (xs ++ ys) → (z : ℕ) → IsIn z xs → IsIn z ys → ⊥
distinct-apart [] ys distinct z first second = first
distinct-apart (x ∷ xs) ys distinct z (inl same) second = distinct.0 (IsIn-right x xs ys (IsIn-same x z ys same second))
distinct-apart (x ∷ xs) ys distinct z (inr later) second = distinct-apart xs ys distinct.1 z later second

pub AreDistinct-order : (label : ℕ → ℤ) (components : List (List ℕ)) → AreDistinct (all_of components)
    → AreDistinct (flat_map (turned_names label) components)
AreDistinct-order label [] distinct = tt
AreDistinct-order label (names ∷ more) distinct =
    AreDistinct-append (turned_names label names) (flat_map (turned_names label) more)
    (AreDistinct-turned label names (distinct-first names (all_of more) distinct))
    (AreDistinct-order label more (distinct-second names (all_of more) distinct))
    (λ x first second.
    distinct-apart names (all_of more) distinct x (turned-IsIn label names x first) (order-IsIn label more x second))

-- names at places
get-middle : (front xs back : List ℕ) (at : ℕ) → at < length xs → get_or (front ++ (xs ++ back)) (length front + at) 0 ≡ get_or xs at 0
get-middle [] xs back at below =
    let e : 0 + at ≡ at = omega arith in ap (λ k. get_or (xs ++ back) k 0) e ∙ first xs at below
  where
    first : (ys : List ℕ) (k : ℕ) → k < length ys → get_or (ys ++ back) k 0 ≡ get_or ys k 0
    first [] k below = absurd (omega (arith, below))
    first (y ∷ ys) zero below = refl
    first (y ∷ ys) (suc k) below = first ys k (omega (arith, below))
get-middle (x ∷ front) xs back at below = grind (arith, nat_tests, get-middle front xs back at below)

length-middle : (front xs back : List ℕ) → length (front ++ (xs ++ back)) ≡ length front + (length xs + length back)
length-middle front xs back = length-append front (xs ++ back) ∙ ap (λ k. length front + k) (length-append xs back)

-- the names that follow, by places
led-at : (next : ℕ → ℕ) (last p : ℕ) (xs : List ℕ) → AreLed next last (next p) xs → (at : ℕ) → at + 1 < length (p ∷ xs)
    → next (get_or (p ∷ xs) at 0) ≡ get_or (p ∷ xs) (at + 1) 0
led-at next last p [] led at below = absurd (omega (arith, below))
led-at next last p (x ∷ xs) led zero below = sym led.0
led-at next last p (x ∷ xs) led (suc at) below = grind (arith, nat_tests, led-at next last x xs led.1 at (omega (arith, below)))

led-end : (next : ℕ → ℕ) (last p : ℕ) (xs : List ℕ) → AreLed next last (next p) xs → (at : ℕ) → at + 1 ≡ length (p ∷ xs)
    → next (get_or (p ∷ xs) at 0) ≡ last
led-end next last p [] led zero ends = led
led-end next last p [] led (suc at) ends = absurd (omega (arith, ends))
led-end next last p (x ∷ xs) led zero ends = absurd (omega (arith, ends))
led-end next last p (x ∷ xs) led (suc at) ends = led-end next last x xs led.1 at (omega (arith, ends))

pub round-at : (next : ℕ → ℕ) (names : List ℕ) → IsRound next names → (at : ℕ) → at + 1 < length names
    → next (get_or names at 0) ≡ get_or names (at + 1) 0
round-at next [] round at below = absurd round
round-at next (x ∷ xs) round at below = led-at next x x xs round at below

pub round-end : (next : ℕ → ℕ) (names : List ℕ) → IsRound next names → (at : ℕ) → at + 1 ≡ length names
    → next (get_or names at 0) ≡ get_or names 0 0
round-end next [] round at ends = absurd round
round-end next (x ∷ xs) round at ends = led-end next x x xs round at ends

-- a pass of the labels is that of a name, under its new number
pub record IsNumbered (label : ℕ → ℤ) (next : ℕ → ℕ) (order : List ℕ) (pass : Pass) : Type 0 where
  pub name : ℕ
  pub stands : IsIn name order
  pub has_label : pass.label ≡ label name
  pub enters : pass.enters ≡ number_in order name
  pub leaves : pass.leaves ≡ number_in order (next name)

number-middle : (front xs back order : List ℕ) → order ≡ front ++ (xs ++ back) → AreDistinct order → (at : ℕ) → at < length xs
    → number_in order (get_or xs at 0) ≡ length front + at + 1
number-middle front xs back order is distinct at below = grind (arith, nat_tests, get-middle, length-middle, position-get)

number_at-map : (label : ℕ → ℤ) (xs : List ℕ) (at : ℕ) → at < length xs → listed_number (map label xs) at ≡ label (get_or xs at 0)
number_at-map label [] at below = absurd (omega (arith, below))
number_at-map label (x ∷ xs) zero below = refl
number_at-map label (x ∷ xs) (suc at) below = number_at-map label xs at (omega (arith, below))

All-range : (P : Pass → Type 0) (f : ℕ → Pass) (a n : ℕ) → ((k : ℕ) → a ≤ k → k < a + n → P (f k))
    → AllByRecursion P (map f (range_with_len a n))
All-range P f a zero each = tt
All-range P f a (suc n) each =
    grind (arith, nat_tests, All-range P f (a + 1) n (λ k from below. each k (omega (arith, from)) (omega (arith, below))))

module _ (label : ℕ → ℤ) (next : ℕ → ℕ) (order : List ℕ) (distinct : AreDistinct order) where
  numbered-pass : (front xs back : List ℕ) → order ≡ front ++ (xs ++ back) → IsRound next xs → (at : ℕ) → at < length xs
      → IsNumbered label next order (pass_at (length front + 1) (map label xs) at)
  numbered-pass front xs back is round at below =
      let number = number-middle front xs back order is distinct in
      let size = length-map xs label in
      record {
        name = get_or xs at 0;
        stands = subst (λ (os : List ℕ). IsIn (get_or xs at 0) os) (sym is)
            (IsIn-right (get_or xs at 0) front (xs ++ back) (IsIn-left (get_or xs at 0) xs back (IsIn-get xs at below)));
        has_label = number_at-map label xs at below;
        enters = omega (arith, number at below);
        leaves = elim (cases_eq (at + 1) (length xs)) [
          | inl ends ↦ leaves-last (length front + 1) at (length (map label xs)) (omega (arith, ends, size))
              ∙ sym (ap (number_in order) (round-end next xs round at ends) ∙ number 0 (omega (arith, below)) ∙ omega arith)
          | inr inside ↦ leaves-inside (length front + 1) at (length (map label xs)) (λ same. inside (same ∙ size))
              ∙ sym (ap (number_in order) (round-at next xs round at (omega (arith, below, inside)))
              ∙ number (at + 1) (omega (arith, below, inside)) ∙ omega arith)
        ];
      }

  pub all-numbered : (components : List (List ℕ)) (front : List ℕ) → order ≡ front ++ flat_map (turned_names label) components
      → AllByRecursion (IsRound next) components
      → AllByRecursion (IsNumbered label next order) (all_passes (length front + 1) (map (map label) components))
  all-numbered [] front is rounds = tt
  all-numbered (names ∷ more) front is rounds =
      let xs = turned_names label names in
      let back = flat_map (turned_names label) more in
      let labels = map label names in
      let turn = turned-labels label names in
      let size = length-turned_names label names in
      let after : length (front ++ xs) + 1 ≡ length front + 1 + length labels =
      omega (arith, length-append front xs, size, length-map names label) in
      AllByRecursion-append (IsNumbered label next order) (passes_from (length front + 1) (gauss.turned_labels labels))
      (all_passes (length front + 1 + length labels) (map (map label) more))
      (subst (λ (ls : List ℤ). AllByRecursion (IsNumbered label next order) (passes_from (length front + 1) ls)) (sym turn)
      (All-range (IsNumbered label next order) (pass_at (length front + 1) (map label xs)) 0 (length (map label xs))
      (λ at from below.
      numbered-pass front xs back is (round-turned label next names rounds.0) at (omega (arith, below, length-map xs label)))))
      (subst (λ (k : ℕ). AllByRecursion (IsNumbered label next order) (all_passes k (map (map label) more))) after
      (all-numbered more (front ++ xs) (is ∙ assoc front xs back) rounds.1))
    where
      assoc : (xs ys zs : List ℕ) → xs ++ (ys ++ zs) ≡ (xs ++ ys) ++ zs
      assoc [] ys zs = refl
      assoc (x ∷ xs) ys zs = ap (λ ws. x ∷ ws) (assoc xs ys zs)

-- labels of which none stands twice, and which name crossings, are not bad
pub labels-all : (label : ℕ → ℤ) (components : List (List ℕ)) → all_labels (map (map label) components) ≡ map label (all_of components)
labels-all label [] = refl
labels-all label (names ∷ more) = ap (λ ls. map label names ++ ls) (labels-all label more) ∙ sym (map-parts names (all_of more))
  where
    map-parts : (xs ys : List ℕ) → map label (xs ++ ys) ≡ map label xs ++ map label ys
    map-parts [] ys = refl
    map-parts (x ∷ xs) ys = ap (λ ls. label x ∷ ls) (map-parts xs ys)

module _ (label : ℕ → ℤ) (names : List ℕ) (once : (x y : ℕ) → IsIn x names → IsIn y names → label x ≡ label y → x ≡ y)
    (within : (x : ℕ) → IsIn x names → (1 ≤ nat_abs (label x)) × (nat_abs (label x) ≤ length names / 2)) where
  no-label : (xs : List ℕ) (z : ℕ) → IsIn z names → (IsIn z xs → ⊥) → ((x : ℕ) → IsIn x xs → IsIn x names)
      → list_any (int_eq (label z)) (map label xs) ≡ false
  no-label [] z z_is out among = refl
  no-label (x ∷ xs) z z_is out among =
      grind (arith, nat_tests, int_eq-other, no-label xs z z_is (λ later. out (inr later)) (λ y y_in. among y (inr y_in)))

  IsIn-take : (k : ℕ) (xs : List ℕ) (x : ℕ) → IsIn x (take k xs) → IsIn x xs
  IsIn-take zero xs x is = absurd is
  IsIn-take (suc k) [] x is = is
  IsIn-take (suc k) (y ∷ ys) x (inl same) = inl same
  IsIn-take (suc k) (y ∷ ys) x (inr later) = inr (IsIn-take k ys x later)

  pub no-bad_label : AreDistinct names → bad_label (map label names) ≡ None
  no-bad_label distinct =
      let size = length-map names label in
      find-none (is_bad_label (map label names)) 0 (length (map label names))
      (λ at from below.
      let at_below : at < length names = omega (arith, below, size) in
      let x = get_or names at 0 in
      let is = IsIn-get names at at_below in
      let here = number_at-map label names at at_below in
      ap (λ l. names_none (length (map label names) / 2) l || list_any (int_eq l) (take at (map label names))) here
      ∙ ap (λ n. names_none (n / 2) (label x) || list_any (int_eq (label x)) (take at (map label names))) size
      ∙ ap (λ b. b || list_any (int_eq (label x)) (take at (map label names)))
      (in_range (nat_abs (label x)) (length names / 2) (within x is).0 (within x is).1)
      ∙ ap (λ ls. list_any (int_eq (label x)) ls) (take-map label at names)
      ∙ no-label (take at names) x is (apart-before names at distinct at_below) (λ y y_in. IsIn-take at names y y_in))
    where
      in_range : (x n : ℕ) → 1 ≤ x → x ≤ n → (nat_eq x 0 || nat_lt n x) ≡ false
      in_range x n positive below = grind (arith, nat_tests)
