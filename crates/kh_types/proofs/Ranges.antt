-- A range with one number more at its end, under each function that loops compute over ranges.
--
-- Loops go over ranges, so their invariants are about a range that becomes longer by its last number. Each function that a loop computes
-- (filter, sum, count, map, search, all, any) has its step here, as it is, and for ranges from 0 and from 1 as `grind` applies it.
use Rattle.std.proofs.lemmas.Bool.Decides.{nat_tests}
use Rattle.std.proofs.Common.{◌≡◌, ℕ, zero, suc, ◌+◌, ◌-◌, ◌<◌, ◌≤◌, ◌∙◌, List, [], ◌∷◌, ◌++◌, map, length, get_or, ap, sym, arith, Bool, true, false, cond, refl, ◌&&◌, ◌||◌}
use Rattle.std.specs.Prelude.{Option, Some, None}
use Rattle.std.specs.List.{range_with_len, filter, count_by, sum_by, flat_map, list_all, list_any, find}
use Rattle.std.specs.Option.{option_or, option_map}
use Rattle.std.proofs.lemmas.List.{map-append, append-nil}
use Rattle.std.proofs.Math.Bool.{or-false}
use Rattle.std.proofs.lemmas.Bool.{and_parts}
use Rattle.std.proofs.lemmas.List.Elements.{filter-append}
use Rattle.std.proofs.lemmas.List.Sums.{sum_by_push}
use Rattle.std.proofs.lemmas.List.Folds.{list_all-append, list_any-append, find-append, list_any_at, Any-from_list_any}
use Rattle.std.proofs.lemmas.List.FromFn.{length-range_with_len, length-map-range_with_len, get_or-range_with_len, map-range_with_len_more}
use Rattle.std.proofs.lemmas.Grind.{flat_map-append}

-- the last number of a range, which the lemmas take as j
pub range_more : (a n j : ℕ) → a + n ≡ j → range_with_len a (n + 1) ≡ range_with_len a n ++ j ∷ []
range_more a zero j is_j = let e : a ≡ j = omega arith in ap (λ x. x ∷ []) e
range_more a (suc n) j is_j =
    let e : suc n + 1 ≡ suc (n + 1) = omega arith in
    let is_j_from_next : a + 1 + n ≡ j = omega arith in
    ap (λ k. range_with_len a k) e ∙ ap (λ xs. a ∷ xs) (range_more (a + 1) n j is_j_from_next)

pub filter-range_more : (p : ℕ → Bool) (a n j : ℕ) → a + n ≡ j
    → filter p (range_with_len a (n + 1)) ≡ filter p (range_with_len a n) ++ cond (p j) (j ∷ []) []
filter-range_more p a n j is_j =
    ap (λ xs. filter p xs) (range_more a n j is_j) ∙ filter-append p (range_with_len a n) (j ∷ [])

pub sum_by-range_more : (f : ℕ → ℕ) (a n j : ℕ) → a + n ≡ j
    → sum_by f (range_with_len a (n + 1)) ≡ sum_by f (range_with_len a n) + f j
sum_by-range_more f a n j is_j =
    ap (λ xs. sum_by f xs) (range_more a n j is_j) ∙ sum_by_push f (range_with_len a n) j

pub count_by-range_more : (p : ℕ → Bool) (a n j : ℕ) → a + n ≡ j
    → count_by p (range_with_len a (n + 1)) ≡ count_by p (range_with_len a n) + cond (p j) 1 0
count_by-range_more p a n j is_j = sum_by-range_more (λ x. cond (p x) 1 0) a n j is_j

pub flat_map-range_more : {X : Type 0} (f : ℕ → List X) (a n j : ℕ) → a + n ≡ j
    → flat_map f (range_with_len a (n + 1)) ≡ flat_map f (range_with_len a n) ++ f j
flat_map-range_more f a n j is_j =
    ap (λ xs. flat_map f xs) (range_more a n j is_j) ∙ flat_map-append f (range_with_len a n) (j ∷ [])
    ∙ ap (λ ys. flat_map f (range_with_len a n) ++ ys) (append-nil (f j))

pub list_any-range_more : (p : ℕ → Bool) (a n j : ℕ) → a + n ≡ j
    → list_any p (range_with_len a (n + 1)) ≡ (list_any p (range_with_len a n) || p j)
list_any-range_more p a n j is_j =
    ap (λ xs. list_any p xs) (range_more a n j is_j) ∙ list_any-append p (range_with_len a n) (j ∷ [])
    ∙ ap (λ b. list_any p (range_with_len a n) || b) (or-false (p j))

-- a range is cut after any of its numbers
pub range-append : (a k m : ℕ) → range_with_len a (k + m) ≡ range_with_len a k ++ range_with_len (a + k) m
range-append a zero m = grind (arith, nat_tests)
range-append a (suc k) m =
    let e : suc k + m ≡ suc (k + m) = omega arith in
    let b : a + 1 + k ≡ a + suc k = omega arith in
    ap (λ n. range_with_len a n) e
    ∙ ap (λ xs. a ∷ xs) (range-append (a + 1) k m ∙ ap (λ x. range_with_len (a + 1) k ++ range_with_len x m) b)

-- a range around one of its numbers, j
pub range_around : (a n k j : ℕ) → k < n → a + k ≡ j
    → range_with_len a n ≡ range_with_len a k ++ j ∷ range_with_len (j + 1) (n - (k + 1))
range_around a n k j below is_j =
    let e : n ≡ k + suc (n - (k + 1)) = omega arith in
    ap (λ m. range_with_len a m) e ∙ range-append a k (suc (n - (k + 1)))
    ∙ ap (λ x. range_with_len a k ++ range_with_len x (suc (n - (k + 1)))) is_j

-- one element more at the beginning of a search
find-map_step : {X : Type 0} (passes : Bool) (f : ℕ → X) (x : ℕ) (later : Option X) (place : Option ℕ)
    → later ≡ option_map f place → cond passes (Some (f x)) later ≡ option_map f (cond passes (Some x) place)
find-map_step passes f x later place same = grind (arith, nat_tests)

-- a search among what a function makes of numbers
pub find-map : {X : Type 0} (p : X → Bool) (f : ℕ → X) (xs : List ℕ)
    → find p (map f xs) ≡ option_map f (find (λ x. p (f x)) xs)
find-map p f [] = refl
find-map p f (x ∷ xs) = find-map_step (p (f x)) f x (find p (map f xs)) (find (λ y. p (f y)) xs) (find-map p f xs)

-- the first of what a function makes of the numbers from 0 on that passes a test, where those before it do not
pub find-map_range : {X : Type 0} (p : X → Bool) (f : ℕ → X) (n k : ℕ) → k < n → find p (map f (range_with_len 0 k)) ≡ None
    → p (f k) ≡ true → find p (map f (range_with_len 0 n)) ≡ Some (f k)
find-map_range p f n k below none passes =
    let later = range_with_len (k + 1) (n - (k + 1)) in
    ap (λ xs. find p (map f xs)) (range_around 0 n k k below (omega arith))
    ∙ ap (λ xs. find p xs) (map-append f (range_with_len 0 k) (k ∷ later))
    ∙ find-append p (map f (range_with_len 0 k)) (map f (k ∷ later))
    ∙ ap (λ o. option_or o (find p (map f (k ∷ later)))) none ∙ ap (λ b. cond b (Some (f k)) (find p (map f later))) passes

-- none of them passes, where one more does not
pub find-map_range_more : {X : Type 0} (p : X → Bool) (f : ℕ → X) (k : ℕ) → find p (map f (range_with_len 0 k)) ≡ None
    → p (f k) ≡ false → find p (map f (range_with_len 0 (k + 1))) ≡ None
find-map_range_more p f k none fails =
    ap (λ xs. find p xs) (map-range_with_len_more f 0 k k (omega arith)) ∙ find-append p (map f (range_with_len 0 k)) (f k ∷ [])
    ∙ ap (λ o. option_or o (find p (f k ∷ []))) none ∙ ap (λ b. cond b (Some (f k)) None) fails

-- whether a number below n passes
pub list_any-below_none : (p : ℕ → Bool) (n : ℕ) → ((k : ℕ) → k < n → p k ≡ false) → list_any p (range_with_len 0 n) ≡ false
list_any-below_none p zero fails = refl
list_any-below_none p (suc n) fails =
    let e : suc n ≡ n + 1 = omega arith in
    ap (λ m. list_any p (range_with_len 0 m)) e ∙ list_any-range_more p 0 n n (omega arith)
    ∙ ap (λ b. b || p n) (list_any-below_none p n (λ k below. fails k (omega arith))) ∙ fails n (omega arith)

pub list_any-below : (p : ℕ → Bool) (n k : ℕ) → k < n → p k ≡ true → list_any p (range_with_len 0 n) ≡ true
list_any-below p n k below passes =
    let within : k < length (range_with_len 0 n) = omega (arith, length-range_with_len 0 n) in
    let is_k : get_or (range_with_len 0 n) k 0 ≡ k = get_or-range_with_len 0 n k 0 below ∙ omega arith in
    list_any_at p (range_with_len 0 n) k 0 within (ap p is_k ∙ passes)

pub list_any-found : (p : ℕ → Bool) (n : ℕ) → list_any p (range_with_len 0 n) ≡ true → (k : ℕ) × (k < n) × (p k ≡ true)
list_any-found p n passes = grind (arith, nat_tests, Any-from_list_any, length-range_with_len, get_or-range_with_len)

-- what all numbers of a range pass, the first of them pass
pub list_all-range_prefix : (p : ℕ → Bool) (a k n : ℕ) → k ≤ n → list_all p (range_with_len a n) ≡ true
    → list_all p (range_with_len a k) ≡ true
list_all-range_prefix p a k n within passes =
    let e : n ≡ k + (n - k) = omega arith in
    let cut : list_all p (range_with_len a n) ≡ (list_all p (range_with_len a k) && list_all p (range_with_len (a + k) (n - k))) =
    ap (λ m. list_all p (range_with_len a m)) e ∙ ap (λ xs. list_all p xs) (range-append a k (n - k))
    ∙ list_all-append p (range_with_len a k) (range_with_len (a + k) (n - k)) in
    (and_parts (list_all p (range_with_len a k)) (list_all p (range_with_len (a + k) (n - k))) (sym cut ∙ passes)).0

-- the last one passes it
pub list_all-range_last : (p : ℕ → Bool) (a n j : ℕ) → a + n ≡ j → list_all p (range_with_len a (n + 1)) ≡ true → p j ≡ true
list_all-range_last p a n j is_j passes =
    let cut : list_all p (range_with_len a (n + 1)) ≡ (list_all p (range_with_len a n) && (p j && true)) =
    ap (λ xs. list_all p xs) (range_more a n j is_j) ∙ list_all-append p (range_with_len a n) (j ∷ []) in
    let last = (and_parts (list_all p (range_with_len a n)) (p j && true) (sym cut ∙ passes)).1 in
    (and_parts (p j) true last).0

-- the same for ranges that begin with 0 or with 1, in forms that `grind` applies by itself
pub range_from_zero : (n : ℕ) → range_with_len 0 (n + 1) ≡ range_with_len 0 n ++ n ∷ []
range_from_zero n = range_more 0 n n (omega arith)

pub range_from_one : (n : ℕ) → range_with_len 1 (n + 1) ≡ range_with_len 1 n ++ (n + 1) ∷ []
range_from_one n = range_more 1 n (n + 1) (omega arith)

pub count_from_one : (p : ℕ → Bool) (n : ℕ)
    → count_by p (range_with_len 1 (n + 1)) ≡ count_by p (range_with_len 1 n) + cond (p (n + 1)) 1 0
count_from_one p n = count_by-range_more p 1 n (n + 1) (omega arith)

pub sum_from_one : (f : ℕ → ℕ) (n : ℕ) → sum_by f (range_with_len 1 (n + 1)) ≡ sum_by f (range_with_len 1 n) + f (n + 1)
sum_from_one f n = sum_by-range_more f 1 n (n + 1) (omega arith)

pub filter_from_one : (p : ℕ → Bool) (n : ℕ)
    → filter p (range_with_len 1 (n + 1)) ≡ filter p (range_with_len 1 n) ++ filter p ((n + 1) ∷ [])
filter_from_one p n = filter-range_more p 1 n (n + 1) (omega arith)

pub map_from_zero : {X : Type 0} (f : ℕ → X) (n : ℕ) → map f (range_with_len 0 (n + 1)) ≡ map f (range_with_len 0 n) ++ f n ∷ []
map_from_zero f n = map-range_with_len_more f 0 n n (omega arith)

pub map_from_one : {X : Type 0} (f : ℕ → X) (n : ℕ)
    → map f (range_with_len 1 (n + 1)) ≡ map f (range_with_len 1 n) ++ f (n + 1) ∷ []
map_from_one f n = map-range_with_len_more f 1 n (n + 1) (omega arith)

pub ruleset range_steps =
    (range_from_zero, range_from_one, map_from_zero, map_from_one, length-range_with_len, length-map-range_with_len)

-- what two functions make of a range on which they agree
pub map-range_agree : {X : Type 0} (f g : ℕ → X) (a n : ℕ) → ((x : ℕ) → a ≤ x → x < a + n → f x ≡ g x)
    → map f (range_with_len a n) ≡ map g (range_with_len a n)
map-range_agree f g a zero same = refl
map-range_agree {X} f g a (suc n) same =
    grind (arith, nat_tests, map-range_agree f g (a + 1) n (λ x from below. same x (omega arith) (omega arith)))

-- the numbers below 2, as labels are, and below 4, as slots are

pub below_two : (P : ℕ → Type 0) → P 0 → P 1 → (n : ℕ) → n < 2 → P n
below_two P at_0 at_1 n below = grind (arith, nat_tests)

pub below_four : (P : ℕ → Type 0) → P 0 → P 1 → P 2 → P 3 → (n : ℕ) → n < 4 → P n
below_four P at_0 at_1 at_2 at_3 n below = grind (arith, nat_tests)
