-- General lemmas on lists, for all crates.
--
-- What std does not have: facts about all elements of a list by recursion, elements of lists that are made of others, searches, counts, and
-- lists of which one has an element more (`HasMore`), as the names of classes do before a pair is joined.
use Rattle.std.proofs.Common.{◌≡◌, ◌≢◌, ℕ, zero, suc, ◌+◌, ◌-◌, ◌<◌, ◌≤◌, ◌∙◌, List, [], ◌∷◌, ◌++◌, length, map, get_or, refl, sym, ap, ap₂, arith, Bool, true, false, cond, not, unwrap_or, ◌⊎◌}
use Rattle.std.specs.Prelude.{None, slice_index}
use Rattle.std.specs.List.{All, AllByRecursion, Contains, filter, flat_map, find, count_by, range_with_len, enumerate_from, position, position_or_len, remove}
use Rattle.std.proofs.lemmas.List.{length-append, length-map, get_or-map, take-map, drop-map, map-append, get_or_append_left}
use Rattle.std.proofs.lemmas.List.Elements.{filter-append, All-nil, All-append, All-head, Contains-append_left, Contains-append_right, All-contains, All-from_recursion}
use Rattle.std.proofs.lemmas.List.Sums.{sum_by-cons, prefix_len-le-length}
use Rattle.std.proofs.lemmas.List.FromFn.{length-range_with_len, get_or-range_with_len}
use Rattle.kh_types.proofs.Ranges.{range_around}
use Rattle.std.proofs.lemmas.Bool.Decides.{nat_tests}

pub count_by-map : {X Y : Type 0} (p : Y → Bool) (f : X → Y) (xs : List X) → count_by p (map f xs) ≡ count_by (λ x. p (f x)) xs
count_by-map p f [] = refl
count_by-map p f (x ∷ xs) =
    sum_by-cons (λ y. cond (p y) 1 0) (f x) (map f xs)
    ∙ ap (λ n. cond (p (f x)) 1 0 + n) (count_by-map p f xs)
    ∙ sym (sum_by-cons (λ y. cond (p (f y)) 1 0) x xs)

-- what holds of all of two lists, and of both in one

pub AllByRecursion-append : {X : Type 0} (P : X → Type 0) (xs ys : List X) → AllByRecursion P xs → AllByRecursion P ys
    → AllByRecursion P (xs ++ ys)
AllByRecursion-append P [] ys holds later = later
AllByRecursion-append P (x ∷ xs) ys holds later = (holds.0, AllByRecursion-append P xs ys holds.1 later)

pub AllByRecursion-first : {X : Type 0} (P : X → Type 0) (xs ys : List X) → AllByRecursion P (xs ++ ys) → AllByRecursion P xs
AllByRecursion-first P [] ys holds = tt
AllByRecursion-first P (x ∷ xs) ys holds = (holds.0, AllByRecursion-first P xs ys holds.1)

pub AllByRecursion-second : {X : Type 0} (P : X → Type 0) (xs ys : List X) → AllByRecursion P (xs ++ ys) → AllByRecursion P ys
AllByRecursion-second P [] ys holds = holds
AllByRecursion-second P (x ∷ xs) ys holds = AllByRecursion-second P xs ys holds.1

pub AllByRecursion-weaker : {X : Type 0} (P Q : X → Type 0) (xs : List X) → ((x : X) → P x → Q x) → AllByRecursion P xs
    → AllByRecursion Q xs
AllByRecursion-weaker P Q [] weaker all = tt
AllByRecursion-weaker P Q (x ∷ xs) weaker all = (weaker x all.0, AllByRecursion-weaker P Q xs weaker all.1)

pub AllByRecursion-both : {X : Type 0} (P Q R : X → Type 0) (xs : List X) → ((x : X) → P x → Q x → R x) → AllByRecursion P xs
    → AllByRecursion Q xs → AllByRecursion R xs
AllByRecursion-both P Q R [] both first second = tt
AllByRecursion-both P Q R (x ∷ xs) both first second = grind (arith, nat_tests, AllByRecursion-both P Q R xs both first.1 second.1)

pub AllByRecursion-at : {X : Type 0} (P : X → Type 0) (xs : List X) (x : X) → AllByRecursion P xs → Contains xs x → P x
AllByRecursion-at P xs x all has = All-contains P xs x (All-from_recursion P xs all) has

-- the elements of a list with one more in front

pub Contains-first : {X : Type 0} (x : X) (xs : List X) → Contains (x ∷ xs) x
Contains-first x xs = (0, omega arith, refl)

pub Contains-later : {X : Type 0} (x y : X) (xs : List X) → Contains xs y → Contains (x ∷ xs) y
Contains-later x y xs (k, below, is) = (suc k, omega (arith, below), is)

pub Contains-cases : {X : Type 0} (x y : X) (xs : List X) → Contains (x ∷ xs) y → (x ≡ y) ⊎ Contains xs y
Contains-cases x y xs has3 = grind (arith, nat_tests)

pub Contains-range : (n k : ℕ) → k < n → Contains (range_with_len 0 n) k
Contains-range n k below = (k, omega (arith, below, length-range_with_len 0 n), get_or-range_with_len 0 n k k below ∙ omega arith)

pub range-contains : (n k : ℕ) → Contains (range_with_len 0 n) k → k < n
range-contains n k has = grind (arith, nat_tests, length-range_with_len, get_or-range_with_len)

-- the members of a range
pub record IsInRange (a n x : ℕ) : Type 0 where
  pub above : a ≤ x
  pub below : x < a + n

pub range-within : (a n x : ℕ) → Contains (range_with_len a n) x → IsInRange a n x
range-within a n x (k, below, is) =
    let size = length-range_with_len a n in
    let within : k < n = omega (arith, below, size) in
    let at : a + k ≡ x = sym (get_or-range_with_len a n k x within) ∙ is in
    record { above = omega (arith, at); below = omega (arith, at, within) }

pub within-range : (a n x : ℕ) → a ≤ x → x < a + n → Contains (range_with_len a n) x
within-range a n x above below =
    let size = length-range_with_len a n in
    (x - a, omega (arith, above, below, size), get_or-range_with_len a n (x - a) x (omega (arith, above, below)) ∙ omega (arith, above))

-- tests that agree on a list pass the same of its elements
pub filter-on : (p q : ℕ → Bool) (xs : List ℕ) → AllByRecursion (λ x. p x ≡ q x) xs → filter p xs ≡ filter q xs
filter-on p q [] alike = refl
filter-on p q (x ∷ xs) alike = ap₂ (λ (b : Bool) (ys : List ℕ). cond b (x ∷ ys) ys) alike.0 (filter-on p q xs alike.1)

-- tests that agree on a range pass the same of its numbers

filter-step : (b d : Bool) (x : ℕ) (xs ys : List ℕ) → b ≡ d → xs ≡ ys → cond b (x ∷ xs) xs ≡ cond d (x ∷ ys) ys
filter-step b d x xs ys same same_rest = grind (arith, nat_tests)

pub filter-range_agree : (p q : ℕ → Bool) (a n : ℕ) → ((x : ℕ) → a ≤ x → x < a + n → p x ≡ q x)
    → filter p (range_with_len a n) ≡ filter q (range_with_len a n)
filter-range_agree p q a zero same = refl
filter-range_agree p q a (suc n) same =
    grind (arith, nat_tests, filter-step, filter-range_agree p q (a + 1) n (λ x from below. same x (omega arith) (omega arith)))

-- a list has one element more than another, which is x
pub record HasMore (x : ℕ) (longer shorter : List ℕ) : Type 0 where
  pub front : List ℕ
  pub back : List ℕ
  pub long : longer ≡ front ++ x ∷ back
  pub short : shorter ≡ front ++ back

pub length-HasMore : (x : ℕ) (longer shorter : List ℕ) → HasMore x longer shorter → length longer ≡ length shorter + 1
length-HasMore x longer shorter more =
    ap length more.long ∙ length-append more.front (x ∷ more.back)
    ∙ omega (arith, ap length more.short ∙ length-append more.front more.back)

-- of tests that agree on a range but for one of its numbers, the one passes that number more than the other
pub HasMore-filter_range : (p q : ℕ → Bool) (a n m : ℕ) → a ≤ m → m < a + n → p m ≡ true → q m ≡ false
    → ((x : ℕ) → a ≤ x → x < a + n → x ≢ m → p x ≡ q x)
    → HasMore m (filter p (range_with_len a n)) (filter q (range_with_len a n))
HasMore-filter_range p q a n m from below passes fails same =
    let k = m - a in
    let rest = n - (k + 1) in
    let around = range_around a n k m (omega arith) (omega arith) in
    let front = range_with_len a k in
    let back = range_with_len (m + 1) rest in
    record {
      front = filter q front;
      back = filter q back;
      long = ap (λ xs. filter p xs) around ∙ filter-append p front (m ∷ back)
          ∙ ap (λ b. filter p front ++ cond b (m ∷ filter p back) (filter p back)) passes
          ∙ ap (λ xs. xs ++ m ∷ filter p back)
          (filter-range_agree p q a k (λ x x_from x_below. same x (omega arith) (omega arith) (omega arith)))
          ∙ ap (λ xs. filter q front ++ m ∷ xs)
          (filter-range_agree p q (m + 1) rest (λ x x_from x_below. same x (omega arith) (omega arith) (omega arith)));
      short = ap (λ xs. filter q xs) around ∙ filter-append q front (m ∷ back)
          ∙ ap (λ b. filter q front ++ cond b (m ∷ filter q back) (filter q back)) fails;
    }

-- a test that each number of a range passes keeps them all
pub filter-range_all : (p : ℕ → Bool) (a n : ℕ) → ((x : ℕ) → a ≤ x → x < a + n → p x ≡ true)
    → filter p (range_with_len a n) ≡ range_with_len a n
filter-range_all p a zero passes = refl
filter-range_all p a (suc n) passes =
    grind (arith, nat_tests, filter-step, filter-range_all p (a + 1) n (λ x from below. passes x (omega arith) (omega arith)))

-- the elements of lists that are made of others

pub Contains-map : {X Y : Type 0} (f : X → Y) (xs : List X) (x : X) → Contains xs x → Contains (map f xs) (f x)
Contains-map f xs x (k, below, is) =
    (k, omega (arith, length-map xs f), get_or-map f xs k x (f x) below ∙ ap f is)

Contains-cond : {X : Type 0} (b : Bool) (y : X) (xs : List X) (x : X) → Contains xs x → Contains (cond b (y ∷ xs) xs) x
Contains-cond true y xs x (k, below, is) = (suc k, omega arith, is)
Contains-cond false y xs x has = has

pub Contains-filter : {X : Type 0} (p : X → Bool) (xs : List X) (x : X) → p x ≡ true → Contains xs x → Contains (filter p xs) x
Contains-filter p [] x passes (k, below, is) = absurd (omega arith)
Contains-filter p (y ∷ ys) x passes (zero, below, is) = grind (arith, nat_tests)
Contains-filter p (y ∷ ys) x passes (suc k, below, is) =
    Contains-cond (p y) y (filter p ys) x (Contains-filter p ys x passes (k, omega arith, is))

pub Contains-flat_map : {X Y : Type 0} (f : X → List Y) (xs : List X) (x : X) (y : Y) → Contains xs x → Contains (f x) y
    → Contains (flat_map f xs) y
Contains-flat_map f [] x y (k, below, is) has = absurd (omega arith)
Contains-flat_map f (z ∷ xs) x y (zero, below, is) has = grind (arith, nat_tests, Contains-append_left)
Contains-flat_map f (z ∷ xs) x y (suc k, below, is) has =
    Contains-append_right (f z) (flat_map f xs) y (Contains-flat_map f xs x y (k, omega arith, is) has)

pub All-flat_map : {X Y : Type 0} (P : Y → Type 0) (f : X → List Y) (xs : List X) → ((x : X) → All P (f x)) → All P (flat_map f xs)
All-flat_map P f [] holds = All-nil P
All-flat_map P f (x ∷ xs) holds = All-append P (f x) (flat_map f xs) (holds x) (All-flat_map P f xs holds)

-- what holds of all of a list that is not empty holds of one of them
pub All-some : {X : Type 0} (P : X → Type 0) (xs : List X) → All P xs → 0 < length xs → (x : X) × P x
All-some P [] holds some = absurd (omega arith)
All-some P (x ∷ xs) holds some = (x, All-head P x xs holds)

-- one element more in front, which passes a test or may
count_by-first : {X : Type 0} (p : X → Bool) (x : X) (xs : List X) → p x ≡ true → count_by p (x ∷ xs) ≡ 1 + count_by p xs
count_by-first p x xs passes = sum_by-cons (λ y. cond (p y) 1 0) x xs ∙ ap (λ b. cond b 1 0 + count_by p xs) passes

count_by-later : {X : Type 0} (p : X → Bool) (x : X) (xs : List X) → count_by p xs ≤ count_by p (x ∷ xs)
count_by-later p x xs = omega (arith, sum_by-cons (λ y. cond (p y) 1 0) x xs)

-- where n elements from a place on pass a test, and one more behind them, more than n pass
pub count_by-more_than : {X : Type 0} (p : X → Bool) (xs : List X) (default : X) (a n k : ℕ)
    → ((j : ℕ) → a ≤ j → j < a + n → p (get_or xs j default) ≡ true) → a + n ≤ k → k < length xs → p (get_or xs k default) ≡ true
    → n < count_by p xs
count_by-more_than p [] default a n k passes behind below last = absurd (omega (arith, below))
count_by-more_than p (x ∷ xs) default zero zero zero passes behind below last = omega (arith, count_by-first p x xs last)
count_by-more_than p (x ∷ xs) default zero (suc n) zero passes behind below last = absurd (omega (arith, behind))
count_by-more_than p (x ∷ xs) default (suc a) n zero passes behind below last = absurd (omega (arith, behind))
count_by-more_than p (x ∷ xs) default zero zero (suc k) passes behind below last =
    grind (arith, nat_tests, count_by-later, count_by-more_than p xs default zero zero k (λ j from j_below. absurd (omega (arith, j_below))) (omega arith) (omega (arith, below)) last)
count_by-more_than p (x ∷ xs) default zero (suc n) (suc k) passes behind below last =
    let rest = count_by-more_than p xs default zero n k (λ j from j_below. passes (suc j) (omega arith) (omega (arith, j_below)))
    (omega (arith, behind)) (omega (arith, below)) last in
    omega (arith, rest, count_by-first p x xs (passes zero (omega arith) (omega arith)))
count_by-more_than p (x ∷ xs) default (suc a) n (suc k) passes behind below last =
    grind (arith, nat_tests, count_by-later, count_by-more_than p xs default a n k (λ j from j_below. passes (suc j) (omega (arith, from)) (omega (arith, j_below))) (omega (arith, behind)) (omega (arith, below)) last)

-- a search among numbers of which none passes
pub find-none : (p : ℕ → Bool) (a n : ℕ) → ((k : ℕ) → a ≤ k → k < a + n → p k ≡ false) → find p (range_with_len a n) ≡ None
find-none p a zero fails = refl
find-none p a (suc n) fails =
    grind (arith, nat_tests, find-none p (a + 1) n (λ k from below. fails k (omega (arith, from)) (omega (arith, below))))

-- what passes a test in the image of a list, and where the first of it stands

pub filter-map : {X Y : Type 0} (p : Y → Bool) (f : X → Y) (xs : List X)
    → filter p (map f xs) ≡ map f (filter (λ x. p (f x)) xs)
filter-map p f [] = refl
filter-map {X} {Y} p f (x ∷ xs) = grind (arith, nat_tests, filter-map p f xs)

pub position_or_len-map : {X Y : Type 0} (p : Y → Bool) (f : X → Y) (xs : List X)
    → position_or_len p (map f xs) ≡ position_or_len (λ x. p (f x)) xs
position_or_len-map p f [] = refl
position_or_len-map p f (x ∷ xs) = ap (λ n. cond (not (p (f x))) (1 + n) 0) (position_or_len-map p f xs)

pub position-map : {X Y : Type 0} (p : Y → Bool) (f : X → Y) (xs : List X)
    → position p (map f xs) ≡ position (λ x. p (f x)) xs
position-map p f xs = rw (position_or_len-map p f xs, length-map xs f)

-- the place of the first element that passes, or the length where none does

pub position_or_len-le-length : {X : Type 0} (p : X → Bool) (xs : List X) → position_or_len p xs ≤ length xs
position_or_len-le-length p xs = prefix_len-le-length (λ x. not (p x)) xs

pub unwrap_or-position : {X : Type 0} (p : X → Bool) (xs : List X)
    → unwrap_or (position p xs) (length xs) ≡ position_or_len p xs
unwrap_or-position p xs = grind (arith, nat_tests, prefix_len-le-length)

pub ruleset places = (unwrap_or-position, position_or_len-le-length)

-- an element taken out of the image of a list, and one more at the end of an enumeration

pub map-remove : {X Y : Type 0} (f : X → Y) (xs : List X) (at : ℕ) → map f (remove xs at) ≡ remove (map f xs) at
map-remove f xs at = grind (arith, nat_tests, map-append, take-map, drop-map)

pub enumerate_from-push : {X : Type 0} (n : ℕ) (xs : List X) (x : X)
    → enumerate_from n (xs ++ x ∷ []) ≡ enumerate_from n xs ++ (n + length xs, x) ∷ []
enumerate_from-push n [] x = ap (λ (m : ℕ). (m, x) ∷ []) (omega arith)
enumerate_from-push {X} n (y ∷ xs) x = grind (arith, nat_tests, enumerate_from-push (n + 1) xs x)

pub slice_index-left : (xs ys : List ℕ) (k : ℕ) → k < length xs → slice_index (xs ++ ys) k ≡ slice_index xs k
slice_index-left xs ys k below = get_or_append_left xs ys 0 k below
