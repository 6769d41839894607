-- Sums of integers: over lists that are put together or filtered, and over the numbers from -n to n.
use Rattle.std.proofs.lemmas.Bool.Decides.{nat_tests}
use Rattle.std.proofs.Common.{◌≡◌, ◌≢◌, ℕ, zero, suc, ◌+◌, ◌-◌, ◌*◌, ◌<◌, ◌≤◌, ◌∙◌, List, [], ◌∷◌, ◌++◌, ℤ, pos, ◌+ℤ◌, ◌-ℤ◌, sym, refl, map, ap, ap₂, arith, Bool, true, false, cond}
use Rattle.std.specs.List.{filter, flat_map, range_with_len}
use Rattle.std.proofs.Math.Path.{fun_ext}
use Rattle.std.proofs.lemmas.Int.{ints}
use Rattle.std.proofs.lemmas.List.{map-append}
use Rattle.std.proofs.lemmas.Simd.{map-map}
use Rattle.kh_types.specs.StateSum.{int_sum}
use Rattle.kh_types.specs.Table.{IsWithin, from_minus}
use Rattle.kh_types.proofs.QuantumDegrees.{map-from_minus_agree, place-IsWithin}
use Rattle.kh_types.proofs.Ranges.{map-range_agree, range_around}

pub int_sum-append : (xs ys : List ℤ) → int_sum (xs ++ ys) ≡ int_sum xs +ℤ int_sum ys
int_sum-append [] ys = omega (arith, ints)
int_sum-append (x ∷ xs) ys = ap (λ (s : ℤ). x +ℤ s) (int_sum-append xs ys) ∙ omega (arith, ints)

pub int_sum-alike : {X : Type 0} (f g : X → ℤ) → ((x : X) → f x ≡ g x) → (xs : List X) → int_sum (map f xs) ≡ int_sum (map g xs)
int_sum-alike {X} f g same xs = ap (λ (h : X → ℤ). int_sum (map h xs)) (fun_ext same)

pub int_sum-range_agree : (f g : ℕ → ℤ) (a n : ℕ) → ((x : ℕ) → a ≤ x → x < a + n → f x ≡ g x)
    → int_sum (map f (range_with_len a n)) ≡ int_sum (map g (range_with_len a n))
int_sum-range_agree f g a n same = ap int_sum (map-range_agree f g a n same)

pub int_sum-add : {X : Type 0} (f g : X → ℤ) (xs : List X)
    → int_sum (map (λ x. f x +ℤ g x) xs) ≡ int_sum (map f xs) +ℤ int_sum (map g xs)
int_sum-add f g [] = omega (arith, ints)
int_sum-add f g (x ∷ xs) = ap (λ (s : ℤ). f x +ℤ g x +ℤ s) (int_sum-add f g xs) ∙ omega (arith, ints)

pub int_sum-zeros : {X : Type 0} (xs : List X) → int_sum (map (λ x. pos 0) xs) ≡ pos 0
int_sum-zeros [] = refl
int_sum-zeros (x ∷ xs) = ap (λ (s : ℤ). pos 0 +ℤ s) (int_sum-zeros xs)

pub int_sum-map : {X Y : Type 0} (f : Y → ℤ) (g : X → Y) (xs : List X)
    → int_sum (map f (map g xs)) ≡ int_sum (map (λ x. f (g x)) xs)
int_sum-map f g xs = ap int_sum (map-map f g xs)

pub int_sum-flat_map : {X Y : Type 0} (f : Y → ℤ) (g : X → List Y) (xs : List X)
    → int_sum (map f (flat_map g xs)) ≡ int_sum (map (λ x. int_sum (map f (g x))) xs)
int_sum-flat_map f g [] = refl
int_sum-flat_map f g (x ∷ xs) = grind (arith, nat_tests, map-append, int_sum-append, int_sum-flat_map f g xs)

pub int_sum-filter : {X : Type 0} (f : X → ℤ) (p : X → Bool) (xs : List X)
    → int_sum (map f (filter p xs)) ≡ int_sum (map (λ x. cond (p x) (f x) (pos 0)) xs)
int_sum-filter f p [] = refl
int_sum-filter f p (x ∷ xs) =
    step (p x) ∙ ap (λ (s : ℤ). cond (p x) (f x) (pos 0) +ℤ s) (int_sum-filter f p xs)
  where
    step : (b : Bool) → int_sum (map f (cond b (x ∷ filter p xs) (filter p xs))) ≡ cond b (f x) (pos 0) +ℤ int_sum (map f (filter p xs))
    step b = grind (arith, nat_tests)

-- of terms that all stand under one test
pub int_sum-cond : {X : Type 0} (b : Bool) (f : X → ℤ) (xs : List X)
    → int_sum (map (λ x. cond b (f x) (pos 0)) xs) ≡ cond b (int_sum (map f xs)) (pos 0)
int_sum-cond true f xs = refl
int_sum-cond false f xs = int_sum-zeros xs

-- a sum of which all terms are 0, or all but one

int_sum-none : (f : ℕ → ℤ) (a n : ℕ) → ((x : ℕ) → a ≤ x → x < a + n → f x ≡ pos 0) → int_sum (map f (range_with_len a n)) ≡ pos 0
int_sum-none f a zero none = refl
int_sum-none f a (suc n) none = grind (arith, nat_tests, int_sum-none f (a + 1) n (λ x from below. none x (omega arith) (omega arith)))

int_sum-single : (f : ℕ → ℤ) (n k : ℕ) → k < n → ((x : ℕ) → x ≢ k → f x ≡ pos 0) → int_sum (map f (range_with_len 0 n)) ≡ f k
int_sum-single f n k below none =
    let front = range_with_len 0 k in
    let back = range_with_len (k + 1) (n - (k + 1)) in
    let before = int_sum-none f 0 k (λ x from x_below. none x (omega arith)) in
    let behind = int_sum-none f (k + 1) (n - (k + 1)) (λ x from x_below. none x (omega arith)) in
    ap (λ (xs : List ℕ). int_sum (map f xs)) (range_around 0 n k k below (omega arith))
    ∙ ap int_sum (map-append f front (k ∷ back)) ∙ int_sum-append (map f front) (f k ∷ map f back)
    ∙ ap₂ (λ (s t : ℤ). s +ℤ (f k +ℤ t)) before behind ∙ omega (arith, ints)

pub int_sum-outside : (f : ℤ → ℤ) (n : ℕ) → ((i : ℤ) → IsWithin n i → f i ≡ pos 0) → int_sum (map f (from_minus n)) ≡ pos 0
int_sum-outside f n none = ap int_sum (map-from_minus_agree f (λ i. pos 0) n none) ∙ int_sum-zeros (from_minus n)

pub int_sum-within : (f : ℤ → ℤ) (n : ℕ) (i : ℤ) → IsWithin n i → ((x : ℤ) → x ≢ i → f x ≡ pos 0)
    → int_sum (map f (from_minus n)) ≡ f i
int_sum-within f n i within none =
    let place = place-IsWithin n i within in
    let k = place.0 in
    int_sum-map f (λ k. pos k -ℤ pos n) (range_with_len 0 (2 * n + 1))
    ∙ int_sum-single (λ k. f (pos k -ℤ pos n)) (2 * n + 1) k place.1
    (λ x other. none (pos x -ℤ pos n) (λ same. other (omega (arith, ints, same, place.2))))
    ∙ ap f (sym place.2)
