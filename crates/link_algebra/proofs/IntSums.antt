-- Sums and products of integers.
use Rattle.std.proofs.lemmas.Bool.Decides.{nat_tests}
use Rattle.std.proofs.Common.{List, [], ap, ap₂, arith, map, negsuc, pos, refl, suc, sym, zero, ℕ, ℤ, ◌*ℤ◌, ◌*◌, ◌++◌, ◌+ℤ◌, ◌+◌, ◌-◌, ◌<◌, ◌∙◌, ◌∷◌, ◌≡◌, ◌≢◌, ◌≤◌}
use Rattle.std.proofs.Math.IntN.{*ℤ-zero, *ℤ_comm, pred_ℤ-*ℤ, suc_ℤ-*ℤ, zero-*ℤ}
use Rattle.std.proofs.lemmas.Int.{ints}
use Rattle.std.specs.List.{range_with_len}
use Rattle.kh_types.proofs.Ranges.{range-append, range_around, range_more}
use Rattle.kh_types.specs.StateSum.{int_sum}

pub spread : (c x y : ℤ) → c *ℤ (x +ℤ y) ≡ c *ℤ x +ℤ c *ℤ y
spread (pos zero) x y = omega (arith, ints, zero-*ℤ (x +ℤ y), zero-*ℤ x, zero-*ℤ y)
spread (pos (suc n)) x y =
    omega (arith, ints, suc_ℤ-*ℤ (pos n) (x +ℤ y), suc_ℤ-*ℤ (pos n) x, suc_ℤ-*ℤ (pos n) y, spread (pos n) x y)
spread (negsuc zero) x y = grind (arith, nat_tests, ints, pred_ℤ-*ℤ, zero-*ℤ)
spread (negsuc (suc n)) x y =
    omega (arith, ints, pred_ℤ-*ℤ (negsuc n) (x +ℤ y), pred_ℤ-*ℤ (negsuc n) x, pred_ℤ-*ℤ (negsuc n) y, spread (negsuc n) x y)

pub spread_right : (x y c : ℤ) → (x +ℤ y) *ℤ c ≡ x *ℤ c +ℤ y *ℤ c
spread_right x y c = *ℤ_comm (x +ℤ y) c ∙ spread c x y ∙ ap₂ (λ a b. a +ℤ b) (*ℤ_comm c x) (*ℤ_comm c y)

-- sums of functions over a list

abbrev pub sum_over : {X : Type 0} → (X → ℤ) → List X → ℤ
sum_over f xs = int_sum (map f xs)

pub sum-alike : {X : Type 0} (f g : X → ℤ) (xs : List X) → ((x : X) → f x ≡ g x) → sum_over f xs ≡ sum_over g xs
sum-alike f g [] same = refl
sum-alike f g (x ∷ xs) same = ap₂ (λ a b. a +ℤ b) (same x) (sum-alike f g xs same)

pub sum-plus : {X : Type 0} (f g : X → ℤ) (xs : List X) → sum_over (λ x. f x +ℤ g x) xs ≡ sum_over f xs +ℤ sum_over g xs
sum-plus f g [] = omega (arith, ints)
sum-plus f g (x ∷ xs) = ap (λ s. (f x +ℤ g x) +ℤ s) (sum-plus f g xs) ∙ regrouped (f x) (g x) (sum_over f xs) (sum_over g xs)
  where
    regrouped : (a b c d : ℤ) → (a +ℤ b) +ℤ (c +ℤ d) ≡ (a +ℤ c) +ℤ (b +ℤ d)
    regrouped a b c d = omega (arith, ints)

pub sum-zeros : {X : Type 0} (xs : List X) → sum_over (λ x. pos 0) xs ≡ pos 0
sum-zeros [] = refl
sum-zeros (x ∷ xs) = ap (λ s. pos 0 +ℤ s) (sum-zeros xs) ∙ omega (arith, ints)

pub sum-times : {X : Type 0} (c : ℤ) (f : X → ℤ) (xs : List X) → sum_over (λ x. c *ℤ f x) xs ≡ c *ℤ sum_over f xs
sum-times c f [] = sym (*ℤ-zero c)
sum-times c f (x ∷ xs) = ap (λ s. c *ℤ f x +ℤ s) (sum-times c f xs) ∙ sym (spread c (f x) (sum_over f xs))

pub sum-times_right : {X : Type 0} (f : X → ℤ) (c : ℤ) (xs : List X) → sum_over (λ x. f x *ℤ c) xs ≡ sum_over f xs *ℤ c
sum-times_right f c [] = sym (zero-*ℤ c)
sum-times_right f c (x ∷ xs) = ap (λ s. f x *ℤ c +ℤ s) (sum-times_right f c xs) ∙ sym (spread_right (f x) (sum_over f xs) c)

pub sum-turned : {X Y : Type 0} (f : X → Y → ℤ) (xs : List X) (ys : List Y)
    → sum_over (λ x. sum_over (f x) ys) xs ≡ sum_over (λ y. sum_over (λ x. f x y) xs) ys
sum-turned f [] ys = sym (sum-zeros ys)
sum-turned f (x ∷ xs) ys =
    ap (λ s. sum_over (f x) ys +ℤ s) (sum-turned f xs ys) ∙ sym (sum-plus (f x) (λ y. sum_over (λ z. f z y) xs) ys)

pub sum-append : {X : Type 0} (f : X → ℤ) (xs ys : List X) → sum_over f (xs ++ ys) ≡ sum_over f xs +ℤ sum_over f ys
sum-append f [] ys = omega (arith, ints)
sum-append f (x ∷ xs) ys = ap (λ s. f x +ℤ s) (sum-append f xs ys) ∙ regrouped (f x) (sum_over f xs) (sum_over f ys)
  where
    regrouped : (a b c : ℤ) → a +ℤ (b +ℤ c) ≡ (a +ℤ b) +ℤ c
    regrouped a b c = omega (arith, ints)

pub sum-map : {X Y : Type 0} (f : Y → ℤ) (g : X → Y) (xs : List X) → sum_over f (map g xs) ≡ sum_over (λ x. f (g x)) xs
sum-map f g [] = refl
sum-map f g (x ∷ xs) = ap (λ s. f (g x) +ℤ s) (sum-map f g xs)

pub sum-range_alike : (f g : ℕ → ℤ) (a n : ℕ) → ((x : ℕ) → a ≤ x → x < a + n → f x ≡ g x)
    → sum_over f (range_with_len a n) ≡ sum_over g (range_with_len a n)
sum-range_alike f g a zero same = refl
sum-range_alike f g a (suc n) same =
    grind (arith, nat_tests, sum-range_alike f g (a + 1) n (λ x from below. same x (omega arith) (omega arith)))

pub sum-none : (f : ℕ → ℤ) (a n : ℕ) → ((x : ℕ) → a ≤ x → x < a + n → f x ≡ pos 0) → sum_over f (range_with_len a n) ≡ pos 0
sum-none f a n none = sum-range_alike f (λ x. pos 0) a n none ∙ sum-zeros (range_with_len a n)

-- only the term at k counts
pub sum-single : (f : ℕ → ℤ) (a n k : ℕ) → a ≤ k → k < a + n → ((x : ℕ) → a ≤ x → x < a + n → x ≢ k → f x ≡ pos 0)
    → sum_over f (range_with_len a n) ≡ f k
sum-single f a n k from below none =
    let front = range_with_len a (k - a) in
    let back = range_with_len (k + 1) (n - (k - a + 1)) in
    ap (λ xs. sum_over f xs) (range_around a n (k - a) k (omega arith) (omega arith))
    ∙ sum-append f front (k ∷ back)
    ∙ ap₂ (λ x y. x +ℤ (f k +ℤ y))
    (sum-none f a (k - a) (λ x x_from x_below. none x x_from (omega arith) (omega arith)))
    (sum-none f (k + 1) (n - (k - a + 1)) (λ x x_from x_below. none x (omega arith) (omega arith) (omega arith)))
    ∙ alone (f k)
  where
    alone : (x : ℤ) → pos 0 +ℤ (x +ℤ pos 0) ≡ x
    alone x = omega (arith, ints)

-- a range that begins later
pub sum-shifted : (f : ℕ → ℤ) (a b n : ℕ) → sum_over f (range_with_len (a + b) n) ≡ sum_over (λ k. f (a + k)) (range_with_len b n)
sum-shifted f a b zero = refl
sum-shifted f a b (suc n) = grind (arith, nat_tests, sum-shifted f a (b + 1) n)

-- a range by blocks
pub sum-blocks : (f : ℕ → ℤ) (size count : ℕ)
    → sum_over f (range_with_len 0 (size * count))
    ≡ sum_over (λ b. sum_over (λ a. f (a + size * b)) (range_with_len 0 size)) (range_with_len 0 count)
sum-blocks f size zero = let e : size * zero ≡ 0 = omega arith in ap (λ n. sum_over f (range_with_len 0 n)) e
sum-blocks f size (suc count) =
    let e : size * suc count ≡ size * count + size = omega arith in
    let more : suc count ≡ count + 1 = omega arith in
    let inner = λ (b : ℕ). sum_over (λ a. f (a + size * b)) (range_with_len 0 size) in
    let start : 0 + size * count ≡ size * count + 0 = omega arith in
    ap (λ n. sum_over f (range_with_len 0 n)) e
    ∙ ap (λ xs. sum_over f xs) (range-append 0 (size * count) size)
    ∙ sum-append f (range_with_len 0 (size * count)) (range_with_len (0 + size * count) size)
    ∙ ap₂ (λ x y. x +ℤ y) (sum-blocks f size count)
    (ap (λ c. sum_over f (range_with_len c size)) start ∙ sum-shifted f (size * count) 0 size
    ∙ sum-range_alike (λ k. f (size * count + k)) (λ a. f (a + size * count)) 0 size
    (λ k from below. ap f (let same : size * count + k ≡ k + size * count = omega arith in same)))
    ∙ last (sum_over inner (range_with_len 0 count)) (inner count)
    ∙ sym (sum-append inner (range_with_len 0 count) (count ∷ []))
    ∙ ap (λ xs. sum_over inner xs) (sym (range_more 0 count count (omega arith)))
    ∙ ap (λ n. sum_over inner (range_with_len 0 n)) (sym more)
  where
    last : (x y : ℤ) → x +ℤ y ≡ x +ℤ (y +ℤ pos 0)
    last x y = omega (arith, ints)
