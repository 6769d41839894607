-- Products of sums, and sums over all pairs of numbers of which the two orders cancel.
use Rattle.std.proofs.Common.{◌≡◌, ℕ, zero, suc, ◌+◌, ◌*◌, ◌%◌, ◌<◌, ◌≤◌, ◌∙◌, List, sym, ap, ap₂, arith}
use Rattle.std.specs.List.{sum_by, range_with_len}
use Rattle.std.proofs.lemmas.List.Sums.{sum_by-cons}
use Rattle.std.proofs.Math.Nat.{zero-mod, add-mod}
use Rattle.kh_types.proofs.Ranges.{sum_by-range_more}
use Rattle.kh_types.proofs.ListSums.{sum_by-alike, sum_by-plus, sum_by-times}

-- a product of sums
pub product-sums : {X : Type 0} (f g : X → ℕ) (xs ys : List X)
    → sum_by f xs * sum_by g ys ≡ sum_by (λ y. sum_by (λ x. f x * g y) xs) ys
product-sums {X} f g xs ys =
    let times : (n : ℕ) → sum_by (λ x. f x * n) xs ≡ n * sum_by f xs =
    λ n. sum_by-alike (λ x. f x * n) (λ x. n * f x) (λ x. exchanged (f x) n) xs ∙ sum_by-times f n xs in
    sym (sum_by-times g (sum_by f xs) ys)
    ∙ sum_by-alike (λ y. sum_by f xs * g y) (λ y. sum_by (λ x. f x * g y) xs)
    (λ y. exchanged (sum_by f xs) (g y) ∙ sym (times (g y))) ys
  where
    exchanged : (m n : ℕ) → m * n ≡ n * m
    exchanged m n = omega arith

-- sums of multiples of p
plus-mod : (p x y : ℕ) → x % p ≡ 0 → y % p ≡ 0 → (x + y) % p ≡ 0
plus-mod p x y is_x is_y = add-mod x y p ∙ ap₂ (λ u v. (u + v) % p) is_x is_y ∙ zero-mod p

sum_by-mod : (p : ℕ) (f : ℕ → ℕ) (a n : ℕ) → ((x : ℕ) → a ≤ x → x < a + n → f x % p ≡ 0) → sum_by f (range_with_len a n) % p ≡ 0
sum_by-mod p f a zero zeros = zero-mod p
sum_by-mod p f a (suc n) zeros =
    ap (λ s. s % p) (sum_by-cons f a (range_with_len (a + 1) n))
    ∙ plus-mod p (f a) (sum_by f (range_with_len (a + 1) n)) (zeros a (omega arith) (omega arith))
    (sum_by-mod p f (a + 1) n (λ x above below. zeros x (omega arith) (omega arith)))

-- the sum over all pairs of numbers from 1 to n
abbrev pub pairs_to : (ℕ → ℕ → ℕ) → ℕ → ℕ
pairs_to f n = sum_by (λ a. sum_by (f a) (range_with_len 1 n)) (range_with_len 1 n)

pairs_to-more : (f : ℕ → ℕ → ℕ) (n k : ℕ) → 1 + n ≡ k
    → pairs_to f (n + 1) ≡ pairs_to f n + sum_by (λ a. f a k + f k a) (range_with_len 1 n) + f k k
pairs_to-more f n k is_k =
    let row = λ (a : ℕ). sum_by (f a) (range_with_len 1 n) in
    sum_by-alike (λ a. sum_by (f a) (range_with_len 1 (n + 1))) (λ a. row a + f a k)
    (λ a. sum_by-range_more (f a) 1 n k is_k) (range_with_len 1 (n + 1))
    ∙ sum_by-range_more (λ a. row a + f a k) 1 n k is_k
    ∙ omega (arith, sum_by-plus row (λ a. f a k) (range_with_len 1 n), sum_by-plus (λ a. f a k) (f k) (range_with_len 1 n))

pub pairs_to-mod : (p : ℕ) (f : ℕ → ℕ → ℕ) (n : ℕ) → ((a b : ℕ) → 1 ≤ a → a < b → b ≤ n → (f a b + f b a) % p ≡ 0)
    → ((a : ℕ) → f a a ≡ 0) → pairs_to f n % p ≡ 0
pairs_to-mod p f zero cancel none = zero-mod p
pairs_to-mod p f (suc n) cancel none =
    let e : suc n ≡ n + 1 = omega arith in
    let k = suc n in
    let before = pairs_to-mod p f n (λ a b positive less within. cancel a b positive less (omega arith)) none in
    let now : sum_by (λ a. f a k + f k a) (range_with_len 1 n) % p ≡ 0 =
    sum_by-mod p (λ a. f a k + f k a) 1 n (λ a above below. cancel a k (omega arith) (omega arith) (omega arith)) in
    ap (λ m. pairs_to f m % p) e ∙ ap (λ s. s % p) (pairs_to-more f n k (omega arith))
    ∙ plus-mod p (pairs_to f n + sum_by (λ a. f a k + f k a) (range_with_len 1 n)) (f k k)
    (plus-mod p (pairs_to f n) (sum_by (λ a. f a k + f k a) (range_with_len 1 n)) before now)
    (ap (λ x. x % p) (none k) ∙ zero-mod p)
