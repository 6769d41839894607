-- Products of the values of a function at the numbers below n.
use Rattle.std.proofs.Common.{◌≡◌, ◌≢◌, ℕ, zero, suc, ◌+◌, ◌*◌, ◌<◌, ◌∙◌, refl, sym, ap, ap₂, arith, cond}
use Rattle.std.specs.Prelude.{nat_eq}
use Rattle.std.proofs.lemmas.Bool.Decides.{nat_tests}
use Rattle.surface_laws.specs.Surfaces.{product_below}

pub product_below-alike : (n : ℕ) (f g : ℕ → ℕ) → ((x : ℕ) → x < n → f x ≡ g x) → product_below n f ≡ product_below n g
product_below-alike zero f g alike = refl
product_below-alike (suc n) f g alike =
    ap₂ (λ x y. x * y) (alike 0 (omega arith))
    (product_below-alike n (λ k. f (suc k)) (λ k. g (suc k)) (λ x below. alike (suc x) (omega (arith, below))))

pub product_below-ones : (n : ℕ) (f : ℕ → ℕ) → ((x : ℕ) → x < n → f x ≡ 1) → product_below n f ≡ 1
product_below-ones zero f ones = refl
product_below-ones (suc n) f ones =
    ap₂ (λ x y. x * y) (ones 0 (omega arith))
    (product_below-ones n (λ k. f (suc k)) (λ x below. ones (suc x) (omega (arith, below))))

pub product_below-times : (n : ℕ) (f g : ℕ → ℕ)
    → product_below n (λ k. f k * g k) ≡ product_below n f * product_below n g
product_below-times zero f g = refl
product_below-times (suc n) f g =
    ap (λ z. f 0 * g 0 * z) (product_below-times n (λ k. f (suc k)) (λ k. g (suc k)))
    ∙ turned (f 0) (g 0) (product_below n (λ k. f (suc k))) (product_below n (λ k. g (suc k)))
  where
    turned : (a b c d : ℕ) → a * b * (c * d) ≡ a * c * (b * d)
    turned a b c d = omega arith

-- the order of two products does not matter
pub product_below-exchanged : (m n : ℕ) (f : ℕ → ℕ → ℕ)
    → product_below m (λ i. product_below n (λ k. f i k)) ≡ product_below n (λ k. product_below m (λ i. f i k))
product_below-exchanged zero n f = sym (product_below-ones n (λ k. 1) (λ k below. refl))
product_below-exchanged (suc m) n f =
    ap (λ z. product_below n (λ k. f 0 k) * z) (product_below-exchanged m n (λ i k. f (suc i) k))
    ∙ sym (product_below-times n (λ k. f 0 k) (λ k. product_below m (λ i. f (suc i) k)))

-- a product over two ranges, one after the other
pub product_below-append : (n m : ℕ) (f : ℕ → ℕ)
    → product_below (n + m) f ≡ product_below n f * product_below m (λ k. f (n + k))
product_below-append zero m f =
    let e : zero + m ≡ m = omega arith in
    ap (λ k. product_below k f) e
    ∙ product_below-alike m f (λ k. f (zero + k)) (λ x below. let s : x ≡ zero + x = omega arith in ap f s)
    ∙ one_times (product_below m (λ k. f (zero + k)))
  where
    one_times : (x : ℕ) → x ≡ 1 * x
    one_times x = omega arith
product_below-append (suc n) m f =
    let e : suc n + m ≡ suc (n + m) = omega arith in
    ap (λ k. product_below k f) e
    ∙ ap (λ z. f 0 * z) (product_below-append n m (λ k. f (suc k)))
    ∙ turned (f 0) (product_below n (λ k. f (suc k))) (product_below m (λ k. f (suc (n + k))))
    ∙ ap (λ z. f 0 * product_below n (λ k. f (suc k)) * z)
    (product_below-alike m (λ k. f (suc (n + k))) (λ k. f (suc n + k))
    (λ x below. let s : suc (n + x) ≡ suc n + x = omega arith in ap f s))
  where
    turned : (a b c : ℕ) → a * (b * c) ≡ a * b * c
    turned a b c = omega arith

-- a function but for its value at u, which has become 1
abbrev pub without : ℕ → (ℕ → ℕ) → ℕ → ℕ
without u f x = cond (nat_eq x u) 1 (f x)

without-first : (x s : ℕ) → cond (nat_eq (suc x) 0) 1 s ≡ s
without-first x s = grind (arith, nat_tests)

without-next : (x u s : ℕ) → cond (nat_eq (suc x) (suc u)) 1 s ≡ cond (nat_eq x u) 1 s
without-next x u s = grind (arith, nat_tests)

zero-next : (u s : ℕ) → cond (nat_eq 0 (suc u)) 1 s ≡ s
zero-next u s = grind (arith, nat_tests)

pub product_below-without : (n u : ℕ) (f : ℕ → ℕ) → u < n → product_below n f ≡ f u * product_below n (without u f)
product_below-without zero u f below = absurd (omega (arith, below))
product_below-without (suc n) zero f below =
    ap (λ z. f 0 * z)
    (product_below-alike n (λ k. f (suc k)) (λ k. without 0 f (suc k)) (λ x x_below. sym (without-first x (f (suc x))))
    ∙ one_times (product_below n (λ k. without 0 f (suc k))))
  where
    one_times : (x : ℕ) → x ≡ 1 * x
    one_times x = omega arith
product_below-without (suc n) (suc u) f below =
    ap (λ z. f 0 * z) (product_below-without n u (λ k. f (suc k)) (omega (arith, below)))
    ∙ turned (f 0) (f (suc u)) (product_below n (without u (λ k. f (suc k))))
    ∙ ap₂ (λ x y. f (suc u) * (x * y)) (sym (zero-next u (f 0)))
    (product_below-alike n (without u (λ k. f (suc k))) (λ k. without (suc u) f (suc k))
    (λ x x_below. sym (without-next x u (f (suc x)))))
  where
    turned : (a b c : ℕ) → a * (b * c) ≡ b * (a * c)
    turned a b c = omega arith

-- only the factor at k counts
all-one : (x k s : ℕ) → (x ≢ k → s ≡ 1) → cond (nat_eq x k) 1 s ≡ 1
all-one x k s one = grind (arith, nat_tests)

pub product_below-single : (n k : ℕ) (f : ℕ → ℕ) → k < n → ((x : ℕ) → x < n → x ≢ k → f x ≡ 1) → product_below n f ≡ f k
product_below-single n k f below ones =
    product_below-without n k f below
    ∙ ap (λ z. f k * z) (product_below-ones n (without k f) (λ x x_below. all-one x k (f x) (ones x x_below)))
    ∙ times_one (f k)
  where
    times_one : (x : ℕ) → x * 1 ≡ x
    times_one x = omega arith

-- two factors before the rest
abbrev pub rest_of : ℕ → ℕ → ℕ → (ℕ → ℕ) → ℕ
rest_of n u v f = product_below n (without v (without u f))

second-kept : (u v s : ℕ) → u ≢ v → cond (nat_eq v u) 1 s ≡ s
second-kept u v s apart = grind (arith, nat_tests)

pub product_below-two : (n u v : ℕ) (f : ℕ → ℕ) → u < n → v < n → u ≢ v → product_below n f ≡ f u * f v * rest_of n u v f
product_below-two n u v f u_below v_below apart =
    product_below-without n u f u_below
    ∙ ap (λ z. f u * z)
    (product_below-without n v (without u f) v_below
    ∙ ap (λ z. z * product_below n (without v (without u f))) (second-kept u v (f v) apart))
    ∙ turned (f u) (f v) (product_below n (without v (without u f)))
  where
    turned : (a b c : ℕ) → a * (b * c) ≡ a * b * c
    turned a b c = omega arith

both-without : (x u v s t : ℕ) → (x ≢ u → x ≢ v → s ≡ t)
    → cond (nat_eq x v) 1 (cond (nat_eq x u) 1 s) ≡ cond (nat_eq x v) 1 (cond (nat_eq x u) 1 t)
both-without x u v s t alike = grind (arith, nat_tests)

pub rest_of-alike : (n u v : ℕ) (f g : ℕ → ℕ) → ((x : ℕ) → x ≢ u → x ≢ v → f x ≡ g x) → rest_of n u v f ≡ rest_of n u v g
rest_of-alike n u v f g alike =
    product_below-alike n (without v (without u f)) (without v (without u g))
    (λ x below. both-without x u v (f x) (g x) (alike x))

one-without : (x u s t : ℕ) → (x ≢ u → s ≡ t) → cond (nat_eq x u) 1 s ≡ cond (nat_eq x u) 1 t
one-without x u s t alike = grind (arith, nat_tests)

pub without-alike : (n u : ℕ) (f g : ℕ → ℕ) → ((x : ℕ) → x ≢ u → f x ≡ g x)
    → product_below n (without u f) ≡ product_below n (without u g)
without-alike n u f g alike =
    product_below-alike n (without u f) (without u g) (λ x below. one-without x u (f x) (g x) (alike x))

-- two products are one where their factors are those of the rows and of the columns of a table
pub product_below-table : (n m : ℕ) (f g : ℕ → ℕ) (table : ℕ → ℕ → ℕ)
    → ((x : ℕ) → x < n → product_below m (λ y. table x y) ≡ f x)
    → ((y : ℕ) → y < m → product_below n (λ x. table x y) ≡ g y)
    → product_below n f ≡ product_below m g
product_below-table n m f g table rows columns =
    sym (product_below-alike n (λ x. product_below m (λ y. table x y)) f rows)
    ∙ product_below-exchanged n m table
    ∙ product_below-alike m (λ y. product_below n (λ x. table x y)) g columns
