-- Sums over lists: of sums, of multiples, of images, by places, and of which one term counts.
use Rattle.std.proofs.lemmas.Bool.Decides.{nat_tests}
use Rattle.std.proofs.Common.{◌≡◌, ◌≢◌, ℕ, zero, suc, ◌+◌, ◌-◌, ◌*◌, ◌<◌, ◌≤◌, ◌∙◌, List, [], ◌∷◌, length, get_or, map, refl, sym, ap, ap₂, arith, Bool, true, false, cond, inl, inr}
use Rattle.std.specs.Prelude.{nat_eq}
use Rattle.std.specs.List.{AllByRecursion, filter, flat_map, sum_by, range_with_len}
use Rattle.std.proofs.Math.Path.{fun_ext}
use Rattle.std.proofs.lemmas.Bool.{eq-eqb, eqb-true, cases_eq}
use Rattle.std.proofs.lemmas.List.Sums.{sum_by-cons, sum_by-append}
use Rattle.std.proofs.lemmas.List.Folds.{sum_by-zero}
use Rattle.kh_types.proofs.Ranges.{range_around}
use Rattle.kh_types.proofs.RangeCounts.{list_all-each}

pub sum_by-alike : {X : Type 0} (f g : X → ℕ) → ((x : X) → f x ≡ g x) → (xs : List X) → sum_by f xs ≡ sum_by g xs
sum_by-alike {X} f g alike xs = ap (λ (h : X → ℕ). sum_by h xs) (fun_ext alike)

pub sum_by-on : {X : Type 0} (f g : X → ℕ) (xs : List X) → AllByRecursion (λ x. f x ≡ g x) xs → sum_by f xs ≡ sum_by g xs
sum_by-on f g [] alike = refl
sum_by-on f g (x ∷ xs) alike = grind (arith, nat_tests, sum_by-cons, sum_by-on f g xs alike.1)

pub sum_by-plus : {X : Type 0} (f g : X → ℕ) (xs : List X) → sum_by (λ x. f x + g x) xs ≡ sum_by f xs + sum_by g xs
sum_by-plus f g [] = refl
sum_by-plus f g (x ∷ xs) =
    sum_by-cons (λ y. f y + g y) x xs ∙ omega (arith, sum_by-plus f g xs, sum_by-cons f x xs, sum_by-cons g x xs)

pub sum_by-times : {X : Type 0} (f : X → ℕ) (c : ℕ) (xs : List X) → sum_by (λ x. c * f x) xs ≡ c * sum_by f xs
sum_by-times f c [] = omega arith
sum_by-times f c (x ∷ xs) =
    sum_by-cons (λ y. c * f y) x xs ∙ ap (λ s. c * f x + s) (sum_by-times f c xs) ∙ spread c (f x) (sum_by f xs)
    ∙ ap (λ s. c * s) (sym (sum_by-cons f x xs))
  where
    spread : (c s t : ℕ) → c * s + c * t ≡ c * (s + t)
    spread c s t = omega arith

pub sum_by-none : (f : ℕ → ℕ) (a n : ℕ) → ((x : ℕ) → a ≤ x → x < a + n → f x ≡ 0) → sum_by f (range_with_len a n) ≡ 0
sum_by-none f a n none =
    eqb-true (sum_by f (range_with_len a n)) 0
    (sum_by-zero f (range_with_len a n)
    ∙ list_all-each (λ x. nat_eq (f x) 0) a n (λ x from below. eq-eqb (f x) 0 (none x from below)))

pub sum_by-zeros : {X : Type 0} (f : X → ℕ) (xs : List X) → ((x : X) → f x ≡ 0) → sum_by f xs ≡ 0
sum_by-zeros f [] zeros = refl
sum_by-zeros f (x ∷ xs) zeros = omega (arith, sum_by-cons f x xs, zeros x, sum_by-zeros f xs zeros)

-- only the term at k counts
pub sum_by-single : (f : ℕ → ℕ) (a n k : ℕ) → a ≤ k → k < a + n → ((x : ℕ) → a ≤ x → x < a + n → x ≢ k → f x ≡ 0)
    → sum_by f (range_with_len a n) ≡ f k
sum_by-single f a n k from below none =
    let front = range_with_len a (k - a) in
    let back = range_with_len (k + 1) (n - (k - a + 1)) in
    let before = sum_by-none f a (k - a) (λ x x_from x_below. none x x_from (omega arith) (omega arith)) in
    let behind = sum_by-none f (k + 1) (n - (k - a + 1)) (λ x x_from x_below. none x (omega arith) (omega arith) (omega arith)) in
    ap (λ xs. sum_by f xs) (range_around a n (k - a) k (omega arith) (omega arith))
    ∙ omega (arith, before, behind, sum_by-append f front (k ∷ back), sum_by-cons f k back)

-- sums in the other order
pub sum_by-turned : {X Y : Type 0} (f : X → Y → ℕ) (xs : List X) (ys : List Y)
    → sum_by (λ x. sum_by (f x) ys) xs ≡ sum_by (λ y. sum_by (λ x. f x y) xs) ys
sum_by-turned f [] ys = sym (sum_by-zeros (λ y. sum_by (λ x. f x y) []) ys (λ y. refl))
sum_by-turned f (x ∷ xs) ys =
    sum_by-cons (λ z. sum_by (f z) ys) x xs ∙ ap (λ n. sum_by (f x) ys + n) (sum_by-turned f xs ys)
    ∙ sym (sum_by-plus (f x) (λ y. sum_by (λ z. f z y) xs) ys)
    ∙ sum_by-alike (λ y. f x y + sum_by (λ z. f z y) xs) (λ y. sum_by (λ z. f z y) (x ∷ xs))
    (λ y. sym (sum_by-cons (λ z. f z y) x xs)) ys

-- over what functions make of a list, and what a test passes
pub sum_by-map : {X Y : Type 0} (f : Y → ℕ) (g : X → Y) (xs : List X) → sum_by f (map g xs) ≡ sum_by (λ x. f (g x)) xs
sum_by-map f g [] = refl
sum_by-map f g (x ∷ xs) =
    sum_by-cons f (g x) (map g xs) ∙ ap (λ n. f (g x) + n) (sum_by-map f g xs) ∙ sym (sum_by-cons (λ y. f (g y)) x xs)

pub sum_by-flat_map : {X Y : Type 0} (f : Y → ℕ) (g : X → List Y) (xs : List X)
    → sum_by f (flat_map g xs) ≡ sum_by (λ x. sum_by f (g x)) xs
sum_by-flat_map f g [] = refl
sum_by-flat_map f g (x ∷ xs) =
    sum_by-append f (g x) (flat_map g xs) ∙ ap (λ n. sum_by f (g x) + n) (sum_by-flat_map f g xs)
    ∙ sym (sum_by-cons (λ y. sum_by f (g y)) x xs)

pub sum_by-filter : {X : Type 0} (f : X → ℕ) (p : X → Bool) (xs : List X)
    → sum_by f (filter p xs) ≡ sum_by (λ x. cond (p x) (f x) 0) xs
sum_by-filter f p [] = refl
sum_by-filter f p (x ∷ xs) =
    step (p x) ∙ ap (λ n. cond (p x) (f x) 0 + n) (sum_by-filter f p xs) ∙ sym (sum_by-cons (λ y. cond (p y) (f y) 0) x xs)
  where
    step : (b : Bool) → sum_by f (cond b (x ∷ filter p xs) (filter p xs)) ≡ cond b (f x) 0 + sum_by f (filter p xs)
    step true = sum_by-cons f x (filter p xs)
    step false = omega arith

-- by the places of a list
pub shifted : (h : ℕ → ℕ) (a n : ℕ) → sum_by h (range_with_len (a + 1) n) ≡ sum_by (λ i. h (suc i)) (range_with_len a n)
shifted h a zero = refl
shifted h a (suc n) =
    sum_by-cons h (a + 1) (range_with_len (a + 1 + 1) n)
    ∙ ap₂ (λ x y. x + y) (ap h (let e : a + 1 ≡ suc a = omega arith in e)) (shifted h (a + 1) n)
    ∙ sym (sum_by-cons (λ i. h (suc i)) a (range_with_len (a + 1) n))

pub sum_by-places : {X : Type 0} (f : X → ℕ) (xs : List X) (d : X)
    → sum_by f xs ≡ sum_by (λ i. f (get_or xs i d)) (range_with_len 0 (length xs))
sum_by-places f [] d = refl
sum_by-places f (x ∷ xs) d =
    sum_by-cons f x xs ∙ ap (λ n. f x + n) (sum_by-places f xs d)
    ∙ ap (λ n. f x + n) (sym (shifted (λ i. f (get_or (x ∷ xs) i d)) 0 (length xs)))
    ∙ sym (sum_by-cons (λ i. f (get_or (x ∷ xs) i d)) 0 (range_with_len 1 (length xs)))

pub sum_by-range_alike : (f g : ℕ → ℕ) (a n : ℕ) → ((x : ℕ) → a ≤ x → x < a + n → f x ≡ g x)
    → sum_by f (range_with_len a n) ≡ sum_by g (range_with_len a n)
sum_by-range_alike f g a zero alike = refl
sum_by-range_alike f g a (suc n) alike =
    grind (arith, nat_tests, sum_by-cons, sum_by-range_alike f g (a + 1) n (λ x above below. alike x (omega arith) (omega arith)))

-- a sum that is not 0 has a term that is not
pub sum_by-some : (f : ℕ → ℕ) (a n : ℕ) → sum_by f (range_with_len a n) ≢ 0 → (k : ℕ) × (a ≤ k) × (k < a + n) × (f k ≢ 0)
sum_by-some f a zero some = absurd (some refl)
sum_by-some f a (suc n) some = elim (cases_eq (f a) 0) [
  | inr here ↦ (a, omega arith, omega arith, here)
  | inl none ↦
      let later = sum_by-some f (a + 1) n
      (λ rest. some (sum_by-cons f a (range_with_len (a + 1) n) ∙ omega (arith, none, rest))) in
      (later.0, omega (arith, later.1), omega (arith, later.2), later.3)
]
