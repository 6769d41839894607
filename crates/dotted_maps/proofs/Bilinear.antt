-- Sums of products over two lists of terms, and over the numbers of dot sets. A sum over a range of numbers and one over terms
-- can be exchanged (by induction on the range); so a sum over all pairs of terms, with their coefficients, can be taken before
-- one over numbers or behind it. Hence, where the products of any two terms' entries add up to a sum over dot sets, modulo p, so do
-- those of two whole lists of terms. A sum over numbers of which one alone counts is that one's summand. So the sum over all dot sets,
-- by their coefficients in a list of terms, is the sum over the terms (both by induction).
use Rattle.std.proofs.Common.{◌≡◌, ℕ, zero, suc, ◌+◌, ◌*◌, ◌<◌, ◌∙◌, List, [], ◌∷◌, refl, sym, ap, ap₂, arith, cond}
use Rattle.std.specs.Prelude.{nat_eq}
use Rattle.std.specs.List.{sum_by, AllByRecursion}
use Rattle.std.proofs.lemmas.Bool.Decides.{nat_tests}
use Rattle.std.proofs.lemmas.List.Sums.{sum_by-cons}
use Rattle.kh_types.specs.Products.{sum_below}
use Rattle.kh_types.specs.Residues.{Same}
use Rattle.kh_types.proofs.Residues.{same-equal, same-add, same-scaled}
use Rattle.kh_types.proofs.Sums.{sum_below-equal, sum_below-add, sum_below-scaled, sum_below-zeros, zero-times}
use Rattle.kh_types.proofs.ListSums.{sum_by-alike, sum_by-plus, sum_by-times, sum_by-zeros}
use Rattle.dotted_maps.specs.Maps.{coefficient_in}
use Rattle.dotted_maps.specs.declared.term.Term.{Term}

-- sums in the other order
turned-sums : {X : Type 0} (n : ℕ) (h : ℕ → X → ℕ) (xs : List X)
    → sum_below n (λ k. sum_by (h k) xs) ≡ sum_by (λ x. sum_below n (λ k. h k x)) xs
turned-sums zero h xs = sym (sum_by-zeros (λ x. 0) xs (λ x. refl))
turned-sums (suc n) h xs =
    ap (λ z. sum_by (h 0) xs + z) (turned-sums n (λ k. h (suc k)) xs)
    ∙ sym (sum_by-plus (h 0) (λ x. sum_below n (λ k. h (suc k) x)) xs)

-- a sum over pairs of terms, with their coefficients
abbrev pub over_pairs : List Term → List Term → (Term → Term → ℕ) → ℕ
over_pairs first second f = sum_by (λ term. sum_by (λ other. term.coefficient * other.coefficient * f term other) second) first

pub over_pairs-alike : (first second : List Term) (f g : Term → Term → ℕ) → ((x y : Term) → f x y ≡ g x y)
    → over_pairs first second f ≡ over_pairs first second g
over_pairs-alike first second f g alike =
    sum_by-alike (λ term. sum_by (λ other. term.coefficient * other.coefficient * f term other) second)
    (λ term. sum_by (λ other. term.coefficient * other.coefficient * g term other) second)
    (λ term. sum_by-alike (λ other. term.coefficient * other.coefficient * f term other)
    (λ other. term.coefficient * other.coefficient * g term other)
    (λ other. ap (λ z. term.coefficient * other.coefficient * z) (alike term other)) second) first

sum_by-same : {X : Type 0} (p : ℕ) (f g : X → ℕ) → ((x : X) → Same p (f x) (g x)) → (xs : List X) → Same p (sum_by f xs) (sum_by g xs)
sum_by-same p f g same [] = refl
sum_by-same p f g same (x ∷ xs) =
    same-equal p (sum_by f (x ∷ xs)) (f x + sum_by f xs) (sum_by-cons f x xs)
    ∙ same-add p (f x) (g x) (sum_by f xs) (sum_by g xs) (same x) (sum_by-same p f g same xs)
    ∙ same-equal p (g x + sum_by g xs) (sum_by g (x ∷ xs)) (sym (sum_by-cons g x xs))

over_pairs-same : (p : ℕ) (first second : List Term) (f g : Term → Term → ℕ) → ((x y : Term) → Same p (f x y) (g x y))
    → Same p (over_pairs first second f) (over_pairs first second g)
over_pairs-same p first second f g same =
    sum_by-same p (λ term. sum_by (λ other. term.coefficient * other.coefficient * f term other) second)
    (λ term. sum_by (λ other. term.coefficient * other.coefficient * g term other) second)
    (λ term. sum_by-same p (λ other. term.coefficient * other.coefficient * f term other)
    (λ other. term.coefficient * other.coefficient * g term other)
    (λ other. same-scaled p (term.coefficient * other.coefficient) (f term other) (g term other) (same term other)) second) first

pub over_pairs-sums : (first second : List Term) (n : ℕ) (f : Term → Term → ℕ → ℕ)
    → sum_below n (λ k. over_pairs first second (λ x y. f x y k)) ≡ over_pairs first second (λ x y. sum_below n (f x y))
over_pairs-sums first second n f =
    turned-sums n (λ k term. sum_by (λ other. term.coefficient * other.coefficient * f term other k) second) first
    ∙ sum_by-alike
    (λ term. sum_below n (λ k. sum_by (λ other. term.coefficient * other.coefficient * f term other k) second))
    (λ term. sum_by (λ other. term.coefficient * other.coefficient * sum_below n (f term other)) second)
    (λ term. turned-sums n (λ k other. term.coefficient * other.coefficient * f term other k) second
    ∙ sum_by-alike (λ other. sum_below n (λ k. term.coefficient * other.coefficient * f term other k))
    (λ other. term.coefficient * other.coefficient * sum_below n (f term other))
    (λ other. sum_below-scaled n (term.coefficient * other.coefficient) (f term other)) second) first

over_pairs-times : (first second : List Term) (f : Term → Term → ℕ) (c : ℕ)
    → over_pairs first second f * c ≡ over_pairs first second (λ x y. f x y * c)
over_pairs-times first second f c =
    flipped (over_pairs first second f) c
    ∙ sym (sum_by-times (λ term. sum_by (λ other. term.coefficient * other.coefficient * f term other) second) c first)
    ∙ sum_by-alike (λ term. c * sum_by (λ other. term.coefficient * other.coefficient * f term other) second)
    (λ term. sum_by (λ other. term.coefficient * other.coefficient * (f term other * c)) second)
    (λ term. sym (sum_by-times (λ other. term.coefficient * other.coefficient * f term other) c second)
    ∙ sum_by-alike (λ other. c * (term.coefficient * other.coefficient * f term other))
    (λ other. term.coefficient * other.coefficient * (f term other * c))
    (λ other. moved c term.coefficient other.coefficient (f term other)) second) first
  where
    flipped : (x y : ℕ) → x * y ≡ y * x
    flipped x y = omega arith

    moved : (c a b x : ℕ) → c * (a * b * x) ≡ a * b * (x * c)
    moved c a b x = omega arith

-- the product of two sums
product-pairs : (first second : List Term) (f g : Term → ℕ)
    → sum_by (λ other. other.coefficient * g other) second * sum_by (λ term. term.coefficient * f term) first
    ≡ over_pairs first second (λ x y. f x * g y)
product-pairs first second f g =
    let whole = sum_by (λ other. other.coefficient * g other) second in
    sym (sum_by-times (λ term. term.coefficient * f term) whole first)
    ∙ sum_by-alike (λ term. whole * (term.coefficient * f term))
    (λ term. sum_by (λ other. term.coefficient * other.coefficient * (f term * g other)) second)
    (λ term. flipped whole (term.coefficient * f term)
    ∙ sym (sum_by-times (λ other. other.coefficient * g other) (term.coefficient * f term) second)
    ∙ sum_by-alike (λ other. term.coefficient * f term * (other.coefficient * g other))
    (λ other. term.coefficient * other.coefficient * (f term * g other))
    (λ other. moved term.coefficient (f term) other.coefficient (g other)) second) first
  where
    flipped : (x y : ℕ) → x * y ≡ y * x
    flipped x y = omega arith

    moved : (a b c d : ℕ) → a * b * (c * d) ≡ a * c * (b * d)
    moved a b c d = omega arith

-- where the entries of terms multiply so, the sums of terms do
pub sums-multiply : (p : ℕ) (first second : List Term) (n k : ℕ) (f g : Term → ℕ → ℕ) (h : Term → Term → ℕ → ℕ) (e : ℕ → ℕ)
    → ((x y : Term) → Same p (sum_below n (λ i. f x i * g y i)) (sum_below k (λ j. h x y j * e j)))
    → Same p
    (sum_below n (λ i. sum_by (λ other. other.coefficient * g other i) second * sum_by (λ term. term.coefficient * f term i) first))
    (sum_below k (λ j. over_pairs first second (λ x y. h x y j) * e j))
sums-multiply p first second n k f g h e multiply =
    same-equal p
    (sum_below n (λ i. sum_by (λ other. other.coefficient * g other i) second * sum_by (λ term. term.coefficient * f term i) first))
    (over_pairs first second (λ x y. sum_below n (λ i. f x i * g y i)))
    (sum_below-equal n
    (λ i. sum_by (λ other. other.coefficient * g other i) second * sum_by (λ term. term.coefficient * f term i) first)
    (λ i. over_pairs first second (λ x y. f x i * g y i))
    (λ i. product-pairs first second (λ x. f x i) (λ y. g y i))
    ∙ over_pairs-sums first second n (λ x y i. f x i * g y i))
    ∙ over_pairs-same p first second (λ x y. sum_below n (λ i. f x i * g y i)) (λ x y. sum_below k (λ j. h x y j * e j)) multiply
    ∙ same-equal p (over_pairs first second (λ x y. sum_below k (λ j. h x y j * e j)))
    (sum_below k (λ j. over_pairs first second (λ x y. h x y j) * e j))
    (sym (over_pairs-sums first second k (λ x y j. h x y j * e j))
    ∙ sym (sum_below-equal k (λ j. over_pairs first second (λ x y. h x y j) * e j)
    (λ j. over_pairs first second (λ x y. h x y j * e j))
    (λ j. over_pairs-times first second (λ x y. h x y j) (e j))))

-- a sum in which one number counts
none-later : (k c : ℕ) → cond (nat_eq 0 (suc k)) c 0 ≡ 0
none-later k c = grind (arith, nat_tests)

none-first : (k c : ℕ) → cond (nat_eq (suc k) 0) c 0 ≡ 0
none-first k c = grind (arith, nat_tests)

next : (k j c : ℕ) → cond (nat_eq (suc k) (suc j)) c 0 ≡ cond (nat_eq k j) c 0
next k j c = grind (arith, nat_tests)

only-first : (c : ℕ) → cond (nat_eq 0 0) c 0 ≡ c
only-first c = grind (arith, nat_tests)

pub sum_below-one : (n k c : ℕ) (e : ℕ → ℕ) → k < n → sum_below n (λ j. cond (nat_eq k j) c 0 * e j) ≡ c * e k
sum_below-one zero k c e below = absurd (omega (arith, below))
sum_below-one (suc n) zero c e below =
    let first = ap (λ z. z * e 0) (only-first c) in
    let rest = sum_below-zeros n (λ j. cond (nat_eq 0 (suc j)) c 0 * e (suc j))
    (λ j. zero-times (cond (nat_eq 0 (suc j)) c 0) (e (suc j)) (none-later j c)) in
    ap₂ (λ x y. x + y) first rest ∙ plus_zero (c * e 0)
  where
    plus_zero : (x : ℕ) → x + 0 ≡ x
    plus_zero x = omega arith
sum_below-one (suc n) (suc k) c e below =
    ap₂ (λ x y. x + y) (zero-times (cond (nat_eq (suc k) 0) c 0) (e 0) (none-first k c))
    (sum_below-equal n (λ j. cond (nat_eq (suc k) (suc j)) c 0 * e (suc j)) (λ j. cond (nat_eq k j) c 0 * e (suc j))
    (λ j. ap (λ z. z * e (suc j)) (next k j c))
    ∙ sum_below-one n k c (λ j. e (suc j)) (omega (arith, below)))
    ∙ zero_plus (c * e (suc k))
  where
    zero_plus : (x : ℕ) → 0 + x ≡ x
    zero_plus x = omega arith

-- the sum over dot sets, by their coefficients, is that over terms
pub sum-terms : (terms : List Term) (n : ℕ) (e : ℕ → ℕ) → AllByRecursion (λ term. term.dots < n) terms
    → sum_below n (λ j. coefficient_in terms j * e j) ≡ sum_by (λ term. term.coefficient * e term.dots) terms
sum-terms [] n e below = sum_below-zeros n (λ j. coefficient_in [] j * e j) (λ j. omega arith)
sum-terms (term ∷ terms) n e below =
    sum_below-equal n (λ j. coefficient_in (term ∷ terms) j * e j)
    (λ j. cond (nat_eq term.dots j) term.coefficient 0 * e j + coefficient_in terms j * e j)
    (λ j. ap (λ z. z * e j) (sum_by-cons (λ t. cond (nat_eq t.dots j) t.coefficient 0) term terms)
    ∙ spread (cond (nat_eq term.dots j) term.coefficient 0) (coefficient_in terms j) (e j))
    ∙ sum_below-add n (λ j. cond (nat_eq term.dots j) term.coefficient 0 * e j) (λ j. coefficient_in terms j * e j)
    ∙ ap₂ (λ x y. x + y) (sum_below-one n term.dots term.coefficient e below.0) (sum-terms terms n e below.1)
    ∙ sym (sum_by-cons (λ t. t.coefficient * e t.dots) term terms)
  where
    spread : (x y z : ℕ) → (x + y) * z ≡ x * z + y * z
    spread x y z = omega arith
