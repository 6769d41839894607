-- What a cut keeps of weights: by cases of which kinds of dots there are on either side. A component that is cut but not apart has a
-- handle less, and a dot more or a hollow dot more: that is exact. Of two that are cut apart the first has a dot more, or the second a
-- hollow dot: that holds modulo p, where h and k are together 0. And where both are 0, only the sum of the kinds counts.
use Rattle.std.proofs.Common.{◌≡◌, ℕ, zero, suc, ◌+◌, ◌*◌, ◌^◌, ◌%◌, ◌∙◌, refl, sym, ap, ap₂, arith}
use Rattle.std.proofs.lemmas.Bool.Decides.{nat_tests}
use Rattle.std.proofs.lemmas.Nat.{pow-add}
use Rattle.std.proofs.Math.Nat.{pow-succ', pow-zero}
use Rattle.kh_types.specs.Residues.{Same}
use Rattle.kh_types.proofs.Residues.{same-add, same-equal, same-scaled}
use Rattle.surface_laws.specs.Surfaces.{weight, plain_weight}

pub weight-together : (h k g d o : ℕ) → weight h k g (suc d) o + weight h k g d (suc o) ≡ weight h k (suc g) d o
weight-together h k g zero zero = let e : g + 0 ≡ g = omega arith in ap₂ (λ x y. h ^ x + k ^ y) e e
weight-together h k g (suc d) zero = let e : g + suc d ≡ suc g + d = omega arith in let f : (x : ℕ) → x + 0 ≡ x = λ x. omega arith in f (h ^ (g + suc d)) ∙ ap (λ x. h ^ x) e
weight-together h k g zero (suc o) = let e : g + suc o ≡ suc g + o = omega arith in let f : (x : ℕ) → 0 + x ≡ x = λ x. omega arith in f (k ^ (g + suc o)) ∙ ap (λ x. k ^ x) e
weight-together h k g (suc d) (suc o) = refl

-- what has the factor h + k is 0
vanishes : (p h k x : ℕ) → Same p (h + k) 0 → Same p (x * (h + k)) 0
vanishes p h k x none = same-scaled p x (h + k) 0 none ∙ same-equal p (x * 0) 0 (omega arith)

rest : (p h k x y z : ℕ) → Same p (h + k) 0 → z ≡ x * (h + k) + y → Same p z y
rest p h k x y z none is =
    same-equal p z (x * (h + k) + y) is ∙ same-add p (x * (h + k)) 0 y y (vanishes p h k x none) refl
    ∙ same-equal p (0 + y) y (let e : 0 + y ≡ y = omega arith in e)

-- the same by other names of the sums
named : (p x h k g d o g1 d1 o1 : ℕ) → g1 ≡ g → d1 ≡ d → o1 ≡ o → Same p x (weight h k g1 d1 o1) → Same p x (weight h k g d o)
named p x h k g d o g1 d1 o1 is_g is_d is_o same =
    same ∙ ap (λ z. weight h k z d1 o1 % p) is_g ∙ ap (λ z. weight h k g z o1 % p) is_d ∙ ap (λ z. weight h k g d z % p) is_o

-- powers
power-two : (n a b c : ℕ) → a + b ≡ c → n ^ a * n ^ b ≡ n ^ c
power-two n a b c sum = sym (pow-add n a b) ∙ ap (λ z. n ^ z) sum

power-more : (n a b : ℕ) → b ≡ suc a → n ^ b ≡ n * n ^ a
power-more n a b more = ap (λ z. n ^ z) more ∙ pow-succ' n a

-- where all is equal
plain : (p x y u v : ℕ) → u ≡ x → v ≡ y → x ≡ y → Same p u v
plain p x y u v first second third = same-equal p u v (first ∙ third ∙ sym second)

pub weight-apart : (p h k g d o e b c : ℕ) → Same p (h + k) 0
    → Same p (weight h k g (suc d) o * weight h k e b c + weight h k g d o * weight h k e b (suc c))
    (weight h k (g + e) (d + b) (o + c))
-- both kinds on the first side
weight-apart p h k g (suc d) (suc o) e b c none =
    named p _ h k (g + e) (suc d + b) (suc o + c) (g + e) (suc (d + b)) (suc (o + c)) (omega arith) (omega arith) (omega arith)
    (same-equal p (0 * weight h k e b c + 0 * weight h k e b (suc c)) 0 (none_there (weight h k e b c) (weight h k e b (suc c))))
  where
    none_there : (x y : ℕ) → 0 * x + 0 * y ≡ 0
    none_there x y = omega arith
-- dots on the first side
weight-apart p h k g (suc d) zero e (suc b) (suc c) none =
    named p _ h k (g + e) (suc d + suc b) (0 + suc c) (g + e) (suc (d + suc b)) (suc c) (omega arith) (omega arith) (omega arith)
    (same-equal p (h ^ (g + suc d) * 0 + h ^ (g + d) * 0) 0 (none_there (h ^ (g + suc d)) (h ^ (g + d))))
  where
    none_there : (x y : ℕ) → x * 0 + y * 0 ≡ 0
    none_there x y = omega arith
weight-apart p h k g (suc d) zero e (suc b) zero none =
    named p _ h k (g + e) (suc d + suc b) (0 + 0) (g + e) (suc (d + suc b)) (0) (omega arith) (omega arith) (omega arith)
    (same-equal p (h ^ (g + suc d) * h ^ (e + b) + h ^ (g + d) * 0) (h ^ (g + e + (d + suc b)))
    (alone (h ^ (g + suc d) * h ^ (e + b)) (h ^ (g + d)) ∙ power-two h (g + suc d) (e + b) (g + e + (d + suc b)) (omega arith)))
  where
    alone : (x y : ℕ) → x + y * 0 ≡ x
    alone x y = omega arith
weight-apart p h k g (suc d) zero e zero (suc c) none =
    named p _ h k (g + e) (suc d + 0) (0 + suc c) (g + e) (suc d) (suc c) (omega arith) (omega arith) (omega arith)
    (rest p h k (h ^ (g + d) * k ^ (e + c)) 0 (h ^ (g + suc d) * k ^ (e + c) + h ^ (g + d) * k ^ (e + suc c)) none
    (ap₂ (λ x y. x * k ^ (e + c) + h ^ (g + d) * y) (power-more h (g + d) (g + suc d) (omega arith)) (power-more k (e + c) (e + suc c) (omega arith))
    ∙ factored h k (h ^ (g + d)) (k ^ (e + c))))
  where
    factored : (h k x y : ℕ) → h * x * y + x * (k * y) ≡ x * y * (h + k) + 0
    factored h k x y = omega arith
weight-apart p h k g (suc d) zero zero zero zero none =
    named p _ h k (g + 0) (suc d + 0) (0 + 0) (g) (suc d) (0) (omega arith) (omega arith) (omega arith)
    (same-equal p (h ^ (g + suc d) * 0 + h ^ (g + d) * k ^ 0) (h ^ (g + d))
    (ap (λ x. h ^ (g + suc d) * 0 + h ^ (g + d) * x) (pow-zero k) ∙ alone (h ^ (g + suc d)) (h ^ (g + d))))
  where
    alone : (x y : ℕ) → x * 0 + y * 1 ≡ y
    alone x y = omega arith
weight-apart p h k g (suc d) zero (suc e) zero zero none =
    named p _ h k (g + suc e) (suc d + 0) (0 + 0) (g + suc e) (suc d) (0) (omega arith) (omega arith) (omega arith)
    (rest p h k (h ^ (g + d) * k ^ e) (h ^ (g + suc e + d)) (h ^ (g + suc d) * (h ^ e + k ^ e) + h ^ (g + d) * k ^ (suc e + 0)) none
    (ap₂ (λ x y. x * (h ^ e + k ^ e) + h ^ (g + d) * y) (power-more h (g + d) (g + suc d) (omega arith)) (power-more k e (suc e + 0) (omega arith))
    ∙ factored h k (h ^ (g + d)) (h ^ e) (k ^ e)
    ∙ ap (λ x. h ^ (g + d) * k ^ e * (h + k) + x) (ap (λ x. h * x) (power-two h (g + d) e (g + d + e) refl) ∙ sym (power-more h (g + d + e) (g + suc e + d) (omega arith)))))
  where
    factored : (h k x y z : ℕ) → h * x * (y + z) + x * (k * z) ≡ x * z * (h + k) + h * (x * y)
    factored h k x y z = omega arith
-- hollow dots on the first side
weight-apart p h k g zero (suc o) e (suc b) (suc c) none =
    named p _ h k (g + e) (0 + suc b) (suc o + suc c) (g + e) (suc b) (suc (o + suc c)) (omega arith) (omega arith) (omega arith)
    (same-equal p (0 * 0 + k ^ (g + o) * 0) 0 (none_there (k ^ (g + o))))
  where
    none_there : (x : ℕ) → 0 * 0 + x * 0 ≡ 0
    none_there x = omega arith
weight-apart p h k g zero (suc o) e (suc b) zero none =
    named p _ h k (g + e) (0 + suc b) (suc o + 0) (g + e) (suc b) (suc o) (omega arith) (omega arith) (omega arith)
    (same-equal p (0 * h ^ (e + b) + k ^ (g + o) * 0) 0 (none_there (h ^ (e + b)) (k ^ (g + o))))
  where
    none_there : (x y : ℕ) → 0 * x + y * 0 ≡ 0
    none_there x y = omega arith
weight-apart p h k g zero (suc o) e zero (suc c) none =
    named p _ h k (g + e) (0 + 0) (suc o + suc c) (g + e) (0) (suc (o + suc c)) (omega arith) (omega arith) (omega arith)
    (same-equal p (0 * k ^ (e + c) + k ^ (g + o) * k ^ (e + suc c)) (k ^ (g + e + (o + suc c)))
    (alone (k ^ (e + c)) (k ^ (g + o) * k ^ (e + suc c)) ∙ power-two k (g + o) (e + suc c) (g + e + (o + suc c)) (omega arith)))
  where
    alone : (x y : ℕ) → 0 * x + y ≡ y
    alone x y = omega arith
weight-apart p h k g zero (suc o) zero zero zero none =
    named p _ h k (g + 0) (0 + 0) (suc o + 0) (g) (0) (suc o) (omega arith) (omega arith) (omega arith)
    (same-equal p (0 * 0 + k ^ (g + o) * k ^ 0) (k ^ (g + o)) (ap (λ x. 0 * 0 + k ^ (g + o) * x) (pow-zero k) ∙ alone (k ^ (g + o))))
  where
    alone : (x : ℕ) → 0 * 0 + x * 1 ≡ x
    alone x = omega arith
weight-apart p h k g zero (suc o) (suc e) zero zero none =
    named p _ h k (g + suc e) (0 + 0) (suc o + 0) (g + suc e) (0) (suc o) (omega arith) (omega arith) (omega arith)
    (same-equal p (0 * (h ^ e + k ^ e) + k ^ (g + o) * k ^ (suc e + 0)) (k ^ (g + suc e + o))
    (alone (h ^ e + k ^ e) (k ^ (g + o) * k ^ (suc e + 0)) ∙ power-two k (g + o) (suc e + 0) (g + suc e + o) (omega arith)))
  where
    alone : (x y : ℕ) → 0 * x + y ≡ y
    alone x y = omega arith
-- a sphere without dots leaves the other as it is
weight-apart p h k zero zero zero e b c none =
    named p _ h k (0 + e) (0 + b) (0 + c) (e) (b) (c) (omega arith) (omega arith) (omega arith)
    (same-equal p (h ^ 0 * weight h k e b c + 0 * weight h k e b (suc c)) (weight h k e b c)
    (ap (λ x. x * weight h k e b c + 0 * weight h k e b (suc c)) (pow-zero h) ∙ one (weight h k e b c) (weight h k e b (suc c))))
  where
    one : (x y : ℕ) → 1 * x + 0 * y ≡ x
    one x y = omega arith
-- a handle without dots on the first side
weight-apart p h k (suc g) zero zero e (suc b) (suc c) none =
    named p _ h k (suc g + e) (0 + suc b) (0 + suc c) (suc g + e) (suc b) (suc c) (omega arith) (omega arith) (omega arith)
    (same-equal p (h ^ (suc g + 0) * 0 + (h ^ g + k ^ g) * 0) 0 (none_there (h ^ (suc g + 0)) (h ^ g + k ^ g)))
  where
    none_there : (x y : ℕ) → x * 0 + y * 0 ≡ 0
    none_there x y = omega arith
weight-apart p h k (suc g) zero zero e (suc b) zero none =
    named p _ h k (suc g + e) (0 + suc b) (0 + 0) (suc g + e) (suc b) (0) (omega arith) (omega arith) (omega arith)
    (same-equal p (h ^ (suc g + 0) * h ^ (e + b) + (h ^ g + k ^ g) * 0) (h ^ (suc g + e + b))
    (alone (h ^ (suc g + 0) * h ^ (e + b)) (h ^ g + k ^ g) ∙ power-two h (suc g + 0) (e + b) (suc g + e + b) (omega arith)))
  where
    alone : (x y : ℕ) → x + y * 0 ≡ x
    alone x y = omega arith
weight-apart p h k (suc g) zero zero e zero (suc c) none =
    named p _ h k (suc g + e) (0 + 0) (0 + suc c) (suc g + e) (0) (suc c) (omega arith) (omega arith) (omega arith)
    (rest p h k (h ^ g * k ^ (e + c)) (k ^ (suc g + e + c)) (h ^ (suc g + 0) * k ^ (e + c) + (h ^ g + k ^ g) * k ^ (e + suc c)) none
    (ap₂ (λ x y. x * k ^ (e + c) + (h ^ g + k ^ g) * y) (power-more h g (suc g + 0) (omega arith)) (power-more k (e + c) (e + suc c) (omega arith))
    ∙ factored h k (h ^ g) (k ^ g) (k ^ (e + c))
    ∙ ap (λ x. h ^ g * k ^ (e + c) * (h + k) + x) (ap (λ x. k * x) (power-two k g (e + c) (g + (e + c)) refl) ∙ sym (power-more k (g + (e + c)) (suc g + e + c) (omega arith)))))
  where
    factored : (h k x y z : ℕ) → h * x * z + (x + y) * (k * z) ≡ x * z * (h + k) + k * (y * z)
    factored h k x y z = omega arith
weight-apart p h k (suc g) zero zero zero zero zero none =
    named p _ h k (suc g + 0) (0 + 0) (0 + 0) (suc g) (0) (0) (omega arith) (omega arith) (omega arith)
    (same-equal p (h ^ (suc g + 0) * 0 + (h ^ g + k ^ g) * k ^ 0) (h ^ g + k ^ g)
    (ap (λ x. h ^ (suc g + 0) * 0 + (h ^ g + k ^ g) * x) (pow-zero k) ∙ alone (h ^ (suc g + 0)) (h ^ g + k ^ g)))
  where
    alone : (x y : ℕ) → x * 0 + y * 1 ≡ y
    alone x y = omega arith
weight-apart p h k (suc g) zero zero (suc e) zero zero none =
    named p _ h k (suc g + suc e) (0 + 0) (0 + 0) (suc (g + suc e)) (0) (0) (omega arith) (omega arith) (omega arith)
    (rest p h k (h ^ g * k ^ e) (h ^ (g + suc e) + k ^ (g + suc e)) (h ^ (suc g + 0) * (h ^ e + k ^ e) + (h ^ g + k ^ g) * k ^ (suc e + 0)) none
    (ap₂ (λ x y. x * (h ^ e + k ^ e) + (h ^ g + k ^ g) * y) (power-more h g (suc g + 0) (omega arith)) (power-more k e (suc e + 0) (omega arith))
    ∙ factored h k (h ^ g) (h ^ e) (k ^ g) (k ^ e)
    ∙ ap₂ (λ x y. h ^ g * k ^ e * (h + k) + (x + y)) (powers h g e) (powers k g e)))
  where
    factored : (h k x y z w : ℕ) → h * x * (y + w) + (x + z) * (k * w) ≡ x * w * (h + k) + (h * (x * y) + k * (z * w))
    factored h k x y z w = omega arith

    powers : (n g e : ℕ) → n * (n ^ g * n ^ e) ≡ n ^ (g + suc e)
    powers n g e = ap (λ x. n * x) (power-two n g e (g + e) refl) ∙ sym (power-more n (g + e) (g + suc e) (omega arith))

-- where h and k are 0

zero-powers : (n : ℕ) → 0 ^ suc n ≡ 0
zero-powers n = pow-succ' 0 n ∙ none (0 ^ n)
  where
    none : (x : ℕ) → 0 * x ≡ 0
    none x = omega arith

power-none : (n m : ℕ) → n ≡ suc m → 0 ^ n ≡ 0
power-none n m is = ap (λ z. 0 ^ z) is ∙ zero-powers m

plain-above : (g m n : ℕ) → m + g ≡ suc (suc n) → plain_weight g m ≡ 0
plain-above g m n is = grind (arith, nat_tests)

pub weight-plain : (genus dots hollows : ℕ) → weight 0 0 genus dots hollows ≡ plain_weight genus (dots + hollows)
weight-plain g (suc d) (suc o) = sym (plain-above g (suc d + suc o) (d + o + g) (omega arith))
weight-plain zero (suc zero) zero = refl
weight-plain zero (suc (suc d)) zero =
    power-none (0 + suc d) d (omega arith) ∙ sym (plain-above 0 (suc (suc d) + 0) d (omega arith))
weight-plain (suc g) (suc d) zero =
    power-none (suc g + d) (g + d) (omega arith) ∙ sym (plain-above (suc g) (suc d + 0) (g + d) (omega arith))
weight-plain zero zero (suc zero) = refl
weight-plain zero zero (suc (suc o)) =
    power-none (0 + suc o) o (omega arith) ∙ sym (plain-above 0 (0 + suc (suc o)) o (omega arith))
weight-plain (suc g) zero (suc o) =
    power-none (suc g + o) (g + o) (omega arith) ∙ sym (plain-above (suc g) (0 + suc o) (g + o) (omega arith))
weight-plain zero zero zero = refl
weight-plain (suc zero) zero zero = refl
weight-plain (suc (suc g)) zero zero =
    ap₂ (λ x y. x + y) (zero-powers g) (zero-powers g) ∙ sym (plain-above (suc (suc g)) (0 + 0) g (omega arith))

-- modulo 0 the same is equal
pub exact : (x y : ℕ) → Same 0 x y → x ≡ y
exact x y same = sym (mod-nothing x) ∙ same ∙ mod-nothing y
  where
    mod-nothing : (x : ℕ) → x % 0 ≡ x
    mod-nothing x = omega arith
