-- Numbers modulo p: what is left when something is taken off, and signs.
use Rattle.std.proofs.Common.{◌≡◌, ℕ, ◌+◌, ◌-◌, ◌*◌, ◌%◌, ◌<◌, ◌∙◌, refl, sym, arith}
use Rattle.std.proofs.Math.Nat.{mod-mod, mod-eq_of_lt}
use Rattle.kh_types.specs.Rank.{inverse, minus_mod}
use Rattle.kh_types.specs.Residues.{HasInverses, Same}
use Rattle.kh_types.proofs.Reduced.{minus_mod-added}
use Rattle.kh_types.proofs.Residues.{same-equal, same-inverse, same-minus, same-mul, same-rest, same-scaled}
use Rattle.square_laws.proofs.Signs.{same_parity, signs-product}
use Rattle.cell_laws.specs.Signs.{sign_of_power}

pub less-nothing : (p x s : ℕ) → 0 < p → Same p s 0 → Same p (minus_mod p x s) x
less-nothing p x s positive none = same-rest p s (minus_mod p x s) x none (minus_mod-added p x s positive)

pub less-something : (p x s : ℕ) → 0 < p → Same p x 0 → Same p (minus_mod p x s) ((p - 1) * s)
less-something p x s positive none =
    let m = minus_mod p x s in
    sym (same-minus p m s positive (same-equal p (m + s) (s + m) (omega arith) ∙ (minus_mod-added p x s positive ∙ none)))

pub times-nothing : (p a b : ℕ) → Same p b 0 → Same p (a * b) 0
times-nothing p a b none = same-scaled p a b 0 none ∙ same-equal p (a * 0) 0 (omega arith)

pub nothing-times : (p a b : ℕ) → Same p a 0 → Same p (a * b) 0
nothing-times p a b none = same-mul p a 0 b b none refl ∙ same-equal p (0 * b) 0 (omega arith)

pub equal-below : (p a b : ℕ) → Same p a b → a < p → b < p → a ≡ b
equal-below p a b same a_below b_below = sym (mod-eq_of_lt a_below) ∙ same ∙ mod-eq_of_lt b_below

-- signs
pub sign-parity : (p a b : ℕ) → a % 2 ≡ b % 2 → sign_of_power p a ≡ sign_of_power p b
sign-parity p a b same = same_parity p a b same

pub sign-sum : (p a b : ℕ) → 0 < p → Same p (sign_of_power p a * sign_of_power p b) (sign_of_power p (a + b))
sign-sum p a b positive = signs-product p a b positive

pub sign-squared : (p a : ℕ) → 0 < p → Same p (sign_of_power p a * sign_of_power p a) 1
sign-squared p a positive =
    sign-sum p a a positive ∙ same-equal p (sign_of_power p (a + a)) 1 (sign-parity p (a + a) 0 (omega arith))

-- a number whose square is 1 is its own inverse
pub inverse-sign : (p n : ℕ) → HasInverses p → Same p (n * n) 1 → Same p (inverse p (n % p)) n
inverse-sign p n field square =
    let m = n % p in
    let inv = inverse p m in
    let low : Same p m n = mod-mod n p in
    let one : Same p (m * m) 1 = same-mul p m n m n low low ∙ square in
    let inverts : Same p (m * inv) 1 = same-inverse p m field
    (λ none. zero_or_one field.above_one (sym (times-nothing p m m none) ∙ one)) in
    same-equal p inv (1 * inv) (omega arith)
    ∙ same-mul p 1 (m * m) inv inv (sym one) refl
    ∙ same-equal p (m * m * inv) (m * (m * inv)) (omega arith)
    ∙ same-scaled p m (m * inv) 1 inverts
    ∙ same-equal p (m * 1) m (omega arith)
    ∙ low
  where
    zero_or_one : 1 < p → Same p 0 1 → ⊥
    zero_or_one above same =
        let no : 0 ≡ 1 = equal-below p 0 1 same (omega arith) (omega arith) in
        omega (arith, no)

-- what is taken off by a way of three signs, of which the middle one is the pivot's
pub way-sign : (p a b c : ℕ) → HasInverses p
    → Same p ((p - 1) * (sign_of_power p a * (inverse p (sign_of_power p b % p) * sign_of_power p c))) (sign_of_power p (1 + (a + (b + c))))
way-sign p a b c field =
    let positive : 0 < p = omega (arith, field.above_one) in
    let x = sign_of_power p a in
    let y = sign_of_power p b in
    let z = sign_of_power p c in
    let inv = inverse p (y % p) in
    same-scaled p (p - 1) (x * (inv * z)) (sign_of_power p (a + (b + c)))
    (same-scaled p x (inv * z) (sign_of_power p (b + c))
    (same-mul p inv y z z (inverse-sign p y field (sign-squared p b positive)) refl ∙ sign-sum p b c positive)
    ∙ sign-sum p a (b + c) positive)
    ∙ sign-sum p 1 (a + (b + c)) positive
