-- Sums and products modulo p.
use Rattle.std.proofs.lemmas.Bool.Decides.{nat_tests}
use Rattle.std.proofs.Common.{◌≡◌, ℕ, zero, suc, ◌+◌, ◌-◌, ◌*◌, ◌%◌, ◌<◌, ◌∙◌, refl, ap, sym, arith}
use Rattle.std.proofs.Math.Nat.{add-mod-mod, mod-add-mod, add-mul-mod_self_left}
use Rattle.std.proofs.lemmas.Nat.{mul-mod}
use Rattle.kh_types.specs.Rank.{inverse}
use Rattle.kh_types.specs.Residues.{HasInverses, Same}

pub same-equal : (p x y : ℕ) → x ≡ y → Same p x y
same-equal p x y equal = ap (λ z. z % p) equal

pub same-add : (p a b c d : ℕ) → Same p a b → Same p c d → Same p (a + c) (b + d)
same-add p a b c d first second =
    sym (add-mod-mod a c p) ∙ sym (mod-add-mod a p (c % p)) ∙ ap (λ z. (z + c % p) % p) first
    ∙ ap (λ z. (b % p + z) % p) second ∙ mod-add-mod b p (d % p) ∙ add-mod-mod b d p

pub same-mul : (p a b c d : ℕ) → Same p a b → Same p c d → Same p (a * c) (b * d)
same-mul p a b c d first second = grind (arith, nat_tests, mul-mod)

-- a factor that is multiplied by the same
pub same-scaled : (p c a b : ℕ) → Same p a b → Same p (c * a) (c * b)
same-scaled p c a b same = same-mul p c c a b refl same

-- multiples of p may be added
pub same-multiple : (p a b : ℕ) → Same p (a + p * b) a
same-multiple p a b = add-mul-mod_self_left a p b

-- a summand may be taken away from both sides
pub same-cancel : (p a b c : ℕ) → 0 < p → Same p (a + c) (b + c) → Same p a b
same-cancel p a b c positive same =
    let minus = (p - 1) * c in
    let full : (x : ℕ) → x + c + minus ≡ x + p * c =
    λ x. let e : c + minus ≡ p * c = whole p c positive in omega arith in
    sym (same-multiple p a c) ∙ ap (λ z. z % p) (sym (full a)) ∙ same-add p (a + c) (b + c) minus minus same refl
    ∙ ap (λ z. z % p) (full b) ∙ same-multiple p b c
  where
    whole : (p c : ℕ) → 0 < p → c + (p - 1) * c ≡ p * c
    whole zero c positive = absurd (omega arith)
    whole (suc q) c positive = let e : suc q - 1 ≡ q = omega arith in rw e (omega arith)

-- minus b is a, where a + b is 0
pub same-minus : (p a b : ℕ) → 0 < p → Same p (a + b) 0 → Same p ((p - 1) * b) a
same-minus p a b positive same =
    same-cancel p ((p - 1) * b) a b positive
    (ap (λ z. z % p) (whole p b positive) ∙ same-multiple p 0 b ∙ sym same)
  where
    whole : (p c : ℕ) → 0 < p → (p - 1) * c + c ≡ 0 + p * c
    whole zero c positive = absurd (omega arith)
    whole (suc q) c positive = let e : suc q - 1 ≡ q = omega arith in rw e (omega arith)

-- a summand that is 0 may be left out
pub same-rest : (p a b c : ℕ) → Same p a 0 → Same p (a + b) c → Same p b c
same-rest p a b c is_zero sum =
    let e : b ≡ 0 + b = omega arith in
    ap (λ z. z % p) e ∙ same-add p 0 a b b (sym is_zero) refl ∙ sum

-- a number and its inverse are left out of a product
pub same-unit_left : (p x y z : ℕ) → Same p (x * y) 1 → Same p (x * (y * z)) z
same-unit_left p x y z inverts =
    same-equal p (x * (y * z)) (x * y * z) (omega arith) ∙ same-mul p (x * y) 1 z z inverts refl
    ∙ same-equal p (1 * z) z (omega arith)

pub same-unit_right : (p x y z : ℕ) → Same p (x * y) 1 → Same p (z * (y * x)) z
same-unit_right p x y z inverts =
    same-equal p (z * (y * x)) (z * (x * y)) (omega arith) ∙ same-scaled p z (x * y) 1 inverts
    ∙ same-equal p (z * 1) z (omega arith)

-- what is not 0 modulo p times its inverse is 1
pub same-inverse : (p x : ℕ) → HasInverses p → ¬ Same p x 0 → Same p (x * inverse p x) 1
same-inverse p x field other = grind (arith, nat_tests)
