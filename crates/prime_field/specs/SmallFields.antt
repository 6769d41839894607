-- The numbers modulo 2, 3, 5 and 7 are fields (any textbook of algebra). The lemmas stand here, since the laws of the four
-- implementations cite them.
use Rattle.std.proofs.Common.{◌≡◌, ℕ, zero, suc, ◌+◌, ◌-◌, ◌*◌, ◌%◌, ◌<◌, ◌≢◌, ◌∙◌, inl, inr, refl, ap, sym, subst, arith}
use Rattle.std.proofs.Math.Nat.{mod_self, mod-eq_of_lt, add-mod-mod, mod-add-mod}
use Rattle.std.proofs.lemmas.Nat.{pow-mod, mod_below, mul-mod_first, mul-mod_second}
use Rattle.std.proofs.Props.{props}
use Rattle.prime_field.specs.Residues.{sum_mod, negative_mod, product_mod, inverse_mod, IsSmallPrime, IsField}

-- the numbers below p other than 0 have inverses
abbrev ResiduesInvert : ℕ → Type 0
ResiduesInvert p = (r : ℕ) → r < p → r ≢ 0 → product_mod p r (inverse_mod p r) ≡ 1

sum_mod-associated : (p x y z : ℕ) → sum_mod p (sum_mod p x y) z ≡ sum_mod p x (sum_mod p y z)
sum_mod-associated p x y z =
    let same : x + y + z ≡ x + (y + z) = omega arith in
    mod-add-mod (x + y) p z ∙ ap (λ n. n % p) same ∙ sym (add-mod-mod x (y + z) p)

sum_mod-negative : (p x : ℕ) → 0 < p → sum_mod p x (negative_mod p x) ≡ 0
sum_mod-negative p x positive =
    let whole : x % p + (p - x % p) ≡ p = omega (arith, mod_below x p positive) in
    add-mod-mod x (p - x % p) p ∙ sym (mod-add-mod x p (p - x % p)) ∙ ap (λ n. n % p) whole ∙ mod_self p

product_mod-associated : (p x y z : ℕ) → product_mod p (product_mod p x y) z ≡ product_mod p x (product_mod p y z)
product_mod-associated p x y z =
    let same : x * y * z ≡ x * (y * z) = omega arith in
    mul-mod_first (x * y) z p ∙ ap (λ n. n % p) same ∙ sym (mul-mod_second x (y * z) p)

product_mod-distributed : (p x y z : ℕ)
    → product_mod p x (sum_mod p y z) ≡ sum_mod p (product_mod p x y) (product_mod p x z)
product_mod-distributed p x y z =
    let same : x * (y + z) ≡ x * y + x * z = omega arith in
    mul-mod_second x (y + z) p ∙ ap (λ n. n % p) same ∙ sym (mod-add-mod (x * y) p (x * z))
    ∙ sym (add-mod-mod (x * y % p) (x * z) p)

product_mod-inverse : (p x : ℕ) → 0 < p → ResiduesInvert p → x % p ≢ 0 → product_mod p x (inverse_mod p x) ≡ 1
product_mod-inverse p x positive residues other =
    sym (mul-mod_first x (inverse_mod p x) p) ∙ ap (λ power. x % p * power % p) (sym (pow-mod x (p - 2) p))
    ∙ residues (x % p) (mod_below x p positive) other

field-from_residues : (p : ℕ) → 1 < p → ResiduesInvert p → IsField p
field-from_residues p above residues =
    record {
      above_one = above;
      sums_associate = sum_mod-associated p;
      sums_commute = λ x y. let same : x + y ≡ y + x = omega arith in ap (λ n. n % p) same;
      zero_adds_nothing = λ x below. let same : x + 0 ≡ x = omega arith in ap (λ n. n % p) same ∙ mod-eq_of_lt below;
      negatives_cancel = λ x. sum_mod-negative p x (omega arith);
      products_associate = product_mod-associated p;
      products_commute = λ x y. let same : x * y ≡ y * x = omega arith in ap (λ n. n % p) same;
      one_changes_nothing = λ x below. let same : x * 1 ≡ x = omega arith in ap (λ n. n % p) same ∙ mod-eq_of_lt below;
      products_distribute = product_mod-distributed p;
      inverses_cancel = λ x. product_mod-inverse p x (omega arith) residues;
    }

residues-2 : ResiduesInvert 2
residues-2 zero below other = absurd (other refl)
residues-2 (suc zero) below other = refl
residues-2 (suc (suc r)) below other = absurd (omega arith)

residues-3 : ResiduesInvert 3
residues-3 zero below other = absurd (other refl)
residues-3 (suc zero) below other = refl
residues-3 (suc (suc zero)) below other = refl
residues-3 (suc (suc (suc r))) below other = absurd (omega arith)

residues-5 : ResiduesInvert 5
residues-5 zero below other = absurd (other refl)
residues-5 (suc zero) below other = refl
residues-5 (suc (suc zero)) below other = refl
residues-5 (suc (suc (suc zero))) below other = refl
residues-5 (suc (suc (suc (suc zero)))) below other = refl
residues-5 (suc (suc (suc (suc (suc r))))) below other = absurd (omega arith)

residues-7 : ResiduesInvert 7
residues-7 zero below other = absurd (other refl)
residues-7 (suc zero) below other = refl
residues-7 (suc (suc zero)) below other = refl
residues-7 (suc (suc (suc zero))) below other = refl
residues-7 (suc (suc (suc (suc zero)))) below other = refl
residues-7 (suc (suc (suc (suc (suc zero))))) below other = refl
residues-7 (suc (suc (suc (suc (suc (suc zero)))))) below other = refl
residues-7 (suc (suc (suc (suc (suc (suc (suc r))))))) below other = absurd (omega arith)

pub field-two : IsField 2
field-two = field-from_residues 2 (omega arith) residues-2

pub field-three : IsField 3
field-three = field-from_residues 3 (omega arith) residues-3

pub field-five : IsField 5
field-five = field-from_residues 5 (omega arith) residues-5

pub field-seven : IsField 7
field-seven = field-from_residues 7 (omega arith) residues-7

-- so are the numbers modulo each small prime
pub field-small_prime : (p : ℕ) → IsSmallPrime p → IsField p
field-small_prime p (inl two) = subst IsField (sym two) field-two
field-small_prime p (inr (inl three)) = subst IsField (sym three) field-three
field-small_prime p (inr (inr (inl five))) = subst IsField (sym five) field-five
field-small_prime p (inr (inr (inr seven))) = subst IsField (sym seven) field-seven

-- what is made of a number below a limit is determined by the number
pub residue-same : {X : Type 0} (limit : ℕ) (made : (n : ℕ) → n < limit → X) (x y : ℕ) (x_below : x < limit) (y_below : y < limit)
    → x ≡ y → made x x_below ≡ made y y_below
residue-same {X} limit made x y x_below y_below alike =
    let P : ℕ → Type 0 = λ n. (below : n < limit) → made x x_below ≡ made n below in
    subst P alike (λ below. ap (made x) (let once : IsProp (x < limit) = hlevel props in once x_below below)) y_below
