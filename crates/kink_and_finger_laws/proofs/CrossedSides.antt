-- A function of darts with the values at the ends of two sides exchanged.
use Rattle.std.proofs.Common.{◌≡◌, ◌≢◌, ℕ, ◌⊎◌, ◌<◌, ◌∙◌, sym, ap, arith, refl, true, cond, eq-eqb}
use Rattle.std.specs.Prelude.{nat_eq}
use Rattle.std.proofs.lemmas.Bool.Decides.{nat_tests}
use Rattle.std.proofs.lemmas.Bool.{ne_eqb}
use Rattle.kh_types.specs.Darts.{IsPairing}

-- a function with the values at two places exchanged

abbrev pub exchanged : {X : Type 0} → (ℕ → X) → ℕ → ℕ → ℕ → X
exchanged g a b x = cond (nat_eq x a) (g b) (cond (nat_eq x b) (g a) (g x))

pub eq_self : (x : ℕ) → nat_eq x x ≡ true
eq_self x = eq-eqb x x refl

pub exchanged-first : {X : Type 0} (g : ℕ → X) (a b : ℕ) → exchanged g a b a ≡ g b
exchanged-first g a b = ap (λ t. cond t (g b) (cond (nat_eq a b) (g a) (g a))) (eq_self a)

pub exchanged-second : {X : Type 0} (g : ℕ → X) (a b : ℕ) → a ≢ b → exchanged g a b b ≡ g a
exchanged-second g a b apart = grind (arith, nat_tests, ne_eqb b a (λ same. apart (sym same)), eq_self b)

pub exchanged-else : {X : Type 0} (g : ℕ → X) (a b x : ℕ) → x ≢ a → x ≢ b → exchanged g a b x ≡ g x
exchanged-else g a b x not_a not_b = grind (arith, nat_tests, ne_eqb x a not_a, ne_eqb x b not_b)

-- four darts, a and b of one crossing and c and d of another; a and d are partners, and so are b and c
pub record AreSides (m : ℕ) (partner : ℕ → ℕ) (a b c d : ℕ) : Type 0 where
  pub a_below : a < m
  pub c_below : c < m
  pub b_below : b < m
  pub d_below : d < m
  pub first : partner a ≡ d
  pub second : partner c ≡ b
  pub a_b : a ≢ b
  pub a_c : a ≢ c
  pub a_d : a ≢ d
  pub b_c : b ≢ c
  pub b_d : b ≢ d
  pub c_d : c ≢ d

-- the values at the ends of both sides exchanged
abbrev pub crossed : {X : Type 0} → (ℕ → X) → ℕ → ℕ → ℕ → ℕ → ℕ → X
crossed g a b c d = exchanged (exchanged g a b) c d

pub crossed-a : {X : Type 0} (g : ℕ → X) (m : ℕ) (partner : ℕ → ℕ) (a b c d : ℕ) → AreSides m partner a b c d → crossed g a b c d a ≡ g b
crossed-a g m partner a b c d are = exchanged-else (exchanged g a b) c d a are.a_c are.a_d ∙ exchanged-first g a b

pub crossed-b : {X : Type 0} (g : ℕ → X) (m : ℕ) (partner : ℕ → ℕ) (a b c d : ℕ) → AreSides m partner a b c d → crossed g a b c d b ≡ g a
crossed-b g m partner a b c d are = exchanged-else (exchanged g a b) c d b are.b_c are.b_d ∙ exchanged-second g a b are.a_b

pub crossed-c : {X : Type 0} (g : ℕ → X) (m : ℕ) (partner : ℕ → ℕ) (a b c d : ℕ) → AreSides m partner a b c d → crossed g a b c d c ≡ g d
crossed-c g m partner a b c d are = grind (arith, nat_tests)

pub crossed-d : {X : Type 0} (g : ℕ → X) (m : ℕ) (partner : ℕ → ℕ) (a b c d : ℕ) → AreSides m partner a b c d → crossed g a b c d d ≡ g c
crossed-d g m partner a b c d are = grind (arith, nat_tests)

pub crossed-else : {X : Type 0} (g : ℕ → X) (a b c d x : ℕ) → x ≢ a → x ≢ b → x ≢ c → x ≢ d → crossed g a b c d x ≡ g x
crossed-else g a b c d x not_a not_b not_c not_d = exchanged-else (exchanged g a b) c d x not_c not_d ∙ exchanged-else g a b x not_a not_b

side_cases : (a b c d x : ℕ) → (x ≡ a) ⊎ ((x ≡ b) ⊎ ((x ≡ c) ⊎ ((x ≡ d) ⊎ ((x ≢ a) × (x ≢ b) × (x ≢ c) × (x ≢ d)))))
side_cases a b c d x = grind arith

-- what partners have in a way that turn says, they have also with the values at the sides exchanged
pub crossed-partner : {X : Type 0} (g : ℕ → X) (turn : X → X) (m : ℕ) (partner : ℕ → ℕ) (a b c d : ℕ) → IsPairing m partner
    → AreSides m partner a b c d → ((x : ℕ) → x < m → g (partner x) ≡ turn (g x)) → (x : ℕ) → x < m
    → crossed g a b c d (partner x) ≡ turn (crossed g a b c d x)
crossed-partner {X} g turn m partner a b c d pairing are holds x below =
    grind (arith, nat_tests, side_cases, crossed-d, crossed-a, crossed-c, crossed-b, crossed-else)
