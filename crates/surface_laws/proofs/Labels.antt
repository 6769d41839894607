-- The discs on both sides of some circles, by the label of the first circle and those of the others.
use Rattle.std.proofs.Common.{◌≡◌, ℕ, zero, suc, ◌+◌, ◌-◌, ◌*◌, ◌/◌, ◌%◌, ◌^◌, ◌∙◌, List, [], ◌∷◌, map, refl, sym, ap, ap₂, arith}
use Rattle.std.specs.List.{flat_map, enumerate_from}
use Rattle.std.proofs.lemmas.Nat.{shr-shr}
use Rattle.kh_types.specs.Bits.{bit}
use Rattle.kh_types.specs.Products.{sum_below}
use Rattle.kh_types.proofs.Sums.{sum_below-equal}
use Rattle.surface_laws.specs.Cuts.{caps_at, caps}
use Rattle.surface_laws.proofs.OneCut.{place_of_face}

-- a sum over twice as many numbers, two by two
pub sum_below-twice : (m : ℕ) (f : ℕ → ℕ) → sum_below (2 * m) f ≡ sum_below m (λ k. f (2 * k) + f (2 * k + 1))
sum_below-twice zero f = refl
sum_below-twice (suc m) f =
    let e : 2 * suc m ≡ suc (suc (2 * m)) = omega arith in
    ap (λ n. sum_below n f) e
    ∙ ap (λ z. f 0 + (f 1 + z)) (sum_below-twice m (λ k. f (suc (suc k))) ∙ later m)
    ∙ turned (f 0) (f 1) (sum_below m (λ k. f (2 * suc k) + f (2 * suc k + 1)))
  where
    turned : (x y z : ℕ) → x + (y + z) ≡ x + y + z
    turned x y z = omega arith

    two : (k : ℕ) → suc (suc (2 * k)) ≡ 2 * suc k
    two k = omega arith

    three : (k : ℕ) → suc (suc (2 * k + 1)) ≡ 2 * suc k + 1
    three k = omega arith

    later : (n : ℕ) → sum_below n (λ k. f (suc (suc (2 * k))) + f (suc (suc (2 * k + 1))))
        ≡ sum_below n (λ k. f (2 * suc k) + f (2 * suc k + 1))
    later n = sum_below-equal n (λ k. f (suc (suc (2 * k))) + f (suc (suc (2 * k + 1))))
        (λ k. f (2 * suc k) + f (2 * suc k + 1)) (λ k. ap₂ (λ x y. f x + f y) (two k) (three k))

-- the bits of a number but for the first are those of its half
pub bit-next : (label k : ℕ) → bit label (k + 1) ≡ bit (label / 2) k
bit-next label k =
    let e : k + 1 ≡ 1 + k = omega arith in
    ap (λ j. label / 2 ^ j % 2) e ∙ ap (λ q. q % 2) (sym (shr-shr label 1 k))

caps-later : (circles : List (ℕ × ℕ)) (label k : ℕ)
    → flat_map (caps_at label) (enumerate_from (k + 1) circles) ≡ flat_map (caps_at (label / 2)) (enumerate_from k circles)
caps-later [] label k = refl
caps-later (circle ∷ circles) label k =
    ap₂ (λ (b : ℕ) (rest : List (ℕ × ℕ)). (circle.0, b) ∷ (circle.1, 2 * (1 - b)) ∷ rest) (bit-next label k)
    (caps-later circles label (k + 1))

bit-even : (l : ℕ) → bit (2 * l) 0 ≡ 0
bit-even l = omega arith

bit-odd : (l : ℕ) → bit (2 * l + 1) 0 ≡ 1
bit-odd l = omega arith

half-even : (l : ℕ) → 2 * l / 2 ≡ l
half-even l = omega arith

half-odd : (l : ℕ) → (2 * l + 1) / 2 ≡ l
half-odd l = omega arith

pub caps-even : (circle : ℕ × ℕ) (circles : List (ℕ × ℕ)) (label : ℕ)
    → caps (circle ∷ circles) (2 * label) ≡ (circle.0, 0) ∷ (circle.1, 2) ∷ caps circles label
caps-even circle circles label =
    ap₂ (λ (b : ℕ) (rest : List (ℕ × ℕ)). (circle.0, b) ∷ (circle.1, 2 * (1 - b)) ∷ rest) (bit-even label)
    (caps-later circles (2 * label) 0 ∙ ap (λ l. caps circles l) (half-even label))

pub caps-odd : (circle : ℕ × ℕ) (circles : List (ℕ × ℕ)) (label : ℕ)
    → caps (circle ∷ circles) (2 * label + 1) ≡ (circle.0, 1) ∷ (circle.1, 0) ∷ caps circles label
caps-odd circle circles label =
    ap₂ (λ (b : ℕ) (rest : List (ℕ × ℕ)). (circle.0, b) ∷ (circle.1, 2 * (1 - b)) ∷ rest) (bit-odd label)
    (caps-later circles (2 * label + 1) 0 ∙ ap (λ l. caps circles l) (half-odd label))

-- the places of the discs do not depend on the labels
places-from : (circles : List (ℕ × ℕ)) (k label other : ℕ)
    → map place_of_face (flat_map (caps_at label) (enumerate_from k circles))
    ≡ map place_of_face (flat_map (caps_at other) (enumerate_from k circles))
places-from [] k label other = refl
places-from (circle ∷ circles) k label other =
    ap (λ (rest : List ℕ). circle.0 ∷ circle.1 ∷ rest) (places-from circles (k + 1) label other)

pub places-caps : (circles : List (ℕ × ℕ)) (label other : ℕ)
    → map place_of_face (caps circles label) ≡ map place_of_face (caps circles other)
places-caps circles label other = places-from circles 0 label other
