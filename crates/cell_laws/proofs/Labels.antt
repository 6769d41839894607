-- Labels as numbers, whose bits stand at the places of names in their list; and the label that a label is for the same names in another
-- list.
use Rattle.std.proofs.Common.{◌≡◌, ℕ, suc, ◌+◌, ◌*◌, ◌^◌, ◌<◌, ◌≤◌, ◌∙◌, List, [], ◌∷◌, ◌++◌, length, get_or, map, sym, ap, arith, refl, ◌&&◌}
use Rattle.std.specs.Prelude.{nat_eq}
use Rattle.std.specs.List.{position_or_len, sum_by, list_all}
use Rattle.std.proofs.lemmas.List.{get_or_default, get_or-map, length-map}
use Rattle.std.proofs.lemmas.Nat.Bits.{same_from_bits_below}
use Rattle.kh_types.specs.Bits.{bit, ones}
use Rattle.kh_types.proofs.ListSums.{sum_by-places, sum_by-range_alike}
use Rattle.square_laws.proofs.LabelNumbers.{bit-number_from, number_from, number_from-below}
use Rattle.cell_laws.specs.Alike.{HasNoDoubles}
use Rattle.cell_laws.proofs.Places.{numbers-test, place-at, place-found}
use Rattle.cell_laws.proofs.SameElements.{AreSame}
use Rattle.std.proofs.lemmas.Bool.Decides.{nat_tests}
use Rattle.kh_types.proofs.QuantumDegrees.{bit-le}

abbrev pub place : ℕ → List ℕ → ℕ
place z xs = position_or_len (nat_eq z) xs

-- the bit of a name, and a label of some names as one of others
abbrev pub mark : List ℕ → ℕ → ℕ → ℕ
mark xs label z = bit label (place z xs)

abbrev pub relabelled : List ℕ → List ℕ → ℕ → ℕ
relabelled xs ys label = number_from (map (mark xs label) ys)

-- numbers by the values of a function, all 0 or 1
bits-of : (f : ℕ → ℕ) (ys : List ℕ) → ((z : ℕ) → f z ≤ 1) → (i : ℕ) → i < length (map f ys) → get_or (map f ys) i 0 ≤ 1
bits-of f ys small i below =
    let within : i < length ys = omega (arith, below, length-map ys f) in
    omega (arith, get_or-map f ys i 0 0 within, small (get_or ys i 0))

pub number-below : (f : ℕ → ℕ) (ys : List ℕ) → ((z : ℕ) → f z ≤ 1) → number_from (map f ys) < 2 ^ length ys
number-below f ys small = grind (arith, nat_tests, number_from, length-map, number_from-below, bits-of)

pub bit-number : (f : ℕ → ℕ) (ys : List ℕ) (i : ℕ) → ((z : ℕ) → f z ≤ 1) → i < length ys
    → bit (number_from (map f ys)) i ≡ f (get_or ys i 0)
bit-number f ys i small below = grind (arith, nat_tests, bit-number_from, bits-of, length-map, get_or-map)

pub relabelled-back : (xs ys : List ℕ) (label : ℕ) → AreSame xs ys → label < 2 ^ length xs
    → relabelled ys xs (relabelled xs ys label) ≡ label
relabelled-back xs ys label same below =
    let there = relabelled xs ys label in
    same_from_bits_below (length xs) (relabelled ys xs there) label
    (number-below (mark ys there) xs (λ z. bit-le there (place z ys))) below
    (λ i within.
    let z = get_or xs i 0 in
    let found = place-found nat_eq 0 z ys numbers-test (same.there z (i, within, get_or_default xs i z 0 within)) in
    bit-number (mark ys there) xs i (λ y. bit-le there (place y ys)) within
    ∙ bit-number (mark xs label) ys (place z ys) (λ y. bit-le label (place y xs)) found.within
    ∙ ap (mark xs label) found.there
    ∙ ap (bit label) (place-at nat_eq 0 xs i numbers-test same.first_once within))

-- the ones of a number from bits, and of a label
pub ones-map : (f : ℕ → ℕ) (ys : List ℕ) → ((z : ℕ) → f z ≤ 1) → ones (length ys) (number_from (map f ys)) ≡ sum_by f ys
ones-map f ys small =
    sum_by-range_alike (bit (number_from (map f ys))) (λ i. f (get_or ys i 0)) 0 (length ys)
    (λ i from below. bit-number f ys i small (omega (arith, below)))
    ∙ sym (sum_by-places f ys 0)

pub ones-marks : (xs : List ℕ) (label : ℕ) → HasNoDoubles xs → ones (length xs) label ≡ sum_by (mark xs label) xs
ones-marks xs label once =
    sum_by-range_alike (bit label) (λ i. mark xs label (get_or xs i 0)) 0 (length xs)
    (λ i from below. ap (bit label) (sym (place-at nat_eq 0 xs i numbers-test once (omega (arith, below)))))
    ∙ sym (sum_by-places (mark xs label) xs 0)

-- bits of two lists
pub number-append : (cs bs : List ℕ) → number_from (cs ++ bs) ≡ number_from cs + 2 ^ length cs * number_from bs
number-append [] bs = omega arith
number-append (a ∷ cs) bs =
    let power : 2 ^ suc (length cs) ≡ 2 * 2 ^ length cs = omega arith in
    ap (λ n. a + 2 * n) (number-append cs bs) ∙ spread a (number_from cs) (2 ^ length cs) (number_from bs)
    ∙ ap (λ q. a + 2 * number_from cs + q * number_from bs) (sym power)
  where
    spread : (a m q n : ℕ) → a + 2 * (m + q * n) ≡ a + 2 * m + 2 * q * n
    spread a m q n = omega arith

-- numbers of bits are the same where their bits are
pub bits-same : (f g : ℕ → ℕ) (xs : List ℕ) → ((x : ℕ) → f x ≤ 1) → ((x : ℕ) → g x ≤ 1)
    → nat_eq (number_from (map f xs)) (number_from (map g xs)) ≡ list_all (λ x. nat_eq (f x) (g x)) xs
bits-same f g [] f_small g_small = refl
bits-same f g (x ∷ xs) f_small g_small =
    one (f x) (g x) (number_from (map f xs)) (number_from (map g xs)) (f_small x) (g_small x)
    ∙ ap (λ b. nat_eq (f x) (g x) && b) (bits-same f g xs f_small g_small)
  where
    one : (a b m n : ℕ) → a ≤ 1 → b ≤ 1 → nat_eq (a + 2 * m) (b + 2 * n) ≡ (nat_eq a b && nat_eq m n)
    one a b m n a_small b_small = grind (arith, nat_tests, a_small, b_small)
