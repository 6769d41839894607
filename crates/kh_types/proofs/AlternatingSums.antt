-- Sums over the degrees from -n to n with alternating signs.
use Rattle.std.proofs.Common.{◌≡◌, ℕ, zero, suc, ◌+◌, ◌*◌, ◌%◌, ◌∙◌, ◌⊎◌, List, [], ◌∷◌, ℤ, pos, neg_ℤ, ◌+ℤ◌, ◌-ℤ◌, sym, map, ap, ap₂, arith, Bool, true, false, cond}
use Rattle.std.specs.Prelude.{nat_eq}
use Rattle.std.specs.List.{sum_by, range_with_len}
use Rattle.std.proofs.lemmas.Bool.Decides.{nat_tests}
use Rattle.std.proofs.lemmas.Int.{ints}
use Rattle.std.proofs.lemmas.List.Sums.{sum_by-cons}
use Rattle.std.proofs.Math.Path.{fun_ext}
use Rattle.kh_types.specs.StateSum.{int_sum, signed_by, signed_by_parity}
use Rattle.kh_types.specs.Table.{from_minus}
use Rattle.kh_types.proofs.Ranges.{map_from_zero}
use Rattle.kh_types.proofs.IntSums.{int_sum-append, int_sum-alike, int_sum-add, int_sum-zeros, int_sum-map}

-- the sum of a number for each degree from -n to n, with the sign -1 to the degree
abbrev pub alternating : ℕ → (ℤ → ℕ) → ℤ
alternating n numbers = int_sum (map (λ i. signed_by i (numbers i)) (from_minus n))

-- signs

abbrev sign_of : Bool → ℕ → ℤ
sign_of even x = cond even (pos x) (neg_ℤ (pos x))

pub signed_by-add : (i : ℤ) (x y : ℕ) → signed_by i (x + y) ≡ signed_by i x +ℤ signed_by i y
signed_by-add i x y = grind (arith, nat_tests)

pub signed_by-zero : (i : ℤ) → signed_by i 0 ≡ pos 0
signed_by-zero i = grind (arith, nat_tests)

-- neighbouring degrees have opposite signs

parity-next : (k : ℕ)
    → ((nat_eq (k % 2) 0 ≡ true) × (nat_eq (suc k % 2) 0 ≡ false)) ⊎ ((nat_eq (k % 2) 0 ≡ false) × (nat_eq (suc k % 2) 0 ≡ true))
parity-next k = grind (arith, nat_tests)

pub signed_by-next : (i j : ℤ) (x : ℕ) → i +ℤ pos 1 ≡ j → signed_by i x +ℤ signed_by j x ≡ pos 0
signed_by-next i j x next = grind (arith, nat_tests)

-- numbers of one parity have one sign, and a difference has that of the sum

pub signed_by-less : (degree : ℤ) (a b size : ℕ) → degree ≡ pos a -ℤ pos b → signed_by degree size ≡ signed_by_parity (a + b) size
signed_by-less degree a b size is = grind (arith, nat_tests)

-- alternating sums

pub alternating-alike : (n : ℕ) (f g : ℤ → ℕ) → ((i : ℤ) → f i ≡ g i) → alternating n f ≡ alternating n g
alternating-alike n f g same = ap (λ (h : ℤ → ℕ). alternating n h) (fun_ext same)

pub alternating-add : (n : ℕ) (f g : ℤ → ℕ) → alternating n (λ i. f i + g i) ≡ alternating n f +ℤ alternating n g
alternating-add n f g =
    int_sum-alike (λ i. signed_by i (f i + g i)) (λ i. signed_by i (f i) +ℤ signed_by i (g i)) (λ i. signed_by-add i (f i) (g i))
    (from_minus n)
    ∙ int_sum-add (λ i. signed_by i (f i)) (λ i. signed_by i (g i)) (from_minus n)

alternating-zero : (n : ℕ) → alternating n (λ i. 0) ≡ pos 0
alternating-zero n = int_sum-alike (λ i. signed_by i 0) (λ i. pos 0) signed_by-zero (from_minus n) ∙ int_sum-zeros (from_minus n)

-- of sums over some elements it is the sum of their alternating sums
pub alternating-sum : {X : Type 0} (n : ℕ) (f : X → ℤ → ℕ) (xs : List X)
    → alternating n (λ i. sum_by (λ x. f x i) xs) ≡ int_sum (map (λ x. alternating n (f x)) xs)
alternating-sum n f [] = alternating-zero n
alternating-sum n f (x ∷ xs) =
    alternating-alike n (λ i. sum_by (λ y. f y i) (x ∷ xs)) (λ i. f x i + sum_by (λ y. f y i) xs) (λ i. sum_by-cons (λ y. f y i) x xs)
    ∙ alternating-add n (f x) (λ i. sum_by (λ y. f y i) xs) ∙ ap (λ (s : ℤ). alternating n (f x) +ℤ s) (alternating-sum n f xs)

-- a value at each degree with the value one below leaves the last value, where the first is 0
telescope : (g : ℤ → ℕ) (n m : ℕ) → g (pos 0 -ℤ pos (n + 1)) ≡ 0
    → int_sum (map (λ k. signed_by (pos k -ℤ pos n) (g (pos k -ℤ pos n) + g (pos k -ℤ pos n -ℤ pos 1))) (range_with_len 0 m))
    ≡ signed_by (pos m -ℤ pos (n + 1)) (g (pos m -ℤ pos (n + 1)))
telescope g n zero first = sym (ap (λ (x : ℕ). signed_by (pos 0 -ℤ pos (n + 1)) x) first ∙ signed_by-zero (pos 0 -ℤ pos (n + 1)))
telescope g n (suc m) first =
    let term : ℕ → ℤ = λ k. signed_by (pos k -ℤ pos n) (g (pos k -ℤ pos n) + g (pos k -ℤ pos n -ℤ pos 1)) in
    let here = pos m -ℤ pos n in
    let before = pos m -ℤ pos (n + 1) in
    let more : suc m ≡ m + 1 = omega arith in
    let is_before : here -ℤ pos 1 ≡ before = omega (arith, ints) in
    let is_here : before +ℤ pos 1 ≡ here = omega (arith, ints) in
    let is_last : here ≡ pos (suc m) -ℤ pos (n + 1) = omega (arith, ints) in
    let added : term m ≡ signed_by here (g here) +ℤ signed_by here (g before) =
    ap (λ (i : ℤ). signed_by here (g here + g i)) is_before ∙ signed_by-add here (g here) (g before) in
    let alone : int_sum (term m ∷ []) ≡ term m = omega (arith, ints) in
    ap (λ (k : ℕ). int_sum (map term (range_with_len 0 k))) more ∙ ap int_sum (map_from_zero term m)
    ∙ int_sum-append (map term (range_with_len 0 m)) (term m ∷ [])
    ∙ ap₂ (λ (s t : ℤ). s +ℤ t) (telescope g n m first) (alone ∙ added)
    ∙ omega (arith, ints, signed_by-next before here (g before) is_here)
    ∙ ap (λ (i : ℤ). signed_by i (g i)) is_last

pub alternating-neighbours : (n : ℕ) (g : ℤ → ℕ) → g (pos 0 -ℤ pos (n + 1)) ≡ 0 → g (pos n) ≡ 0
    → alternating n (λ i. g i + g (i -ℤ pos 1)) ≡ pos 0
alternating-neighbours n g first last =
    let is_last : pos (2 * n + 1) -ℤ pos (n + 1) ≡ pos n = omega (arith, ints) in
    int_sum-map (λ i. signed_by i (g i + g (i -ℤ pos 1))) (λ k. pos k -ℤ pos n) (range_with_len 0 (2 * n + 1))
    ∙ telescope g n (2 * n + 1) first
    ∙ ap (λ (i : ℤ). signed_by i (g i)) is_last ∙ ap (λ (x : ℕ). signed_by (pos n) x) last ∙ signed_by-zero (pos n)
