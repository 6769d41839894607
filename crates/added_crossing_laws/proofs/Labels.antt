-- Labels as numbers and as functions.
--
-- The circles in their list are apart, so the place of a circle is where it stands: marks by the bits of a number are marks by the function
-- that reads the bit at the place of an arc's circle (`marked-labels`). The other way round, the values of a function of 0 and 1 at some
-- circles are the bits of a number (`marked-number_of`).
use Rattle.std.proofs.Common.{◌≡◌, ◌≢◌, ℕ, zero, suc, ◌+◌, ◌-◌, ◌*◌, ◌/◌, ◌%◌, ◌^◌, ◌<◌, ◌∙◌, List, [], ◌∷◌, map, length, refl, sym, ap, ap₂, subst, arith, Bool, true, false, not, cond, ◌&&◌}
use Rattle.std.specs.Prelude.{nat_eq, slice_index}
use Rattle.std.specs.List.{filter, enumerate_from, position_or_len, range_with_len, Contains}
use Rattle.std.proofs.Math.Nat.{pow-suc, div-div-eq-div-mul}
use Rattle.std.proofs.lemmas.Bool.{eq-eqb, eqb-true, false_from_ne_true}
use Rattle.kh_types.specs.Bits.{bit}
use Rattle.kh_types.specs.Classes.{classes_of, is_least, Respects}
use Rattle.kh_types.proofs.ClassLemmas.{classes-together}
use Rattle.kh_types.proofs.FilteredRanges.{filter-filter}
use Rattle.kh_types.proofs.Lists.{AllByRecursion-weaker, Contains-later}
use Rattle.surface_laws.specs.Points.{AreAmong, least_points}
use Rattle.added_crossing_laws.specs.Pairings.{marked_by}
use Rattle.added_crossing_laws.specs.Steps.{those, pair_with}
use Rattle.added_crossing_laws.specs.Saddles.{opposite}
use Rattle.surface_laws.specs.Sheets.{marked, marked_else}
use Rattle.added_crossing_laws.specs.Labels.{label_at, number_of}
use Rattle.added_crossing_laws.proofs.Members.{filter-kept, range-within}
use Rattle.added_crossing_laws.proofs.Classes.{AreAmong-below}

-- no element comes twice
AreApart : List ℕ → Type 0
AreApart [] = Unit
AreApart (x ∷ xs) = ((y : ℕ) → Contains xs y → y ≢ x) × AreApart xs

apart-cond : (b : Bool) (x : ℕ) (xs : List ℕ) → ((y : ℕ) → Contains xs y → y ≢ x) → AreApart xs → AreApart (cond b (x ∷ xs) xs)
unfolding AreApart
apart-cond true x xs other apart = (other, apart)
apart-cond false x xs other apart = apart

apart-range : (p : ℕ → Bool) (a n : ℕ) → AreApart (filter p (range_with_len a n))
unfolding AreApart
apart-range p a zero = tt
apart-range p a (suc n) =
    apart-cond (p a) a (filter p (range_with_len (a + 1) n))
    (λ y has same.
    let within = range-within (a + 1) n y (filter-kept p (range_with_len (a + 1) n) y has).has in
    omega (arith, within.above, same))
    (apart-range p (a + 1) n)

apart-names : (count : ℕ) (test : ℕ → Bool) (joins : List (ℕ × ℕ)) → AreApart (least_points (count + 1) (those count test) joins)
apart-names count test joins =
    subst AreApart (sym (filter-filter test (is_least (classes_of (count + 1) joins)) (range_with_len 1 count)))
    (apart-range (λ x. test x && is_least (classes_of (count + 1) joins) x) 1 count)

pub map-on : {X : Type 0} (f g : ℕ → X) (xs : List ℕ) → ((x : ℕ) → Contains xs x → f x ≡ g x) → map f xs ≡ map g xs
map-on f g [] alike = refl
map-on {X} f g (x ∷ xs) alike =
    ap₂ (λ (y : X) (ys : List X). y ∷ ys) (alike x (0, omega arith, refl)) (map-on f g xs (λ y has. alike y (Contains-later x y xs has)))

-- what stands at the places of elements, by the elements
abbrev at_place : (ℕ → ℕ) → ℕ × ℕ → ℕ × ℕ
at_place h at = (at.1, h at.0)

abbrev at_element : (ℕ → ℕ) → ℕ → List ℕ → ℕ → ℕ × ℕ
at_element h j xs x = (x, h (j + position_or_len (nat_eq x) xs))

abbrev at_class : (ℕ → ℕ) → List ℕ → List ℕ → ℕ → ℕ × ℕ
at_class h classes xs x = (x, h (position_or_len (nat_eq (slice_index classes x)) xs))

by-places : (h : ℕ → ℕ) (j : ℕ) (xs : List ℕ) → AreApart xs
    → map (at_place h) (enumerate_from j xs) ≡ map (at_element h j xs) xs
unfolding AreApart
by-places h j [] apart = refl
by-places h j (x ∷ xs) apart =
    let first : position_or_len (nat_eq x) (x ∷ xs) ≡ 0 =
    ap (λ b. cond (not b) (1 + position_or_len (nat_eq x) xs) 0) (eq-eqb x x refl) in
    let here : j ≡ j + position_or_len (nat_eq x) (x ∷ xs) = omega (arith, first) in
    ap₂ (λ (y : ℕ × ℕ) (ys : List (ℕ × ℕ)). y ∷ ys) (ap (λ (i : ℕ). pair_with x (h i)) here)
    (by-places h (j + 1) xs apart.1
    ∙ map-on (at_element h (j + 1) xs) (at_element h j (x ∷ xs)) xs
    (λ y has.
    let later : position_or_len (nat_eq y) (x ∷ xs) ≡ 1 + position_or_len (nat_eq y) xs =
    ap (λ b. cond (not b) (1 + position_or_len (nat_eq y) xs) 0)
    (false_from_ne_true (nat_eq y x) (λ same. apart.0 y has (eqb-true y x same))) in
    let place : j + 1 + position_or_len (nat_eq y) xs ≡ j + position_or_len (nat_eq y) (x ∷ xs) = omega (arith, later) in
    ap (λ (i : ℕ). pair_with y (h i)) place))

names-own : (count : ℕ) (test : ℕ → Bool) (joins : List (ℕ × ℕ)) (x : ℕ)
    → Contains (least_points (count + 1) (those count test) joins) x → slice_index (classes_of (count + 1) joins) x ≡ x
names-own count test joins x has =
    eqb-true (slice_index (classes_of (count + 1) joins) x) x
    (filter-kept (is_least (classes_of (count + 1) joins)) (those count test) x has).passes

by-labels : (h : ℕ → ℕ) (count : ℕ) (test : ℕ → Bool) (joins : List (ℕ × ℕ)) (xs : List ℕ)
    → xs ≡ least_points (count + 1) (those count test) joins
    → map (at_place h) (enumerate_from 0 xs) ≡ map (at_class h (classes_of (count + 1) joins) xs) xs
by-labels h count test joins xs is =
    by-places h 0 xs (subst AreApart (sym is) (apart-names count test joins))
    ∙ map-on (at_element h 0 xs) (at_class h (classes_of (count + 1) joins) xs) xs
    (λ x has.
    let own = names-own count test joins x (subst (λ (zs : List ℕ). Contains zs x) is has) in
    let place : 0 + position_or_len (nat_eq x) xs ≡ position_or_len (nat_eq x) xs = omega arith in
    ap (λ (i : ℕ). pair_with x (h i)) (place ∙ ap (λ (c : ℕ). position_or_len (nat_eq c) xs) (sym own)))

pub marked-labels : (count : ℕ) (test : ℕ → Bool) (joins : List (ℕ × ℕ)) (number : ℕ)
    → marked number (least_points (count + 1) (those count test) joins)
    ≡ marked_by (label_at (count + 1) (those count test) joins number) (least_points (count + 1) (those count test) joins)
marked-labels count test joins number =
    by-labels (bit number) count test joins (least_points (count + 1) (those count test) joins) refl

pub marked_else-labels : (count : ℕ) (test : ℕ → Bool) (joins : List (ℕ × ℕ)) (number : ℕ)
    → marked_else number (least_points (count + 1) (those count test) joins)
    ≡ marked_by (opposite (label_at (count + 1) (those count test) joins number)) (least_points (count + 1) (those count test) joins)
marked_else-labels count test joins number =
    by-labels (λ i. 2 * (1 - bit number i)) count test joins (least_points (count + 1) (those count test) joins) refl

pub Respects-label : (count : ℕ) (test : ℕ → Bool) (joins : List (ℕ × ℕ)) (number : ℕ) → AreAmong (those count test) joins
    → Respects (label_at (count + 1) (those count test) joins number) joins
Respects-label count test joins number among =
    let n = count + 1 in
    let class : ℕ → ℕ = λ x. slice_index (classes_of n joins) x in
    AllByRecursion-weaker (λ pair. class pair.0 ≡ class pair.1)
    (λ pair. label_at n (those count test) joins number pair.0 ≡ label_at n (those count test) joins number pair.1) joins
    (λ pair same. ap (λ (c : ℕ). bit number (position_or_len (nat_eq c) (least_points n (those count test) joins))) same)
    (classes-together n joins (AreAmong-below count test joins among))

-- a number for each function

first-bit : (l rest : ℕ) → l < 2 → bit (l + 2 * rest) 0 ≡ l
first-bit l rest below = omega (arith, below)

later-bit : (l rest i : ℕ) → l < 2 → bit (l + 2 * rest) (i + 1) ≡ bit rest i
later-bit l rest i below =
    let power : 2 ^ (i + 1) ≡ 2 * 2 ^ i = ap (λ n. 2 ^ n) (let e : i + 1 ≡ suc i = omega arith in e) ∙ pow-suc 2 i ∙ omega arith in
    let half : (l + 2 * rest) / 2 ≡ rest = omega (arith, below) in
    ap (λ p. (l + 2 * rest) / p % 2) power ∙ ap (λ q. q % 2) (sym (div-div-eq-div-mul (l + 2 * rest) 2 (2 ^ i)))
    ∙ ap (λ q. q / 2 ^ i % 2) half

numbered : (label : ℕ → ℕ) (xs : List ℕ) (j number : ℕ) → ((x : ℕ) → label x < 2)
    → ((i : ℕ) → bit number (j + i) ≡ bit (number_of label xs) i)
    → map (at_place (bit number)) (enumerate_from j xs) ≡ marked_by label xs
numbered label [] j number bits same = refl
numbered label (x ∷ xs) j number bits same =
    let here : bit number j ≡ label x =
    ap (λ (i : ℕ). bit number i) (let e : j ≡ j + 0 = omega arith in e) ∙ same 0 ∙ first-bit (label x) (number_of label xs) (bits x) in
    ap₂ (λ (y : ℕ × ℕ) (ys : List (ℕ × ℕ)). y ∷ ys) (ap (λ (b : ℕ). pair_with x b) here)
    (numbered label xs (j + 1) number bits
    (λ i.
    ap (λ (k : ℕ). bit number k) (let e : j + 1 + i ≡ j + (i + 1) = omega arith in e) ∙ same (i + 1)
    ∙ later-bit (label x) (number_of label xs) i (bits x)))

pub marked-number_of : (label : ℕ → ℕ) (xs : List ℕ) → ((x : ℕ) → label x < 2)
    → marked (number_of label xs) xs ≡ marked_by label xs
marked-number_of label xs bits =
    numbered label xs 0 (number_of label xs) bits
    (λ i. ap (λ (k : ℕ). bit (number_of label xs) k) (let e : 0 + i ≡ i = omega arith in e))

pub number_of-below : (label : ℕ → ℕ) (xs : List ℕ) → ((x : ℕ) → label x < 2) → number_of label xs < 2 ^ length xs
number_of-below label [] bits = omega arith
number_of-below label (x ∷ xs) bits =
    let power : 2 ^ suc (length xs) ≡ 2 * 2 ^ length xs = pow-suc 2 (length xs) ∙ omega arith in
    omega (arith, power, number_of-below label xs bits, bits x)
