-- Faces and strips are counted by their components.
use Rattle.std.proofs.Common.{◌≡◌, ℕ, ◌+◌, ◌-◌, ◌*◌, ◌/◌, ◌%◌, ◌^◌, ◌∙◌, List, [], ◌∷◌, ◌++◌, map, refl, sym, ap, ap₂, arith, Bool, true, false, cond}
use Rattle.std.specs.Prelude.{nat_eq, slice_index}
use Rattle.std.specs.List.{count_by, enumerate_from, sum_by}
use Rattle.std.proofs.lemmas.List.Sums.{sum_by-append, sum_by-cons}
use Rattle.kh_types.specs.Bits.{bit}
use Rattle.kh_types.specs.Classes.{classes_of}
use Rattle.kh_types.proofs.Lists.{count_by-map}
use Rattle.kh_types.proofs.ListSums.{sum_by-zeros}
use Rattle.tangle_maps.specs.Seams.{dots_on}
use Rattle.surface_laws.specs.Surfaces.{genus_on, marks_on}
use Rattle.surface_laws.specs.Sheets.{marked, marked_else}
use Rattle.crossing_maps.specs.Counts.{among, blanks_on, genus_among, marks_by, surface_of}

abbrev one_if : Bool → ℕ
one_if b = cond b 1 0

-- marks do not matter when faces are counted
marks-apart : (p : ℕ → Bool) (mark : ℕ → ℕ) (i : ℕ) (places : List ℕ)
    → count_by (λ (face : ℕ × ℕ). p face.0) (map (λ (at : ℕ × ℕ). (at.1, mark at.0)) (enumerate_from i places)) ≡ count_by p places
marks-apart p mark i [] = refl
marks-apart p mark i (x ∷ places) =
    sum_by-cons (λ (face : ℕ × ℕ). one_if (p face.0)) (x, mark i) (map (λ (at : ℕ × ℕ). (at.1, mark at.0)) (enumerate_from (i + 1) places))
    ∙ ap (λ n. one_if (p x) + n) (marks-apart p mark (i + 1) places) ∙ sym (sum_by-cons (λ y. one_if (p y)) x places)

abbrev formula : ℕ → ℕ → ℕ → ℕ
formula lowers faces raises = (lowers + 4 - (2 * faces + raises)) / 4

pub counted : (size : ℕ) (places : List ℕ) (joins : List (ℕ × ℕ)) (rims discs closed others lowers raises : List ℕ)
    (kept dots label other component : ℕ)
    → genus_on (surface_of size places joins rims discs closed others lowers raises kept dots label other) component
    ≡ genus_among component (map (slice_index (classes_of size joins)) rims) (map (slice_index (classes_of size joins)) discs)
    (map (slice_index (classes_of size joins)) closed) (map (slice_index (classes_of size joins)) others)
    (map (slice_index (classes_of size joins)) lowers) (map (slice_index (classes_of size joins)) raises)
counted size places joins rims discs closed others lowers raises kept dots label other component =
    let class : ℕ → ℕ = slice_index (classes_of size joins) in
    let p : ℕ → Bool = λ x. nat_eq (class x) component in
    let f : ℕ × ℕ → ℕ = λ face. one_if (p face.0) in
    let on : (xs : List ℕ) → count_by p xs ≡ among component (map class xs) = λ xs. sym (count_by-map (λ x. nat_eq x component) class xs) in
    ap₂ (λ l r. formula l (count_by (λ (face : ℕ × ℕ). p face.0)
    (marked_else kept rims ++ (marked dots discs ++ (marked label closed ++ marked_else other others)))) r) (on lowers) (on raises)
    ∙ ap (λ n. formula (among component (map class lowers)) n (among component (map class raises)))
    (sum_by-append f (marked_else kept rims) (marked dots discs ++ (marked label closed ++ marked_else other others))
    ∙ ap₂ (λ a b. a + b) (marks-apart p (λ i. 2 * (1 - bit kept i)) 0 rims ∙ on rims)
    (sum_by-append f (marked dots discs) (marked label closed ++ marked_else other others)
    ∙ ap₂ (λ a b. a + b) (marks-apart p (bit dots) 0 discs ∙ on discs)
    (sum_by-append f (marked label closed) (marked_else other others)
    ∙ ap₂ (λ a b. a + b) (marks-apart p (bit label) 0 closed ∙ on closed)
    (marks-apart p (λ i. 2 * (1 - bit other i)) 0 others ∙ on others))))

abbrev if_on : Bool → ℕ → ℕ
if_on b n = cond b n 0

-- amounts of marks are summed by the components of their faces
marks-summed : (amount : ℕ → ℕ) (class mark known : ℕ → ℕ) (component i : ℕ) (places : List ℕ)
    → ((j : ℕ) → amount (mark j) ≡ known j)
    → sum_by (λ (face : ℕ × ℕ). if_on (nat_eq (class face.0) component) (amount face.1))
    (map (λ (at : ℕ × ℕ). (at.1, mark at.0)) (enumerate_from i places))
    ≡ sum_by (λ (at : ℕ × ℕ). if_on (nat_eq at.1 component) (known at.0)) (enumerate_from i (map class places))
marks-summed amount class mark known component i [] are = refl
marks-summed amount class mark known component i (x ∷ places) are =
    sum_by-cons (λ (face : ℕ × ℕ). if_on (nat_eq (class face.0) component) (amount face.1)) (x, mark i)
    (map (λ (at : ℕ × ℕ). (at.1, mark at.0)) (enumerate_from (i + 1) places))
    ∙ ap₂ (λ a n. if_on (nat_eq (class x) component) a + n) (are i)
    (marks-summed amount class mark known component (i + 1) places are)
    ∙ sym (sum_by-cons (λ (at : ℕ × ℕ). if_on (nat_eq at.1 component) (known at.0)) (i, class x) (enumerate_from (i + 1) (map class places)))

nothing-summed : (component i : ℕ) (xs : List ℕ)
    → sum_by (λ (at : ℕ × ℕ). if_on (nat_eq at.1 component) 0) (enumerate_from i xs) ≡ 0
nothing-summed component i xs =
    sum_by-zeros (λ (at : ℕ × ℕ). if_on (nat_eq at.1 component) 0) (enumerate_from i xs) (λ at. none (nat_eq at.1 component))
  where
    none : (b : Bool) → if_on b 0 ≡ 0
    none true = refl
    none false = refl

pub counted-marks : (size : ℕ) (places : List ℕ) (joins : List (ℕ × ℕ)) (rims discs closed others lowers raises : List ℕ)
    (kept dots label other component : ℕ)
    → marks_on (surface_of size places joins rims discs closed others lowers raises kept dots label other) component
    ≡ marks_by component (map (slice_index (classes_of size joins)) rims) (map (slice_index (classes_of size joins)) discs)
    (map (slice_index (classes_of size joins)) closed) (map (slice_index (classes_of size joins)) others) kept dots label other
counted-marks size places joins rims discs closed others lowers raises kept dots label other component =
    let class : ℕ → ℕ = slice_index (classes_of size joins) in
    let amounts : (ℕ → ℕ) → ℕ × ℕ → ℕ = λ amount face. if_on (nat_eq (class face.0) component) (amount face.1) in
    let first : ℕ → ℕ = λ mark. mark % 2 in
    let second : ℕ → ℕ = λ mark. mark / 2 in
    let split : (amount : ℕ → ℕ) → sum_by (amounts amount) (marked_else kept rims ++ (marked dots discs ++ (marked label closed ++ marked_else other others)))
    ≡ sum_by (amounts amount) (marked_else kept rims) + (sum_by (amounts amount) (marked dots discs)
    + (sum_by (amounts amount) (marked label closed) + sum_by (amounts amount) (marked_else other others))) =
    λ amount.
    sum_by-append (amounts amount) (marked_else kept rims) (marked dots discs ++ (marked label closed ++ marked_else other others))
    ∙ ap (λ n. sum_by (amounts amount) (marked_else kept rims) + n)
    (sum_by-append (amounts amount) (marked dots discs) (marked label closed ++ marked_else other others)
    ∙ ap (λ n. sum_by (amounts amount) (marked dots discs) + n)
    (sum_by-append (amounts amount) (marked label closed) (marked_else other others))) in
    let none : ℕ → ℕ = λ j. 0 in
    let kept_dots = marks-summed first class (λ i. 2 * (1 - bit kept i)) none component 0 rims (λ j. even (1 - bit kept j))
    ∙ nothing-summed component 0 (map class rims) in
    let kept_hollows = marks-summed second class (λ i. 2 * (1 - bit kept i)) (λ i. 1 - bit kept i) component 0 rims (λ j. half (1 - bit kept j)) in
    let disc_dots = marks-summed first class (bit dots) (bit dots) component 0 discs (λ j. own (dots / 2 ^ j)) in
    let disc_hollows = marks-summed second class (bit dots) none component 0 discs (λ j. small (dots / 2 ^ j))
    ∙ nothing-summed component 0 (map class discs) in
    let closed_dots = marks-summed first class (bit label) (bit label) component 0 closed (λ j. own (label / 2 ^ j)) in
    let closed_hollows = marks-summed second class (bit label) none component 0 closed (λ j. small (label / 2 ^ j))
    ∙ nothing-summed component 0 (map class closed) in
    let other_dots = marks-summed first class (λ i. 2 * (1 - bit other i)) none component 0 others (λ j. even (1 - bit other j))
    ∙ nothing-summed component 0 (map class others) in
    let other_hollows = marks-summed second class (λ i. 2 * (1 - bit other i)) (λ i. 1 - bit other i) component 0 others (λ j. half (1 - bit other j)) in
    ap₂ (λ x y. x + y)
    (split first ∙ ap₂ (λ x y. x + y) kept_dots (ap₂ (λ x y. x + y) disc_dots (ap₂ (λ x y. x + y) closed_dots other_dots)))
    (split second ∙ ap₂ (λ x y. x + y) kept_hollows (ap₂ (λ x y. x + y) disc_hollows (ap₂ (λ x y. x + y) closed_hollows other_hollows)))
    ∙ together (dots_on component dots (map class discs)) (dots_on component label (map class closed))
    (blanks_on component kept (map class rims)) (blanks_on component other (map class others))
  where
    together : (a b c d : ℕ) → (0 + (a + (b + 0))) + (c + (0 + (0 + d))) ≡ c + (a + (b + d))
    together a b c d = omega arith

    even : (x : ℕ) → 2 * x % 2 ≡ 0
    even x = omega arith

    half : (x : ℕ) → 2 * x / 2 ≡ x
    half x = omega arith

    own : (q : ℕ) → q % 2 % 2 ≡ q % 2
    own q = omega arith

    small : (q : ℕ) → q % 2 / 2 ≡ 0
    small q = omega arith
