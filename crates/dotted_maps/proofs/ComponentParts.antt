-- A composition's coefficient is a product over components: each gives a part that depends on its genus, its dots and its discs
-- without a dot. By definition it is a product over all numbers below the size, in which a number that is no component counts as
-- 1. First, a product over distinct numbers is one over all numbers below a bound, with 1 for the others. Then the surface of a
-- composition has the components that are listed by their least arcs; on each of them its faces and marks are the discs and dots
-- of the three pairings, so that its factor is the part. The listed arcs are distinct, as no arc is at two ends of a pairing.
use Rattle.std.proofs.Common.{◌≡◌, ℕ, inl, inr, ◌+◌, ◌-◌, ◌*◌, ◌/◌, ◌%◌, ◌^◌, ◌<◌, ◌≤◌, ◌∙◌, List, [], ◌∷◌, ◌++◌, refl, ap, ap₂, arith, Bool, true, false, cond, ◌||◌}
use Rattle.std.specs.Prelude.{nat_eq, slice_index}
use Rattle.std.specs.List.{filter, list_any, enumerate_from, sum_by, count_by, AllByRecursion, Contains}
use Rattle.std.proofs.lemmas.Bool.{cases_Bool, eqb-true}
use Rattle.std.proofs.lemmas.Bool.Decides.{nat_tests}
use Rattle.std.proofs.lemmas.List.Sums.{sum_by-cons, sum_by-append}
use Rattle.std.proofs.lemmas.List.Sorted.{sum_by-IsPermutation}
use Rattle.kh_types.specs.Bits.{bit}
use Rattle.kh_types.specs.Classes.{classes_of, is_least}
use Rattle.kh_types.proofs.ListSums.{sum_by-map, sum_by-alike, sum_by-zeros, sum_by-filter}
use Rattle.surface_laws.specs.Surfaces.{Surface, is_component, faces_on, lowers_on, dots_on, hollows_on, weight, plain_weight, factor, product_below}
use Rattle.surface_laws.proofs.Weights.{weight-plain}
use Rattle.surface_laws.proofs.Components.{list_any-contained, list_any-some, AllByRecursion-at, AllByRecursion-weaker}
use Rattle.surface_laws.proofs.Products.{product_below-ones, product_below-alike, product_below-without, without}
use Rattle.surface_laws.specs.Points.{Points, ArePlaced, AreAmong, IsOpenPairing, ends_of, inner, discs}
use Rattle.surface_laws.specs.Sheets.{marked, marked_else, sheet}
use Rattle.dotted_maps.specs.Composition.{composed, composed_faces}
use Rattle.dotted_maps.specs.Parts.{components, component_in, how_many, dotted_on, undotted_on, genus_in, part_coefficient, product_over, part_at}
use Rattle.dotted_maps.proofs.LeastPoints.{AreJoins, AreAmong-append, class-named, least-contained, AllByRecursion-filter}
use Rattle.dotted_maps.proofs.Sheets.{faces-at, places-three, places-marked, places-marked_else}
use Rattle.kh_types.proofs.Tests.{agree}

-- a product over distinct numbers below n is one over all numbers below n

abbrev is_in : List ℕ → ℕ → Bool
is_in xs k = list_any (λ x. nat_eq x k) xs

abbrev factor_in : (ℕ → ℕ) → List ℕ → ℕ → ℕ
factor_in f xs k = cond (is_in xs k) (f k) 1

abbrev pub AreDistinct : List ℕ → Type 0
AreDistinct xs = (x : ℕ) → count_by (nat_eq x) xs ≤ 1

abbrev pub one_at : ℕ → ℕ → ℕ
one_at x y = cond (nat_eq x y) 1 0

count-cons : (x y : ℕ) (xs : List ℕ) → count_by (nat_eq x) (y ∷ xs) ≡ one_at x y + count_by (nat_eq x) xs
count-cons x y xs = sum_by-cons (one_at x) y xs

one_at-same : (x : ℕ) → one_at x x ≡ 1
one_at-same x = grind (arith, nat_tests)

not-in : (xs : List ℕ) (x : ℕ) → count_by (nat_eq x) xs ≡ 0 → is_in xs x ≡ false
not-in [] x none = refl
not-in (y ∷ xs) x none =
    let split = count-cons x y xs in
    ap₂ (λ a b. a || b) (apart x y (one_at x y) refl (omega (arith, split, none))) (not-in xs x (omega (arith, split, none)))
  where
    apart : (x y n : ℕ) → n ≡ one_at x y → n ≡ 0 → nat_eq y x ≡ false
    apart x y n is none = grind (arith, nat_tests)

distinct-later : (y : ℕ) (xs : List ℕ) → AreDistinct (y ∷ xs) → AreDistinct xs
distinct-later y xs distinct x =
    let few = distinct x in
    let split = count-cons x y xs in
    omega (arith, few, split)

distinct-first : (y : ℕ) (xs : List ℕ) → AreDistinct (y ∷ xs) → is_in xs y ≡ false
distinct-first y xs distinct =
    let few = distinct y in
    let split = count-cons y y xs in
    let one = one_at-same y in
    not-in xs y (omega (arith, few, split, one))

first-factor : (x : ℕ) (b : Bool) (s : ℕ) → cond (nat_eq x x || b) s 1 ≡ s
first-factor x b s = grind (arith, nat_tests)

later-factor : (x k : ℕ) (b d : Bool) (s : ℕ) → d ≡ false → (k ≡ x → b ≡ d) → cond (nat_eq k x) 1 (cond (nat_eq x k || b) s 1) ≡ cond b s 1
later-factor x k b d s is same = grind (arith, nat_tests)

pub product-distinct : (n : ℕ) (f : ℕ → ℕ) (xs : List ℕ) → AllByRecursion (λ x. x < n) xs → AreDistinct xs
    → product_below n (factor_in f xs) ≡ product_over f xs
product-distinct n f [] below distinct = product_below-ones n (factor_in f []) (λ k k_below. refl)
product-distinct n f (x ∷ xs) below distinct =
    product_below-without n x (factor_in f (x ∷ xs)) below.0
    ∙ ap₂ (λ a b. a * b) (first-factor x (is_in xs x) (f x))
    (product_below-alike n (without x (factor_in f (x ∷ xs))) (factor_in f xs)
    (λ k k_below. later-factor x k (is_in xs k) (is_in xs x) (f k) (distinct-first x xs distinct) (λ same. ap (is_in xs) same))
    ∙ product-distinct n f xs below.1 (distinct-later x xs distinct))

-- what passes a test is still distinct
few-left : (b : Bool) (n m k : ℕ) → m ≤ k → cond b n 0 + m ≤ n + k
few-left true n m k few = omega (arith, few)
few-left false n m k few = omega (arith, few)

count-filter : (p : ℕ → Bool) (x : ℕ) (xs : List ℕ) → count_by (nat_eq x) (filter p xs) ≤ count_by (nat_eq x) xs
count-filter p x [] = omega arith
count-filter p x (y ∷ xs) =
    let split = count-cons x y xs in
    let left = sum_by-filter (one_at x) p (y ∷ xs) ∙ sum_by-cons (λ z. cond (p z) (one_at x z) 0) y xs in
    let rest = sum_by-filter (one_at x) p xs in
    let later = count-filter p x xs in
    let few = few-left (p y) (one_at x y) (count_by (nat_eq x) (filter p xs)) (count_by (nat_eq x) xs) later in
    omega (arith, split, left, rest, few)

pub distinct-filter : (p : ℕ → Bool) (xs : List ℕ) → AreDistinct xs → AreDistinct (filter p xs)
distinct-filter p xs distinct x =
    let few = distinct x in
    let left = count-filter p x xs in
    omega (arith, few, left)

-- the surface of a composition, its components and the counts on them

abbrev pub inside_of : Points → List (ℕ × ℕ) → List (ℕ × ℕ) → List (ℕ × ℕ) → ℕ → ℕ → ℕ → Surface
inside_of points m n o dots others kept = sheet (inner points) m o n (composed_faces points m n o dots others kept)

least-kept : (classes : List ℕ) (xs : List ℕ) → AllByRecursion (λ x. is_least classes x ≡ true) (filter (is_least classes) xs)
least-kept classes [] = tt
least-kept classes (x ∷ xs) =
    elim (cases_Bool (is_least classes x)) [
      | inl is ↦ rw is (is, least-kept classes xs)
      | inr not ↦ rw not (least-kept classes xs)
    ]

same-components : (points : Points) (m n o : List (ℕ × ℕ)) (dots others kept k : ℕ)
    → AreJoins points.size points.opened (m ++ (o ++ n))
    → is_component (inside_of points m n o dots others kept) k ≡ is_in (components points m n o) k
same-components points m n o dots others kept k joined =
    let classes = classes_of points.size (m ++ (o ++ n)) in
    let names = components points m n o in
    agree (list_any (λ x. nat_eq (slice_index classes x) k) points.opened) (is_in names k)
    (λ is.
    let found = list_any-some (λ x. nat_eq (slice_index classes x) k) points.opened is in
    list_any-contained (λ x. nat_eq x k) names (slice_index classes found.0)
    (class-named points.size points.opened (m ++ (o ++ n)) found.0 joined found.1) found.2)
    (λ is.
    let found = list_any-some (λ x. nat_eq x k) names is in
    let least : is_least classes found.0 ≡ true =
    AllByRecursion-at (λ x. is_least classes x ≡ true) names found.0 (least-kept classes points.opened) found.1 in
    let there = AllByRecursion-at (λ x. Contains points.opened x) names found.0
    (least-contained points.size points.opened (m ++ (o ++ n))) found.1 in
    list_any-contained (λ x. nat_eq (slice_index classes x) k) points.opened found.0 there
    (ap (λ c. nat_eq c k) (eqb-true (slice_index classes found.0) found.0 least) ∙ found.2))

abbrev count_at : Points → List (ℕ × ℕ) → List (ℕ × ℕ) → List (ℕ × ℕ) → ℕ → ℕ → ℕ
count_at points m n o k x = cond (nat_eq (component_in points m n o x) k) 1 0

faces-inside : (points : Points) (m n o : List (ℕ × ℕ)) (dots others kept k : ℕ)
    → faces_on (inside_of points m n o dots others kept) k
    ≡ how_many points m n o k (discs points m o)
    + (how_many points m n o k (discs points m n) + how_many points m n o k (discs points n o))
faces-inside points m n o dots others kept k =
    let f = count_at points m n o k in
    faces-at (inner points) m o n (composed_faces points m n o dots others kept) k
    ∙ ap (λ xs. sum_by f xs)
    (places-three (marked_else kept (discs points m o)) (marked dots (discs points m n)) (marked others (discs points n o))
    (discs points m o) (discs points m n) (discs points n o) (places-marked_else kept (discs points m o))
    (places-marked dots (discs points m n)) (places-marked others (discs points n o)))
    ∙ sum_by-append f (discs points m o) (discs points m n ++ discs points n o)
    ∙ ap (λ c. sum_by f (discs points m o) + c) (sum_by-append f (discs points m n) (discs points n o))

-- the amounts of the three lists of faces, by their marks
abbrev amounts_at : (ℕ → ℕ) → Points → List (ℕ × ℕ) → List (ℕ × ℕ) → List (ℕ × ℕ) → ℕ → (ℕ → ℕ) → List ℕ → ℕ
amounts_at amount points m n o c mark arcs =
    sum_by (λ at. cond (nat_eq (component_in points m n o at.1) c) (amount (mark at.0)) 0) (enumerate_from 0 arcs)

marks-inside : (amount : ℕ → ℕ) (points : Points) (m n o : List (ℕ × ℕ)) (dots others kept c : ℕ)
    → sum_by (λ face. cond (nat_eq (component_in points m n o face.0) c) (amount face.1) 0) (composed_faces points m n o dots others kept)
    ≡ amounts_at amount points m n o c (λ j. 2 * (1 - bit kept j)) (discs points m o)
    + (amounts_at amount points m n o c (bit dots) (discs points m n) + amounts_at amount points m n o c (bit others) (discs points n o))
marks-inside amount points m n o dots others kept c =
    let h = λ (face : ℕ × ℕ). cond (nat_eq (component_in points m n o face.0) c) (amount face.1) 0 in
    sum_by-append h (marked_else kept (discs points m o)) (marked dots (discs points m n) ++ marked others (discs points n o))
    ∙ ap₂ (λ x y. x + y) (sum_by-map h (λ at. (at.1, 2 * (1 - bit kept at.0))) (enumerate_from 0 (discs points m o)))
    (sum_by-append h (marked dots (discs points m n)) (marked others (discs points n o))
    ∙ ap₂ (λ x y. x + y) (sum_by-map h (λ at. (at.1, bit dots at.0)) (enumerate_from 0 (discs points m n)))
    (sum_by-map h (λ at. (at.1, bit others at.0)) (enumerate_from 0 (discs points n o))))

-- where marks have amounts that are known, or none

amounts-known : (amount : ℕ → ℕ) (points : Points) (m n o : List (ℕ × ℕ)) (c : ℕ) (mark known : ℕ → ℕ) (arcs : List ℕ)
    → ((j : ℕ) → amount (mark j) ≡ known j)
    → amounts_at amount points m n o c mark arcs
    ≡ sum_by (λ at. cond (nat_eq (component_in points m n o at.1) c) (known at.0) 0) (enumerate_from 0 arcs)
amounts-known amount points m n o c mark known arcs are =
    sum_by-alike (λ at. cond (nat_eq (component_in points m n o at.1) c) (amount (mark at.0)) 0)
    (λ at. cond (nat_eq (component_in points m n o at.1) c) (known at.0) 0)
    (λ at. ap (λ x. cond (nat_eq (component_in points m n o at.1) c) x 0) (are at.0)) (enumerate_from 0 arcs)

amounts-none : (amount : ℕ → ℕ) (points : Points) (m n o : List (ℕ × ℕ)) (c : ℕ) (mark : ℕ → ℕ) (arcs : List ℕ)
    → ((j : ℕ) → amount (mark j) ≡ 0) → amounts_at amount points m n o c mark arcs ≡ 0
amounts-none amount points m n o c mark arcs are =
    sum_by-zeros (λ at. cond (nat_eq (component_in points m n o at.1) c) (amount (mark at.0)) 0) (enumerate_from 0 arcs)
    (λ at. no-amount (nat_eq (component_in points m n o at.1) c) (amount (mark at.0)) (are at.0))
  where
    no-amount : (b : Bool) (x : ℕ) → x ≡ 0 → cond b x 0 ≡ 0
    no-amount true x none = none
    no-amount false x none = refl

dots-inside : (points : Points) (m n o : List (ℕ × ℕ)) (dots others kept c : ℕ)
    → dots_on (inside_of points m n o dots others kept) c
    ≡ dotted_on points m n o c dots (discs points m n) + dotted_on points m n o c others (discs points n o)
dots-inside points m n o dots others kept c =
    let dots_in : ℕ → ℕ = λ mark. mark % 2 in
    marks-inside dots_in points m n o dots others kept c
    ∙ ap₂ (λ x y. x + y) (amounts-none dots_in points m n o c (λ j. 2 * (1 - bit kept j)) (discs points m o) (λ j. even (1 - bit kept j)))
    (ap₂ (λ x y. x + y)
    (amounts-known dots_in points m n o c (bit dots) (bit dots) (discs points m n) (λ j. own (dots / 2 ^ j)))
    (amounts-known dots_in points m n o c (bit others) (bit others) (discs points n o) (λ j. own (others / 2 ^ j))))
    ∙ zero_plus (dotted_on points m n o c dots (discs points m n) + dotted_on points m n o c others (discs points n o))
  where
    even : (x : ℕ) → 2 * x % 2 ≡ 0
    even x = omega arith

    own : (q : ℕ) → q % 2 % 2 ≡ q % 2
    own q = omega arith

    zero_plus : (x : ℕ) → 0 + x ≡ x
    zero_plus x = omega arith

hollows-inside : (points : Points) (m n o : List (ℕ × ℕ)) (dots others kept c : ℕ)
    → hollows_on (inside_of points m n o dots others kept) c ≡ undotted_on points m n o c kept (discs points m o)
hollows-inside points m n o dots others kept c =
    let hollows_in : ℕ → ℕ = λ mark. mark / 2 in
    marks-inside hollows_in points m n o dots others kept c
    ∙ ap₂ (λ x y. x + y)
    (amounts-known hollows_in points m n o c (λ j. 2 * (1 - bit kept j)) (λ j. 1 - bit kept j) (discs points m o)
    (λ j. half (1 - bit kept j)))
    (ap₂ (λ x y. x + y) (amounts-none hollows_in points m n o c (bit dots) (discs points m n) (λ j. none (dots / 2 ^ j)))
    (amounts-none hollows_in points m n o c (bit others) (discs points n o) (λ j. none (others / 2 ^ j))))
    ∙ plus_zero (undotted_on points m n o c kept (discs points m o))
  where
    half : (x : ℕ) → 2 * x / 2 ≡ x
    half x = omega arith

    none : (q : ℕ) → q % 2 / 2 ≡ 0
    none q = omega arith

    plus_zero : (x : ℕ) → x + (0 + 0) ≡ x
    plus_zero x = omega arith

-- where h and k are 0
pub part-plain : (genus dots undotted : ℕ) → weight 0 0 genus dots undotted ≡ part_coefficient genus dots undotted
part-plain genus dots undotted = weight-plain genus dots undotted ∙ by_cases genus dots undotted
  where
    by_cases : (genus dots undotted : ℕ) → plain_weight genus (dots + undotted) ≡ part_coefficient genus dots undotted
    by_cases genus dots undotted = grind (arith, nat_tests)

euler : (l f c : ℕ) → f ≡ c → (l + 4 - (2 * f + 0)) / 4 ≡ (l + 4 - 2 * c) / 4
euler l f c same =
    let e : l + 4 - (2 * f + 0) ≡ l + 4 - 2 * c = omega (arith, same) in
    ap (λ n. n / 4) e

factor-inside : (h k : ℕ) (points : Points) (m n o : List (ℕ × ℕ)) (dots others kept c : ℕ)
    → AreJoins points.size points.opened (m ++ (o ++ n))
    → factor h k (inside_of points m n o dots others kept) c
    ≡ factor_in (part_at h k points m n o dots others kept) (components points m n o) c
factor-inside h k points m n o dots others kept c joined =
    let surface = inside_of points m n o dots others kept in
    let faces = how_many points m n o c (discs points m o)
    + (how_many points m n o c (discs points m n) + how_many points m n o c (discs points n o)) in
    let dotted = dotted_on points m n o c dots (discs points m n) + dotted_on points m n o c others (discs points n o) in
    let genus = genus_in points m n o c in
    ap₂ (λ (b : Bool) (x : ℕ). cond b x 1) (same-components points m n o dots others kept c joined)
    (ap (λ g. weight h k g (dots_on surface c) (hollows_on surface c))
    (euler (lowers_on surface c) (faces_on surface c) faces (faces-inside points m n o dots others kept c))
    ∙ ap₂ (λ d u. weight h k genus d u) (dots-inside points m n o dots others kept c)
    (hollows-inside points m n o dots others kept c))

distinct-opened : (points : Points) (m : List (ℕ × ℕ)) → IsOpenPairing points m → AreDistinct points.opened
distinct-opened points m pairing x =
    let few = pairing.once x in
    let same = sum_by-IsPermutation (one_at x) points.opened (ends_of m) pairing.ends in
    omega (arith, few, same)

pub composed-parts : (h k : ℕ) (points : Points) (m n o : List (ℕ × ℕ)) (dots others kept : ℕ) → ArePlaced points → IsOpenPairing points m
    → AreAmong points.opened m → AreAmong points.opened n → AreAmong points.opened o
    → composed h k points m n o dots others kept ≡ product_over (part_at h k points m n o dots others kept) (components points m n o)
composed-parts h k points m n o dots others kept placed pairing first second third =
    let f = part_at h k points m n o dots others kept in
    let classes = classes_of points.size (m ++ (o ++ n)) in
    let below = AllByRecursion-weaker (λ x. Contains points.alive x) (λ x. x < points.size) points.opened
    (λ x has. AllByRecursion-at (λ y. y < points.size) points.alive x placed.alive has) placed.opened in
    let joined : AreJoins points.size points.opened (m ++ (o ++ n)) =
    record {
      below = below;
      among = AreAmong-append points.opened m (o ++ n) first (AreAmong-append points.opened o n third second);
    } in
    product_below-alike points.size (factor h k (inside_of points m n o dots others kept)) (factor_in f (components points m n o))
    (λ c c_below. factor-inside h k points m n o dots others kept c joined)
    ∙ product-distinct points.size f (components points m n o)
    (AllByRecursion-filter (λ x. x < points.size) (is_least classes) points.opened below)
    (distinct-filter (is_least classes) points.opened (distinct-opened points m pairing))
