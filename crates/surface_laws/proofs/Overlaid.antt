-- Two surfaces glued along the circles where they meet are the one surface that has all of both.
--
-- Two surfaces that meet in circles are glued along each: the joins of both and the joins at the circles. Discs that stand in both stand
-- once in the surface that has all of both. The components correspond, with as many faces, marks and joins on each, so that both have one
-- genus and one value.
use Rattle.std.proofs.Common.{◌≡◌, ℕ, inl, inr, ◌+◌, ◌-◌, ◌<◌, ◌∙◌, List, [], ◌∷◌, ◌++◌, map, refl, sym, ap, ap₂, arith, Bool, true, false, cond, eq-eqb}
use Rattle.std.specs.Prelude.{nat_eq, nat_lt}
use Rattle.std.specs.List.{list_any, AllByRecursion, Contains}
use Rattle.std.specs.List.Sorted.{IsPermutation}
use Rattle.std.proofs.lemmas.Bool.{cases_Bool, eqb-true, both_ways}
use Rattle.std.proofs.lemmas.Bool.Decides.{nat_tests}
use Rattle.std.proofs.lemmas.List.{map-append}
use Rattle.std.proofs.lemmas.List.Elements.{Contains-append_left, Contains-append_right, Contains-append_cases}
use Rattle.std.proofs.lemmas.List.Sorted.{IsPermutation-refl}
use Rattle.kh_types.specs.Classes.{Respects}
use Rattle.kh_types.proofs.ClassCounts.{AreBelow-wider}
use Rattle.kh_types.proofs.ClassLemmas.{classes-together, classes-finest}
use Rattle.kh_types.proofs.Lists.{AllByRecursion-append, AllByRecursion-first, AllByRecursion-second, Contains-map, AllByRecursion-at, AllByRecursion-weaker, AllByRecursion-both}
use Rattle.kh_types.specs.Residues.{Same}
use Rattle.kh_types.proofs.Residues.{same-equal}
use Rattle.surface_laws.specs.Surfaces.{Surface, component_of, IsPlaced, IsClosed, value}
use Rattle.surface_laws.specs.Cuts.{with_faces, first_caps, second_caps, glued, union, AreOn, AreBetween, glued_two, sum_of_products}
use Rattle.surface_laws.specs.Projections.{LeadsBack, Projects, Corresponds}
use Rattle.surface_laws.specs.Overlays.{overlaid, at_places, MeetAlong}
use Rattle.surface_laws.proofs.Components.{list_any-contained, list_any-some}
use Rattle.surface_laws.proofs.Unions.{up, pair_up, face_up, place-below, component_of-first, component_of-second}
use Rattle.surface_laws.proofs.Projected.{Corresponds-projected, IsClosed-moved, value-moved}
use Rattle.surface_laws.proofs.Renamed.{KeepsComponents-led}
use Rattle.surface_laws.proofs.TwoSides.{AllByRecursion-map, first-has, second-has, is-up, IsPlaced-union, across, AreOn-across, IsClosed-glued_two, value-glued_two}

-- what is glued stays placed
pub IsPlaced-glued : (surface : Surface) (circles : List (ℕ × ℕ)) → IsPlaced surface → AreOn surface circles
    → IsPlaced (glued surface circles)
IsPlaced-glued surface circles placed on = record {
  joins = AllByRecursion-append (λ pair. (pair.0 < surface.size) × (pair.1 < surface.size)) surface.joins circles placed.joins
      (AllByRecursion-weaker (λ circle. Contains surface.places circle.0 × Contains surface.places circle.1)
      (λ pair. (pair.0 < surface.size) × (pair.1 < surface.size)) circles
      (λ circle has. (place-below surface circle.0 placed has.0, place-below surface circle.1 placed has.1)) on);
  places = placed.places;
  faces = placed.faces;
  lowers = placed.lowers;
  raises = placed.raises;
}

all-there : {X : Type 0} (first second : Surface) (place : X → ℕ) (xs ys : List X)
    → AllByRecursion (λ x. Contains first.places (place x)) xs → AllByRecursion (λ y. Contains second.places (place y)) ys
    → AllByRecursion (λ z. Contains (overlaid first second).places (place z)) (xs ++ ys)
all-there {X} first second place xs ys all other =
    let IsThere : X → Type 0 = λ z. Contains (overlaid first second).places (place z) in
    AllByRecursion-append IsThere xs ys
    (AllByRecursion-weaker (λ x. Contains first.places (place x)) IsThere xs
    (λ x has. Contains-append_left first.places second.places (place x) has) all)
    (AllByRecursion-weaker (λ y. Contains second.places (place y)) IsThere ys
    (λ y has. Contains-append_right first.places second.places (place y) has) other)

pub IsPlaced-overlaid : (first second : Surface) → second.size ≡ first.size → IsPlaced first → IsPlaced second
    → IsPlaced (overlaid first second)
IsPlaced-overlaid first second size placed other = record {
  joins = AllByRecursion-append (λ pair. (pair.0 < first.size) × (pair.1 < first.size)) first.joins second.joins placed.joins
      (AreBelow-wider second.size first.size second.joins (omega (arith, size)) other.joins);
  places = AllByRecursion-append (λ x. x < first.size) first.places second.places placed.places
      (AllByRecursion-weaker (λ x. x < second.size) (λ x. x < first.size) second.places (λ x below. omega (arith, size, below))
      other.places);
  faces = all-there first second (λ face. face.0) first.faces second.faces placed.faces other.faces;
  lowers = all-there first second (λ x. x) first.lowers second.lowers placed.lowers other.lowers;
  raises = all-there first second (λ x. x) first.raises second.raises placed.raises other.raises;
}

-- the two surfaces, and how they meet
pub record AreLaid (first second : Surface) (circles : List ℕ) : Type 0 where
  pub placed : IsPlaced first
  pub other : IsPlaced second
  pub along : MeetAlong first second circles

abbrev whole_of : Surface → Surface → List ℕ → Surface
whole_of first second circles = glued_two first second (at_places circles)

between-from : (first second : Surface) (circles : List ℕ) → AllByRecursion (λ x. Contains first.places x × Contains second.places x) circles
    → AreBetween first second (at_places circles)
between-from first second [] on = tt
between-from first second (circle ∷ circles) on = (on.0, between-from first second circles on.1)

pub AreBetween-laid : (first second : Surface) (circles : List ℕ) → AreLaid first second circles
    → AreBetween first second (at_places circles)
AreBetween-laid first second circles laid = between-from first second circles laid.along.on

whole-placed : (first second : Surface) (circles : List ℕ) → AreLaid first second circles → IsPlaced (whole_of first second circles)
whole-placed first second circles laid =
    IsPlaced-glued (union first second) (map (across first.size) (at_places circles))
    (IsPlaced-union first second laid.placed laid.other)
    (AreOn-across first second (at_places circles) (AreBetween-laid first second circles laid))

overlaid-placed : (first second : Surface) (circles : List ℕ) → AreLaid first second circles → IsPlaced (overlaid first second)
overlaid-placed first second circles laid =
    IsPlaced-overlaid first second laid.along.size laid.placed laid.other

-- what the joins of the whole tie

whole-respects : (first second : Surface) (circles : List ℕ) → AreLaid first second circles
    → Respects (λ z. component_of (whole_of first second circles) z) (whole_of first second circles).joins
whole-respects first second circles laid =
    classes-together (whole_of first second circles).size (whole_of first second circles).joins
    (whole-placed first second circles laid).joins

parts-respected : (first second : Surface) (circles : List ℕ) → AreLaid first second circles
    → Respects (λ z. component_of (whole_of first second circles) z) (union first second).joins
parts-respected first second circles laid =
    AllByRecursion-first (λ pair. component_of (whole_of first second circles) pair.0 ≡ component_of (whole_of first second circles) pair.1)
    (union first second).joins (map (across first.size) (at_places circles)) (whole-respects first second circles laid)

union-kept : (first second : Surface) (circles : List ℕ) (x y : ℕ) → AreLaid first second circles → x < (union first second).size
    → y < (union first second).size → component_of (union first second) x ≡ component_of (union first second) y
    → component_of (whole_of first second circles) x ≡ component_of (whole_of first second circles) y
union-kept first second circles x y laid =
    classes-finest (λ z. component_of (whole_of first second circles) z) (union first second).size (union first second).joins
    (parts-respected first second circles laid) (IsPlaced-union first second laid.placed laid.other).joins x y

first-kept : (first second : Surface) (circles : List ℕ) (x y : ℕ) → AreLaid first second circles → x < first.size → y < first.size
    → component_of first x ≡ component_of first y
    → component_of (whole_of first second circles) x ≡ component_of (whole_of first second circles) y
first-kept first second circles x y laid x_below y_below same =
    union-kept first second circles x y laid (omega (arith, x_below)) (omega (arith, y_below))
    (component_of-first first second x laid.placed laid.other x_below ∙ same
    ∙ sym (component_of-first first second y laid.placed laid.other y_below))

second-kept : (first second : Surface) (circles : List ℕ) (x y : ℕ) → AreLaid first second circles → x < second.size
    → y < second.size → component_of second x ≡ component_of second y
    → component_of (whole_of first second circles) (first.size + x) ≡ component_of (whole_of first second circles) (first.size + y)
second-kept first second circles x y laid x_below y_below same =
    union-kept first second circles (first.size + x) (first.size + y) laid (omega (arith, x_below)) (omega (arith, y_below))
    (component_of-second first second x laid.placed laid.other x_below ∙ ap (λ c. first.size + c) same
    ∙ sym (component_of-second first second y laid.placed laid.other y_below))

circle-tied : (first second : Surface) (circles : List ℕ) (circle : ℕ) → AreLaid first second circles → Contains circles circle
    → component_of (whole_of first second circles) circle ≡ component_of (whole_of first second circles) (first.size + circle)
circle-tied first second circles circle laid has =
    let whole = whole_of first second circles in
    let twice : ℕ × ℕ = (circle, circle) in
    AllByRecursion-at (λ pair. component_of whole pair.0 ≡ component_of whole pair.1)
    (map (across first.size) (at_places circles)) (circle, first.size + circle)
    (AllByRecursion-second (λ pair. component_of whole pair.0 ≡ component_of whole pair.1) (union first second).joins
    (map (across first.size) (at_places circles)) (whole-respects first second circles laid))
    (Contains-map (across first.size) (at_places circles) twice (Contains-map (λ (x : ℕ). (x, x)) circles circle has))

-- a place of both is one place
one-place : (first second : Surface) (circles : List ℕ) (x : ℕ) → AreLaid first second circles → Contains first.places x
    → Contains second.places x
    → component_of (whole_of first second circles) x ≡ component_of (whole_of first second circles) (first.size + x)
one-place first second circles x laid in_first in_second =
    let (circle, has, same, other_same) = laid.along.meet x in_first in_second in
    let on = AllByRecursion-at (λ z. Contains first.places z × Contains second.places z) circles circle laid.along.on has in
    first-kept first second circles x circle laid (place-below first x laid.placed in_first)
    (place-below first circle laid.placed on.0) same
    ∙ circle-tied first second circles circle laid has
    ∙ second-kept first second circles circle x laid (place-below second circle laid.other on.1)
    (place-below second x laid.other in_second) (sym other_same)

-- from the whole to the overlay, and back

abbrev pub down : ℕ → ℕ → ℕ
down n z = cond (nat_lt z n) z (z - n)

down-low : (n z : ℕ) → z < n → down n z ≡ z
down-low n z below = grind (arith, nat_tests)

down-up : (n z : ℕ) → down n (n + z) ≡ z
down-up n z = grind (arith, nat_tests)

abbrev is_first : Surface → ℕ → Bool
is_first first x = list_any (λ z. nat_eq z x) first.places

abbrev back_up : Surface → ℕ → ℕ
back_up first x = cond (is_first first x) x (first.size + x)

is_first-has : (first : Surface) (x : ℕ) → Contains first.places x → is_first first x ≡ true
is_first-has first x has = list_any-contained (λ z. nat_eq z x) first.places x has (eq-eqb x x refl)

has-same : (xs : List ℕ) (x y : ℕ) → x ≡ y → Contains xs x → Contains xs y
has-same xs x y same has = rw (sym same) has

has-is_first : (first : Surface) (x : ℕ) → is_first first x ≡ true → Contains first.places x
has-is_first first x is =
    let found = list_any-some (λ z. nat_eq z x) first.places is in
    has-same first.places found.0 x (eqb-true found.0 x found.2) found.1

back-true : (first : Surface) (x : ℕ) → is_first first x ≡ true → back_up first x ≡ x
back-true first x is = ap (λ b. cond b x (first.size + x)) is

back-false : (first : Surface) (x : ℕ) → is_first first x ≡ false → back_up first x ≡ first.size + x
back-false first x is = ap (λ b. cond b x (first.size + x)) is

back-first : (first : Surface) (x : ℕ) → Contains first.places x → back_up first x ≡ x
back-first first x has = back-true first x (is_first-has first x has)

back-second : (first second : Surface) (circles : List ℕ) (x : ℕ) → AreLaid first second circles → Contains second.places x
    → component_of (whole_of first second circles) (back_up first x)
    ≡ component_of (whole_of first second circles) (first.size + x)
back-second first second circles x laid has =
    let whole = whole_of first second circles in
    elim (cases_Bool (is_first first x)) [
      | inl is ↦
          ap (λ z. component_of whole z) (back-true first x is)
          ∙ one-place first second circles x laid (has-is_first first x is) has
      | inr not ↦ ap (λ z. component_of whole z) (back-false first x not)
    ]

down-second : (first second : Surface) (circles : List ℕ) (x : ℕ) → AreLaid first second circles → Contains second.places x
    → down first.size (back_up first x) ≡ x
down-second first second circles x laid has = elim (cases_Bool (is_first first x)) [
  | inl is ↦
      ap (λ z. down first.size z) (back-true first x is)
      ∙ down-low first.size x (omega (arith, laid.along.size, place-below second x laid.other has))
  | inr not ↦ ap (λ z. down first.size z) (back-false first x not) ∙ down-up first.size x
]

AllByRecursion-unmap : {X Y : Type 0} (P : Y → Type 0) (f : X → Y) (xs : List X) → AllByRecursion P (map f xs)
    → AllByRecursion (λ x. P (f x)) xs
AllByRecursion-unmap P f [] all = tt
AllByRecursion-unmap P f (x ∷ xs) all = (all.0, AllByRecursion-unmap P f xs all.1)

second-only : (first second : Surface) (y : ℕ) → Contains (overlaid first second).places y → is_first first y ≡ false
    → Contains second.places y
second-only first second y has not = elim (Contains-append_cases first.places second.places y has) [
  | inl in_first ↦ absurd (both_ways (is_first first y) not (is_first-has first y in_first))
  | inr in_second ↦ in_second
]

-- the joins of the whole, in the overlay
overlay-respects : (first second : Surface) (circles : List ℕ) → AreLaid first second circles
    → Respects (λ z. component_of (overlaid first second) z) (overlaid first second).joins
overlay-respects first second circles laid =
    classes-together (overlaid first second).size (overlaid first second).joins (overlaid-placed first second circles laid).joins

whole-onto : (first second : Surface) (circles : List ℕ) → AreLaid first second circles
    → Respects (λ z. component_of (overlaid first second) (down first.size z)) (whole_of first second circles).joins
whole-onto first second circles laid =
    let n = first.size in
    let Ties : ℕ × ℕ → Type 0 = λ pair. component_of (overlaid first second) (down n pair.0)
    ≡ component_of (overlaid first second) (down n pair.1) in
    let Before : ℕ × ℕ → Type 0 = λ pair. component_of (overlaid first second) pair.0 ≡ component_of (overlaid first second) pair.1 in
    let respects = overlay-respects first second circles laid in
    let lows : AllByRecursion Ties first.joins =
    AllByRecursion-both Before (λ pair. (pair.0 < n) × (pair.1 < n)) Ties first.joins
    (λ pair same below.
    ap (λ z. component_of (overlaid first second) z) (down-low n pair.0 below.0) ∙ same
    ∙ ap (λ z. component_of (overlaid first second) z) (sym (down-low n pair.1 below.1)))
    (AllByRecursion-first Before first.joins second.joins respects) laid.placed.joins in
    let highs : AllByRecursion Ties (map (pair_up n) second.joins) =
    AllByRecursion-map Ties (pair_up n) second.joins
    (AllByRecursion-weaker Before (λ pair. Ties (pair_up n pair)) second.joins
    (λ pair same.
    ap (λ z. component_of (overlaid first second) z) (down-up n pair.0) ∙ same
    ∙ ap (λ z. component_of (overlaid first second) z) (sym (down-up n pair.1)))
    (AllByRecursion-second Before first.joins second.joins respects)) in
    let ends : AllByRecursion Ties (map (across n) (at_places circles)) =
    AllByRecursion-map Ties (across n) (at_places circles)
    (AllByRecursion-map (λ pair. Ties (across n pair)) (λ (x : ℕ). (x, x)) circles
    (AllByRecursion-weaker (λ x. Contains first.places x × Contains second.places x)
    (λ x. Ties (x, n + x)) circles
    (λ x has.
    ap (λ z. component_of (overlaid first second) z)
    (down-low n x (place-below first x laid.placed has.0) ∙ sym (down-up n x)))
    laid.along.on)) in
    AllByRecursion-append Ties (union first second).joins (map (across n) (at_places circles))
    (AllByRecursion-append Ties first.joins (map (pair_up n) second.joins) lows highs) ends

-- the joins of the overlay, in the whole
overlay-back : (first second : Surface) (circles : List ℕ) → AreLaid first second circles
    → Respects (λ y. component_of (whole_of first second circles) (back_up first y)) (overlaid first second).joins
overlay-back first second circles laid =
    let n = first.size in
    let whole = whole_of first second circles in
    let Ties : ℕ × ℕ → Type 0 = λ pair. component_of whole (back_up first pair.0) ≡ component_of whole (back_up first pair.1) in
    let Before : ℕ × ℕ → Type 0 = λ pair. component_of whole pair.0 ≡ component_of whole pair.1 in
    let respects = parts-respected first second circles laid in
    let lows : AllByRecursion Ties first.joins =
    AllByRecursion-both Before (λ pair. Contains first.places pair.0 × Contains first.places pair.1) Ties first.joins
    (λ pair same has.
    ap (λ z. component_of whole z) (back-first first pair.0 has.0) ∙ same
    ∙ ap (λ z. component_of whole z) (sym (back-first first pair.1 has.1)))
    (AllByRecursion-first Before first.joins (map (pair_up n) second.joins) respects) laid.along.joins in
    let highs : AllByRecursion Ties second.joins =
    AllByRecursion-both (λ pair. Before (pair_up n pair)) (λ pair. Contains second.places pair.0 × Contains second.places pair.1) Ties
    second.joins
    (λ pair same has.
    back-second first second circles pair.0 laid has.0 ∙ same ∙ sym (back-second first second circles pair.1 laid has.1))
    (AllByRecursion-unmap Before (pair_up n) second.joins
    (AllByRecursion-second Before first.joins (map (pair_up n) second.joins) respects))
    laid.along.other_joins in
    AllByRecursion-append Ties first.joins second.joins lows highs

pub LeadsBack-laid : (first second : Surface) (circles : List ℕ) → AreLaid first second circles
    → LeadsBack (down first.size) (back_up first) (whole_of first second circles) (overlaid first second)
LeadsBack-laid first second circles laid =
    let n = first.size in
    let whole = whole_of first second circles in
    let over = overlaid first second in
    record {
      places = λ x has. elim (Contains-append_cases first.places (up n second.places) x has) [
        | inl in_first ↦ has-same over.places x (down n x) (sym (down-low n x (place-below first x laid.placed in_first)))
            (Contains-append_left first.places second.places x in_first)
        | inr in_second ↦
            let at = is-up n second.places x in_second in
            has-same over.places at.lower (down n x) (sym (down-up n at.lower) ∙ ap (λ z. down n z) at.is)
            (Contains-append_right first.places second.places at.lower at.has)
      ];
      back_places = λ y has. elim (cases_Bool (is_first first y)) [
        | inl is ↦ has-same whole.places y (back_up first y) (sym (back-true first y is))
            (first-has first second y (has-is_first first y is))
        | inr not ↦ has-same whole.places (n + y) (back_up first y) (sym (back-false first y not))
            (second-has first second y (second-only first second y has not))
      ];
      joins = whole-onto first second circles laid;
      back_joins = overlay-back first second circles laid;
      back_f = λ x has. elim (Contains-append_cases first.places (up n second.places) x has) [
        | inl in_first ↦
            ap (λ z. component_of whole (back_up first z)) (down-low n x (place-below first x laid.placed in_first))
            ∙ ap (λ z. component_of whole z) (back-first first x in_first)
        | inr in_second ↦
            let at = is-up n second.places x in_second in
            ap (λ z. component_of whole (back_up first z)) (ap (λ z. down n z) (sym at.is) ∙ down-up n at.lower)
            ∙ back-second first second circles at.lower laid at.has
            ∙ ap (λ z. component_of whole z) at.is
      ];
      f_back = λ y has. elim (Contains-append_cases first.places second.places y has) [
        | inl in_first ↦
            ap (λ z. component_of over (down n z)) (back-first first y in_first)
            ∙ ap (λ z. component_of over z) (down-low n y (place-below first y laid.placed in_first))
        | inr in_second ↦ ap (λ z. component_of over z) (down-second first second circles y laid in_second)
      ];
    }

-- the lists of the whole, brought down

map-same : {X : Type 0} (f : X → X) (xs : List X) → AllByRecursion (λ x. f x ≡ x) xs → map f xs ≡ xs
map-same f [] same = refl
map-same {X} f (x ∷ xs) same = ap₂ (λ (y : X) (ys : List X). y ∷ ys) same.0 (map-same f xs same.1)

map-back : {X : Type 0} (f g : X → X) (xs : List X) → ((x : X) → f (g x) ≡ x) → map f (map g xs) ≡ xs
map-back f g [] same = refl
map-back {X} f g (x ∷ xs) same = ap₂ (λ (y : X) (ys : List X). y ∷ ys) (same x) (map-back f g xs same)

brought-down : {X : Type 0} (f g : X → X) (xs ys : List X) → AllByRecursion (λ x. f x ≡ x) xs → ((y : X) → f (g y) ≡ y)
    → IsPermutation (map f (xs ++ map g ys)) (xs ++ ys)
brought-down {X} f g xs ys same back =
    rw (map-append f xs (map g ys) ∙ ap₂ (λ (zs ws : List X). zs ++ ws) (map-same f xs same) (map-back f g ys back))
    (IsPermutation-refl (xs ++ ys))

abbrev face_down : ℕ → ℕ × ℕ → ℕ × ℕ
face_down n face = (down n face.0, face.1)

faces-down : (first : Surface) → IsPlaced first → AllByRecursion (λ face. face_down first.size face ≡ face) first.faces
faces-down first placed =
    AllByRecursion-weaker (λ face. Contains first.places face.0) (λ face. face_down first.size face ≡ face) first.faces
    (λ face has. ap (λ (z : ℕ). (z, face.1)) (down-low first.size face.0 (place-below first face.0 placed has))) placed.faces

places-down : (first : Surface) (xs : List ℕ) → IsPlaced first → AllByRecursion (λ x. Contains first.places x) xs
    → AllByRecursion (λ x. down first.size x ≡ x) xs
places-down first xs placed all =
    AllByRecursion-weaker (λ x. Contains first.places x) (λ x. down first.size x ≡ x) xs
    (λ x has. down-low first.size x (place-below first x placed has)) all

Projects-laid : (first second : Surface) (circles : List ℕ) → AreLaid first second circles
    → Projects (down first.size) (whole_of first second circles) (overlaid first second)
Projects-laid first second circles laid =
    let n = first.size in
    record {
      components = KeepsComponents-led (down n) (back_up first) (whole_of first second circles) (overlaid first second)
          (whole-placed first second circles laid) (overlaid-placed first second circles laid)
          (LeadsBack-laid first second circles laid);
      faces = brought-down (face_down n) (face_up n) first.faces second.faces (faces-down first laid.placed)
          (λ face. ap (λ (z : ℕ). (z, face.1)) (down-up n face.0));
      lowers = brought-down (down n) (λ x. n + x) first.lowers second.lowers (places-down first first.lowers laid.placed laid.placed.lowers)
          (down-up n);
      raises = brought-down (down n) (λ x. n + x) first.raises second.raises (places-down first first.raises laid.placed laid.placed.raises)
          (down-up n);
    }

pub Corresponds-laid : (first second : Surface) (circles : List ℕ) → AreLaid first second circles
    → Corresponds (down first.size) (whole_of first second circles) (overlaid first second)
Corresponds-laid first second circles laid =
    Corresponds-projected (down first.size) (whole_of first second circles) (overlaid first second)
    (whole-placed first second circles laid) (Projects-laid first second circles laid)

pub value-laid : (h k : ℕ) (first second : Surface) (circles : List ℕ) → AreLaid first second circles
    → value h k (glued_two first second (at_places circles)) ≡ value h k (overlaid first second)
value-laid h k first second circles laid =
    value-moved h k (down first.size) (whole_of first second circles) (overlaid first second) (whole-placed first second circles laid)
    (overlaid-placed first second circles laid) (Corresponds-laid first second circles laid)

-- with the law of cuts
pub IsClosed-laid : (first second : Surface) (circles : List ℕ) (label : ℕ) → AreLaid first second circles
    → IsClosed (with_faces first (first_caps (at_places circles) label))
    → IsClosed (with_faces second (second_caps (at_places circles) label)) → IsClosed (overlaid first second)
IsClosed-laid first second circles label laid closed other_closed =
    IsClosed-moved (down first.size) (whole_of first second circles) (overlaid first second) (Corresponds-laid first second circles laid)
    (IsClosed-glued_two first second (at_places circles) label
    record {
      placed = laid.placed;
      other = laid.other;
      between = AreBetween-laid first second circles laid;
      closed = closed;
      other_closed = other_closed;
    })

pub sum-laid : (p h k : ℕ) (first second : Surface) (circles : List ℕ) (label : ℕ) → Same p (h + k) 0
    → AreLaid first second circles
    → IsClosed (with_faces first (first_caps (at_places circles) label))
    → IsClosed (with_faces second (second_caps (at_places circles) label))
    → Same p (sum_of_products h k first second (at_places circles)) (value h k (overlaid first second))
sum-laid p h k first second circles label none laid closed other_closed =
    value-glued_two p h k first second (at_places circles) label none
    record {
      placed = laid.placed;
      other = laid.other;
      between = AreBetween-laid first second circles laid;
      closed = closed;
      other_closed = other_closed;
    }
    ∙ same-equal p (value h k (glued_two first second (at_places circles))) (value h k (overlaid first second))
    (value-laid h k first second circles laid)
