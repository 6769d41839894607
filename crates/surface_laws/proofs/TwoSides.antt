-- Two surfaces glued along circles between them.
--
-- Circles between two surfaces are cut one after another (OneCut). Each cut puts a disc with a label on the one side and one with the other
-- label on the other side; after the last cut the two surfaces are apart. So the value is, modulo p, the sum over all labels of the
-- products of both values.
use Rattle.std.proofs.Common.{◌≡◌, ℕ, inl, inr, ◌+◌, ◌-◌, ◌*◌, ◌^◌, ◌<◌, ◌∙◌, List, [], ◌∷◌, ◌++◌, map, length, get_or, refl, sym, ap, append_assoc, arith}
use Rattle.std.specs.List.{flat_map, enumerate_from, AllByRecursion, Contains}
use Rattle.std.specs.List.Sorted.{IsPermutation}
use Rattle.std.proofs.lemmas.List.{length-map, map-append, get_or-map}
use Rattle.std.proofs.lemmas.List.Elements.{Contains-get_or, Contains-append_left, Contains-append_right, Contains-append_cases}
use Rattle.std.proofs.lemmas.List.Sorted.{IsPermutation-refl, IsPermutation-trans, IsPermutation-cons, IsPermutation-middle, IsPermutation-append_left, IsPermutation-append_right, IsPermutation-append_comm}
use Rattle.kh_types.specs.Bits.{bit}
use Rattle.kh_types.specs.Products.{sum_below}
use Rattle.kh_types.specs.Residues.{Same}
use Rattle.kh_types.proofs.ClassCounts.{AreBelow-wider}
use Rattle.kh_types.proofs.Lists.{AllByRecursion-append, Contains-map, AllByRecursion-weaker}
use Rattle.kh_types.proofs.Residues.{same-equal}
use Rattle.kh_types.proofs.Sums.{sum_below-equal}
use Rattle.surface_laws.specs.Surfaces.{Surface, component_of, IsClosed, value, IsPlaced}
use Rattle.surface_laws.specs.Cuts.{with_faces, caps_at, caps, capped, AreOn, union, first_caps, second_caps, AreBetween, glued_two, sum_of_products}
use Rattle.surface_laws.specs.Projections.{IsRelisted}
use Rattle.surface_laws.proofs.Components.{component-below}
use Rattle.surface_laws.proofs.Factors.{AreAlike-sym, genus-alike}
use Rattle.surface_laws.proofs.OneCut.{at_place}
use Rattle.surface_laws.proofs.Cut.{IsCuttable-placed, value-glued, IsClosed-glued}
use Rattle.surface_laws.proofs.Unions.{up, pair_up, face_up, place-below, component_of-first, component_of-second, alike-first, alike-second, value-union}
use Rattle.surface_laws.proofs.Renamed.{value-reordered, IsClosed-reordered}

pub AllByRecursion-map : {X Y : Type 0} (P : Y → Type 0) (f : X → Y) (xs : List X) → AllByRecursion (λ x. P (f x)) xs
    → AllByRecursion P (map f xs)
AllByRecursion-map P f [] all = tt
AllByRecursion-map P f (x ∷ xs) all = (all.0, AllByRecursion-map P f xs all.1)

-- a whole of placed parts is placed

pub first-has : (first second : Surface) (place : ℕ) → Contains first.places place → Contains (union first second).places place
first-has first second place has = Contains-append_left first.places (up first.size second.places) place has

pub second-has : (first second : Surface) (place : ℕ) → Contains second.places place
    → Contains (union first second).places (first.size + place)
second-has first second place has =
    Contains-append_right first.places (up first.size second.places) (first.size + place)
    (Contains-map (λ x. first.size + x) second.places place has)

all-placed : {X : Type 0} (first second : Surface) (place : X → ℕ) (g : X → X) (xs ys : List X)
    → ((y : X) → place (g y) ≡ first.size + place y) → AllByRecursion (λ x. Contains first.places (place x)) xs
    → AllByRecursion (λ y. Contains second.places (place y)) ys
    → AllByRecursion (λ z. Contains (union first second).places (place z)) (xs ++ map g ys)
all-placed {X} first second place g xs ys moved all other =
    let IsThere : X → Type 0 = λ z. Contains (union first second).places (place z) in
    AllByRecursion-append IsThere xs (map g ys)
    (AllByRecursion-weaker (λ x. Contains first.places (place x)) IsThere xs (λ x has. first-has first second (place x) has) all)
    (AllByRecursion-map IsThere g ys
    (AllByRecursion-weaker (λ y. Contains second.places (place y)) (λ y. IsThere (g y)) ys
    (λ y has. rw (moved y) (second-has first second (place y) has)) other))

pub IsPlaced-union : (first second : Surface) → IsPlaced first → IsPlaced second → IsPlaced (union first second)
IsPlaced-union first second placed other =
    let n = first.size in
    let k = second.size in
    record {
      joins = AllByRecursion-append (λ pair. (pair.0 < n + k) × (pair.1 < n + k)) first.joins (map (pair_up n) second.joins)
          (AreBelow-wider n (n + k) first.joins (omega arith) placed.joins)
          (AllByRecursion-map (λ pair. (pair.0 < n + k) × (pair.1 < n + k)) (pair_up n) second.joins
          (AllByRecursion-weaker (λ pair. (pair.0 < k) × (pair.1 < k)) (λ pair. (n + pair.0 < n + k) × (n + pair.1 < n + k))
          second.joins (λ pair below. (omega (arith, below.0), omega (arith, below.1))) other.joins));
      places = AllByRecursion-append (λ x. x < n + k) first.places (up n second.places)
          (AllByRecursion-weaker (λ x. x < n) (λ x. x < n + k) first.places (λ x below. omega (arith, below)) placed.places)
          (AllByRecursion-map (λ x. x < n + k) (λ x. n + x) second.places
          (AllByRecursion-weaker (λ x. x < k) (λ x. n + x < n + k) second.places (λ x below. omega (arith, below)) other.places));
      faces = all-placed first second (λ face. face.0) (face_up n) first.faces second.faces (λ face. refl) placed.faces other.faces;
      lowers = all-placed first second (λ x. x) (λ x. n + x) first.lowers second.lowers (λ x. refl) placed.lowers other.lowers;
      raises = all-placed first second (λ x. x) (λ x. n + x) first.raises second.raises (λ x. refl) placed.raises other.raises;
    }

pub IsPlaced-with_faces : (surface : Surface) (more : List (ℕ × ℕ)) → IsPlaced surface
    → AllByRecursion (λ face. Contains surface.places face.0) more → IsPlaced (with_faces surface more)
IsPlaced-with_faces surface more placed all = record {
  joins = placed.joins;
  places = placed.places;
  faces = AllByRecursion-append (λ face. Contains surface.places face.0) more surface.faces all placed.faces;
  lowers = placed.lowers;
  raises = placed.raises;
}

-- and one of closed parts is closed

pub record IsUp (n : ℕ) (xs : List ℕ) (place : ℕ) : Type 0 where
  pub lower : ℕ
  pub has : Contains xs lower
  pub is : n + lower ≡ place

pub is-up : (n : ℕ) (xs : List ℕ) (place : ℕ) → Contains (up n xs) place → IsUp n xs place
is-up n xs place (k, below, is) =
    let within : k < length xs = omega (arith, below, length-map xs (λ x. n + x)) in
    record {
      lower = get_or xs k 0;
      has = Contains-get_or xs k 0 within;
      is = sym (get_or-map (λ x. n + x) xs k 0 place within) ∙ is;
    }

pub IsClosed-union : (first second : Surface) → IsPlaced first → IsPlaced second → IsClosed first → IsClosed second
    → IsClosed (union first second)
IsClosed-union first second placed other closed other_closed =
    let whole = union first second in
    let n = first.size in
    record {
      genus = λ place has. elim (Contains-append_cases first.places (up n second.places) place has) [
        | inl in_first ↦
            let here = closed.genus place in_first in
            let below = place-below first place placed in_first in
            let k = component_of first place in (
              here.0,
              at_place whole (component_of whole place) k here.0 (component_of-first first second place placed other below)
                  (genus-alike first k whole k here.0
                  (AreAlike-sym whole k first k (alike-first first second k placed other (component-below first place placed.joins below)))
                  here.1),
            )
        | inr in_second ↦
            let at = is-up n second.places place in_second in
            let here = other_closed.genus at.lower at.has in
            let below = place-below second at.lower other at.has in
            let k = component_of second at.lower in (
              here.0,
              at_place whole (component_of whole place) (n + k) here.0
                  (ap (λ z. component_of whole z) (sym at.is) ∙ component_of-second first second at.lower placed other below)
                  (genus-alike second k whole (n + k) here.0
                  (AreAlike-sym whole (n + k) second k (alike-second first second k placed other)) here.1),
            )
      ];
    }

-- the discs on both sides, and those on each

abbrev pub across : ℕ → ℕ × ℕ → ℕ × ℕ
across n circle = (circle.0, n + circle.1)

abbrev first_cap : ℕ → ℕ × (ℕ × ℕ) → ℕ × ℕ
first_cap label at = (at.1.0, bit label at.0)

abbrev second_cap : ℕ → ℕ × (ℕ × ℕ) → ℕ × ℕ
second_cap label at = (at.1.1, 2 * (1 - bit label at.0))

sides : (n label k : ℕ) (circles : List (ℕ × ℕ))
    → IsPermutation
    (map (first_cap label) (enumerate_from k circles) ++ map (face_up n) (map (second_cap label) (enumerate_from k circles)))
    (flat_map (caps_at label) (enumerate_from k (map (across n) circles)))
sides n label k [] = IsPermutation-refl []
sides n label k (circle ∷ circles) =
    let first : ℕ × ℕ = (circle.0, bit label k) in
    let second : ℕ × ℕ = (n + circle.1, 2 * (1 - bit label k)) in
    let firsts = map (first_cap label) (enumerate_from (k + 1) circles) in
    let seconds = map (face_up n) (map (second_cap label) (enumerate_from (k + 1) circles)) in
    let rest = flat_map (caps_at label) (enumerate_from (k + 1) (map (across n) circles)) in
    IsPermutation-cons first (firsts ++ second ∷ seconds) (second ∷ rest)
    (IsPermutation-trans (firsts ++ second ∷ seconds) (second ∷ (firsts ++ seconds)) (second ∷ rest)
    (IsPermutation-middle firsts second seconds)
    (IsPermutation-cons second (firsts ++ seconds) rest (sides n label (k + 1) circles)))

-- four lists, of which the middle ones are exchanged
exchanged : {X : Type 0} (ws xs ys zs rest : List X) → IsPermutation (ws ++ ys) rest
    → IsPermutation ((ws ++ xs) ++ (ys ++ zs)) (rest ++ (xs ++ zs))
exchanged ws xs ys zs rest moved =
    let first : (ws ++ xs) ++ (ys ++ zs) ≡ ws ++ ((xs ++ ys) ++ zs) =
    append_assoc ws xs (ys ++ zs) ∙ ap (λ ps. ws ++ ps) (sym (append_assoc xs ys zs)) in
    let last : ws ++ ((ys ++ xs) ++ zs) ≡ (ws ++ ys) ++ (xs ++ zs) =
    ap (λ ps. ws ++ ps) (append_assoc ys xs zs) ∙ sym (append_assoc ws ys (xs ++ zs)) in
    rw first
    (IsPermutation-trans (ws ++ ((xs ++ ys) ++ zs)) (ws ++ ((ys ++ xs) ++ zs)) (rest ++ (xs ++ zs))
    (IsPermutation-append_right ws ((xs ++ ys) ++ zs) ((ys ++ xs) ++ zs)
    (IsPermutation-append_left zs (xs ++ ys) (ys ++ xs) (IsPermutation-append_comm xs ys)))
    (rw last (IsPermutation-append_left (xs ++ zs) (ws ++ ys) rest moved)))

both-sides : (first second : Surface) (circles : List (ℕ × ℕ)) (label : ℕ)
    → IsRelisted (union (with_faces first (first_caps circles label)) (with_faces second (second_caps circles label)))
    (capped (union first second) (map (across first.size) circles) label)
both-sides first second circles label =
    let n = first.size in
    record {
      size = refl;
      places = refl;
      joins = refl;
      faces = rw (map-append (face_up n) (second_caps circles label) second.faces)
          (exchanged (first_caps circles label) first.faces (map (face_up n) (second_caps circles label))
          (map (face_up n) second.faces) (caps (map (across n) circles) label) (sides n label 0 circles));
      lowers = IsPermutation-refl (union first second).lowers;
      raises = IsPermutation-refl (union first second).raises;
    }

first-placed : (first second : Surface) (circles : List (ℕ × ℕ)) (label k : ℕ) → AreBetween first second circles
    → AllByRecursion (λ face. Contains first.places face.0) (map (first_cap label) (enumerate_from k circles))
first-placed first second [] label k between = tt
first-placed first second (circle ∷ circles) label k between =
    (between.0.0, first-placed first second circles label (k + 1) between.1)

second-placed : (first second : Surface) (circles : List (ℕ × ℕ)) (label k : ℕ) → AreBetween first second circles
    → AllByRecursion (λ face. Contains second.places face.0) (map (second_cap label) (enumerate_from k circles))
second-placed first second [] label k between = tt
second-placed first second (circle ∷ circles) label k between =
    (between.0.1, second-placed first second circles label (k + 1) between.1)

pub AreOn-across : (first second : Surface) (circles : List (ℕ × ℕ)) → AreBetween first second circles
    → AreOn (union first second) (map (across first.size) circles)
AreOn-across first second [] between = tt
AreOn-across first second (circle ∷ circles) between = (
  (first-has first second circle.0 between.0.0, second-has first second circle.1 between.0.1),
  AreOn-across first second circles between.1,
)

-- what the law asks
pub record AreCut (first second : Surface) (circles : List (ℕ × ℕ)) (label : ℕ) : Type 0 where
  pub placed : IsPlaced first
  pub other : IsPlaced second
  pub between : AreBetween first second circles
  pub closed : IsClosed (with_faces first (first_caps circles label))
  pub other_closed : IsClosed (with_faces second (second_caps circles label))

whole-closed : (first second : Surface) (circles : List (ℕ × ℕ)) (label : ℕ) → AreCut first second circles label
    → IsClosed (capped (union first second) (map (across first.size) circles) label)
whole-closed first second circles label cut =
    let left = with_faces first (first_caps circles label) in
    let right = with_faces second (second_caps circles label) in
    IsClosed-reordered (union left right) (capped (union first second) (map (across first.size) circles) label)
    (both-sides first second circles label)
    (IsClosed-union left right
    (IsPlaced-with_faces first (first_caps circles label) cut.placed (first-placed first second circles label 0 cut.between))
    (IsPlaced-with_faces second (second_caps circles label) cut.other (second-placed first second circles label 0 cut.between))
    cut.closed cut.other_closed)

one-label : (h k : ℕ) (first second : Surface) (circles : List (ℕ × ℕ)) (label : ℕ) → IsPlaced first → IsPlaced second
    → AreBetween first second circles
    → value h k (with_faces first (first_caps circles label)) * value h k (with_faces second (second_caps circles label))
    ≡ value h k (capped (union first second) (map (across first.size) circles) label)
one-label h k first second circles label placed other between =
    let left = with_faces first (first_caps circles label) in
    let right = with_faces second (second_caps circles label) in
    sym (value-union h k left right
    (IsPlaced-with_faces first (first_caps circles label) placed (first-placed first second circles label 0 between))
    (IsPlaced-with_faces second (second_caps circles label) other (second-placed first second circles label 0 between)))
    ∙ value-reordered h k (union left right) (capped (union first second) (map (across first.size) circles) label)
    (both-sides first second circles label)

pub value-glued_two : (p h k : ℕ) (first second : Surface) (circles : List (ℕ × ℕ)) (label : ℕ) → Same p (h + k) 0
    → AreCut first second circles label
    → Same p (sum_of_products h k first second circles) (value h k (glued_two first second circles))
value-glued_two p h k first second circles label none cut =
    let whole = union first second in
    let across_all = map (across first.size) circles in
    same-equal p (sum_of_products h k first second circles)
    (sum_below (2 ^ length across_all) (λ l. value h k (capped whole across_all l)))
    (sum_below-equal (2 ^ length circles)
    (λ l. value h k (with_faces first (first_caps circles l)) * value h k (with_faces second (second_caps circles l)))
    (λ l. value h k (capped whole across_all l)) (λ l. one-label h k first second circles l cut.placed cut.other cut.between)
    ∙ ap (λ n. sum_below (2 ^ n) (λ l. value h k (capped whole across_all l))) (sym (length-map circles (across first.size))))
    ∙ value-glued p h k whole across_all none
    (IsCuttable-placed whole across_all label (IsPlaced-union first second cut.placed cut.other)
    (AreOn-across first second circles cut.between) (whole-closed first second circles label cut))

pub IsClosed-glued_two : (first second : Surface) (circles : List (ℕ × ℕ)) (label : ℕ) → AreCut first second circles label
    → IsClosed (glued_two first second circles)
IsClosed-glued_two first second circles label cut =
    let whole = union first second in
    let across_all = map (across first.size) circles in
    IsClosed-glued whole across_all
    (IsCuttable-placed whole across_all label (IsPlaced-union first second cut.placed cut.other)
    (AreOn-across first second circles cut.between) (whole-closed first second circles label cut))
