-- Both ways to compose two terms are one surface, with the faces of both and the outer circles. So two sums agree, modulo p: that of the
-- products of both terms' entries, over the labels of the circles between them, and that of the composition's coefficients times
-- the entries of the dot sets from the first pairing to the last. Either sum is the number of two parts laid on each other: both
-- terms without the circles between them, or the composition and its outside without the discs between them. The parts are
-- placed, are closed once these are filled, and meet along them. Both overlays have the same components, faces and strips, and so
-- one number.
use Rattle.std.proofs.Common.{◌≡◌, ℕ, ◌+◌, ◌*◌, ◌^◌, ◌<◌, ◌∙◌, inl, inr, List, [], ◌++◌, map, length, refl, sym, ap, ap₂, arith, append_assoc}
use Rattle.std.specs.List.{AllByRecursion, Contains}
use Rattle.std.specs.List.Sorted.{IsPermutation}
use Rattle.std.proofs.lemmas.List.{map-id, length-map}
use Rattle.std.proofs.lemmas.List.Elements.{Contains-append_left, Contains-append_cases}
use Rattle.std.proofs.lemmas.List.Sorted.{IsPermutation-refl, IsPermutation-trans, IsPermutation-append_comm, IsPermutation-append_left, IsPermutation-append_right, IsPermutation-map}
use Rattle.kh_types.specs.Products.{sum_below}
use Rattle.kh_types.specs.Residues.{Same}
use Rattle.kh_types.proofs.Residues.{same-equal}
use Rattle.kh_types.proofs.ClassLemmas.{classes-together}
use Rattle.kh_types.proofs.Lists.{AllByRecursion-append, AllByRecursion-first, AllByRecursion-second}
use Rattle.kh_types.proofs.Sums.{sum_below-equal}
use Rattle.surface_laws.specs.Surfaces.{Surface, component_of, IsPlaced, IsClosed, value}
use Rattle.surface_laws.specs.Cuts.{with_faces, first_caps, second_caps, sum_of_products}
use Rattle.surface_laws.specs.Overlays.{overlaid, at_places}
use Rattle.surface_laws.specs.Projections.{LeadsBack, Projects}
use Rattle.surface_laws.proofs.Components.{AllByRecursion-at, AllByRecursion-weaker}
use Rattle.surface_laws.proofs.OneCut.{place_of_face}
use Rattle.surface_laws.proofs.Overlaid.{AreLaid, IsPlaced-overlaid, sum-laid}
use Rattle.surface_laws.proofs.Renamed.{KeepsComponents-led, value-reordered}
use Rattle.surface_laws.proofs.Projected.{Corresponds-projected, value-moved}
use Rattle.surface_laws.specs.Points.{Points, ArePlaced, AreAmong, inner, discs, circles}
use Rattle.surface_laws.specs.Sheets.{marked, marked_else, sheet}
use Rattle.dotted_maps.specs.Terms.{term_faces, entry, AreGlued}
use Rattle.dotted_maps.specs.Composition.{composed, composed_faces}
use Rattle.dotted_maps.proofs.LeastPoints.{AreJoins, AreAmong-append, all-themselves, least_points-turned}
use Rattle.dotted_maps.proofs.Sheets.{places-marked, places-marked_else, first_caps-marked, second_caps-marked, placed-marked, placed-marked_else, faces-alive, opened-alive, pairing-alive, sheet-among, IsPlaced-sheet, IsClosed-sheet, places-three, places-term}
use Rattle.dotted_maps.proofs.Meeting.{AreLaid-shared}

-- lists in other orders

pub front : {X : Type 0} (xs ys zs : List X) → IsPermutation (xs ++ (ys ++ zs)) (ys ++ (xs ++ zs))
front {X} xs ys zs =
    let moved : IsPermutation ((xs ++ ys) ++ zs) ((ys ++ xs) ++ zs) =
    IsPermutation-append_left zs (xs ++ ys) (ys ++ xs) (IsPermutation-append_comm xs ys) in
    rw (sym (append_assoc xs ys zs), sym (append_assoc ys xs zs)) moved

last-front : {X : Type 0} (xs ys zs : List X) → IsPermutation (xs ++ (ys ++ zs)) (ys ++ (zs ++ xs))
last-front {X} xs ys zs =
    let moved : IsPermutation (xs ++ (ys ++ zs)) ((ys ++ zs) ++ xs) = IsPermutation-append_comm xs (ys ++ zs) in
    rw (sym (append_assoc ys zs xs)) moved

reversed : {X : Type 0} (xs ys zs : List X) → IsPermutation (xs ++ (ys ++ zs)) (zs ++ (ys ++ xs))
reversed {X} xs ys zs =
    let moved : IsPermutation ((ys ++ xs) ++ zs) (zs ++ (ys ++ xs)) = IsPermutation-append_comm (ys ++ xs) zs in
    let same : IsPermutation (ys ++ (xs ++ zs)) (zs ++ (ys ++ xs)) = rw (sym (append_assoc ys xs zs)) moved in
    IsPermutation-trans (xs ++ (ys ++ zs)) (ys ++ (xs ++ zs)) (zs ++ (ys ++ xs)) (front xs ys zs) same

four : {X : Type 0} (us bs cs ds : List X) → IsPermutation ((us ++ bs) ++ (cs ++ ds)) ((cs ++ us) ++ (ds ++ bs))
four {X} us bs cs ds =
    let back : (cs ++ ds) ++ (us ++ bs) ≡ cs ++ (ds ++ (us ++ bs)) = append_assoc cs ds (us ++ bs) in
    let done : (cs ++ us) ++ (ds ++ bs) ≡ cs ++ (us ++ (ds ++ bs)) = append_assoc cs us (ds ++ bs) in
    let first : IsPermutation ((us ++ bs) ++ (cs ++ ds)) (cs ++ (ds ++ (us ++ bs))) =
    rw (sym back) (IsPermutation-append_comm (us ++ bs) (cs ++ ds)) in
    let second : IsPermutation (cs ++ (ds ++ (us ++ bs))) ((cs ++ us) ++ (ds ++ bs)) =
    rw done (IsPermutation-append_right cs (ds ++ (us ++ bs)) (us ++ (ds ++ bs)) (front ds us bs)) in
    IsPermutation-trans ((us ++ bs) ++ (cs ++ ds)) (cs ++ (ds ++ (us ++ bs))) ((cs ++ us) ++ (ds ++ bs)) first second

-- what is asked of two terms that are composed
pub record AreComposed (points : Points) (m n o w : List (ℕ × ℕ)) : Type 0 where
  pub placed : ArePlaced points
  pub first : AreGlued points m n w
  pub second : AreGlued points n o w
  pub whole : AreGlued points m o w
  pub inside : AreGlued (inner points) m o n

-- the parts: both terms without the circles between them, and the composition and its outside without the discs between them

abbrev first_part : Points → List (ℕ × ℕ) → List (ℕ × ℕ) → List (ℕ × ℕ) → ℕ → ℕ → Surface
first_part points m n w dots before = sheet points m n w (marked before (circles points m w) ++ marked dots (discs points m n))

abbrev second_part : Points → List (ℕ × ℕ) → List (ℕ × ℕ) → List (ℕ × ℕ) → ℕ → ℕ → Surface
second_part points n o w others after = sheet points n o w (marked_else after (circles points o w) ++ marked others (discs points n o))

abbrev outer_part : Points → List (ℕ × ℕ) → List (ℕ × ℕ) → List (ℕ × ℕ) → ℕ → ℕ → Surface
outer_part points m o w before after =
    sheet points m o w (marked before (circles points m w) ++ marked_else after (circles points o w))

abbrev inner_part : Points → List (ℕ × ℕ) → List (ℕ × ℕ) → List (ℕ × ℕ) → ℕ → ℕ → Surface
inner_part points m n o dots others = sheet (inner points) m o n (marked dots (discs points m n) ++ marked others (discs points n o))

ArePlaced-inner : (points : Points) → ArePlaced points → ArePlaced (inner points)
ArePlaced-inner points placed = record {
  alive = AllByRecursion-weaker (λ x. Contains points.alive x) (λ x. x < points.size) points.opened
      (λ x has. AllByRecursion-at (λ y. y < points.size) points.alive x placed.alive has) placed.opened;
  opened = all-themselves points.opened;
}

all-both : (points : List ℕ) (xs ys : List (ℕ × ℕ)) → AllByRecursion (λ face. Contains points face.0) xs
    → AllByRecursion (λ face. Contains points face.0) ys → AllByRecursion (λ face. Contains points face.0) (xs ++ ys)
all-both points xs ys all others = AllByRecursion-append (λ face. Contains points face.0) xs ys all others

disc-faces : (points : Points) (m n : List (ℕ × ℕ)) (dots : ℕ) → ArePlaced points
    → AllByRecursion (λ face. Contains points.alive face.0) (marked dots (discs points m n))
disc-faces points m n dots placed =
    faces-alive points (marked dots (discs points m n)) placed (placed-marked dots points.size points.opened (m ++ n))

first-placed : (points : Points) (m n o w : List (ℕ × ℕ)) (dots before : ℕ) → AreComposed points m n o w
    → IsPlaced (first_part points m n w dots before)
first-placed points m n o w dots before all =
    IsPlaced-sheet points m n w (marked before (circles points m w) ++ marked dots (discs points m n)) all.placed all.first.first
    all.first.second all.first.outside
    (all-both points.alive (marked before (circles points m w)) (marked dots (discs points m n))
    (placed-marked before points.size points.alive (m ++ w)) (disc-faces points m n dots all.placed))

second-placed : (points : Points) (m n o w : List (ℕ × ℕ)) (others after : ℕ) → AreComposed points m n o w
    → IsPlaced (second_part points n o w others after)
second-placed points m n o w others after all =
    IsPlaced-sheet points n o w (marked_else after (circles points o w) ++ marked others (discs points n o)) all.placed all.second.first
    all.second.second all.second.outside
    (all-both points.alive (marked_else after (circles points o w)) (marked others (discs points n o))
    (placed-marked_else after points.size points.alive (o ++ w)) (disc-faces points n o others all.placed))

outer-placed : (points : Points) (m n o w : List (ℕ × ℕ)) (before after : ℕ) → AreComposed points m n o w
    → IsPlaced (outer_part points m o w before after)
outer-placed points m n o w before after all =
    IsPlaced-sheet points m o w (marked before (circles points m w) ++ marked_else after (circles points o w)) all.placed
    all.whole.first all.whole.second all.whole.outside
    (all-both points.alive (marked before (circles points m w)) (marked_else after (circles points o w))
    (placed-marked before points.size points.alive (m ++ w)) (placed-marked_else after points.size points.alive (o ++ w)))

inner-placed : (points : Points) (m n o w : List (ℕ × ℕ)) (dots others : ℕ) → AreComposed points m n o w
    → IsPlaced (inner_part points m n o dots others)
inner-placed points m n o w dots others all =
    IsPlaced-sheet (inner points) m o n (marked dots (discs points m n) ++ marked others (discs points n o))
    (ArePlaced-inner points all.placed) all.inside.first all.inside.second all.inside.outside
    (all-both points.opened (marked dots (discs points m n)) (marked others (discs points n o))
    (placed-marked dots points.size points.opened (m ++ n)) (placed-marked others points.size points.opened (n ++ o)))

-- what the joins of a sheet tie

abbrev Ties : Surface → ℕ × ℕ → Type 0
Ties surface pair = component_of surface pair.0 ≡ component_of surface pair.1

pub record AreTied (surface : Surface) (xs ys zs : List (ℕ × ℕ)) : Type 0 where
  pub first : AllByRecursion (Ties surface) xs
  pub second : AllByRecursion (Ties surface) ys
  pub third : AllByRecursion (Ties surface) zs

tied-three : (surface : Surface) (xs ys zs : List (ℕ × ℕ)) → AllByRecursion (Ties surface) (xs ++ (ys ++ zs)) → AreTied surface xs ys zs
tied-three surface xs ys zs all =
    let later = AllByRecursion-second (Ties surface) xs (ys ++ zs) all in
    record {
      first = AllByRecursion-first (Ties surface) xs (ys ++ zs) all;
      second = AllByRecursion-first (Ties surface) ys zs later;
      third = AllByRecursion-second (Ties surface) ys zs later;
    }

three-tied : (surface : Surface) (xs ys zs : List (ℕ × ℕ)) → AllByRecursion (Ties surface) xs → AllByRecursion (Ties surface) ys
    → AllByRecursion (Ties surface) zs → AllByRecursion (Ties surface) (xs ++ (ys ++ zs))
three-tied surface xs ys zs first second third =
    AllByRecursion-append (Ties surface) xs (ys ++ zs) first (AllByRecursion-append (Ties surface) ys zs second third)

two-tied : (surface : Surface) (xs ys : List (ℕ × ℕ)) → AllByRecursion (Ties surface) xs → AllByRecursion (Ties surface) ys
    → AllByRecursion (Ties surface) (xs ++ ys)
two-tied surface xs ys first second = AllByRecursion-append (Ties surface) xs ys first second

own-ties : (surface : Surface) → IsPlaced surface → AllByRecursion (Ties surface) surface.joins
own-ties surface placed = classes-together surface.size surface.joins placed.joins

sheet-ties : (points : Points) (m n w faces : List (ℕ × ℕ)) → IsPlaced (sheet points m n w faces)
    → AreTied (sheet points m n w faces) m n w
sheet-ties points m n w faces placed = tied-three (sheet points m n w faces) m n w (own-ties (sheet points m n w faces) placed)

-- the parts meet along the circles between them, and along the discs

outer-joins : (points : Points) (m n o w : List (ℕ × ℕ)) → AreComposed points m n o w → AreJoins points.size points.alive (n ++ w)
outer-joins points m n o w all = record {
  below = all.placed.alive;
  among = AreAmong-append points.alive n w (pairing-alive points n all.placed all.first.second) all.first.outside;
}

inner-joins : (points : Points) (m n : List (ℕ × ℕ)) → ArePlaced points → AreAmong points.opened m → AreAmong points.opened n
    → AreJoins points.size points.opened (m ++ n)
inner-joins points m n placed first second = record {
  below = (ArePlaced-inner points placed).alive;
  among = AreAmong-append points.opened m n first second;
}

laid-terms : (points : Points) (m n o w : List (ℕ × ℕ)) (dots others before after : ℕ) → AreComposed points m n o w
    → AreLaid (second_part points n o w others after) (first_part points m n w dots before) (circles points n w)
laid-terms points m n o w dots others before after all =
    let second = second_part points n o w others after in
    let first = first_part points m n w dots before in
    let placed = second-placed points m n o w others after all in
    let other = first-placed points m n o w dots before all in
    let ties = sheet-ties points n o w (marked_else after (circles points o w) ++ marked others (discs points n o)) placed in
    let other_ties = sheet-ties points m n w (marked before (circles points m w) ++ marked dots (discs points m n)) other in
    AreLaid-shared second first points.alive (n ++ w)
    record {
      size = refl;
      placed = placed;
      other = other;
      joins = sheet-among points n o w all.placed all.second.first all.second.second all.second.outside;
      other_joins = sheet-among points m n w all.placed all.first.first all.first.second all.first.outside;
      in_first = λ x has. has;
      in_second = λ x has. has;
      meet = λ x has in_second. has;
      shared = outer-joins points m n o w all;
      tied = two-tied second n w ties.first ties.third;
      other_tied = two-tied first n w other_ties.second other_ties.third;
    }

laid-discs : (points : Points) (m n o w : List (ℕ × ℕ)) (dots others before after : ℕ) → AreComposed points m n o w
    → AreLaid (outer_part points m o w before after) (inner_part points m n o dots others) (discs points m o)
laid-discs points m n o w dots others before after all =
    let outside = outer_part points m o w before after in
    let inside = inner_part points m n o dots others in
    let placed = outer-placed points m n o w before after all in
    let other = inner-placed points m n o w dots others all in
    let ties = sheet-ties points m o w (marked before (circles points m w) ++ marked_else after (circles points o w)) placed in
    let other_ties = sheet-ties (inner points) m o n (marked dots (discs points m n) ++ marked others (discs points n o)) other in
    AreLaid-shared outside inside points.opened (m ++ o)
    record {
      size = refl;
      placed = placed;
      other = other;
      joins = sheet-among points m o w all.placed all.whole.first all.whole.second all.whole.outside;
      other_joins = sheet-among (inner points) m o n (ArePlaced-inner points all.placed) all.inside.first all.inside.second
          all.inside.outside;
      in_first = λ x has. opened-alive points x all.placed has;
      in_second = λ x has. has;
      meet = λ x in_alive has. has;
      shared = inner-joins points m o all.placed all.whole.first all.whole.second;
      tied = two-tied outside m o ties.first ties.second;
      other_tied = two-tied inside m o other_ties.first other_ties.second;
    }

-- both overlays have the same points, joins, faces and strips

leads-both : (points : Points) (m n o w : List (ℕ × ℕ)) (dots others before after : ℕ) → AreComposed points m n o w
    → LeadsBack (λ x. x) (λ x. x)
    (overlaid (second_part points n o w others after) (first_part points m n w dots before))
    (overlaid (outer_part points m o w before after) (inner_part points m n o dots others))
leads-both points m n o w dots others before after all =
    let terms = overlaid (second_part points n o w others after) (first_part points m n w dots before) in
    let parts = overlaid (outer_part points m o w before after) (inner_part points m n o dots others) in
    let laid = laid-terms points m n o w dots others before after all in
    let laid_discs = laid-discs points m n o w dots others before after all in
    let terms_tied : AllByRecursion (Ties terms) ((n ++ (o ++ w)) ++ (m ++ (n ++ w))) =
    own-ties terms
    (IsPlaced-overlaid (second_part points n o w others after) (first_part points m n w dots before) refl laid.placed laid.other) in
    let parts_tied : AllByRecursion (Ties parts) ((m ++ (o ++ w)) ++ (m ++ (o ++ n))) =
    own-ties parts
    (IsPlaced-overlaid (outer_part points m o w before after) (inner_part points m n o dots others) refl laid_discs.placed
    laid_discs.other) in
    let in_terms = tied-three terms n o w (AllByRecursion-first (Ties terms) (n ++ (o ++ w)) (m ++ (n ++ w)) terms_tied) in
    let more_terms = tied-three terms m n w (AllByRecursion-second (Ties terms) (n ++ (o ++ w)) (m ++ (n ++ w)) terms_tied) in
    let in_parts = tied-three parts m o w (AllByRecursion-first (Ties parts) (m ++ (o ++ w)) (m ++ (o ++ n)) parts_tied) in
    let more_parts = tied-three parts m o n (AllByRecursion-second (Ties parts) (m ++ (o ++ w)) (m ++ (o ++ n)) parts_tied) in
    record {
      places = λ x has. elim (Contains-append_cases points.alive points.alive x has) [
        | inl here ↦ Contains-append_left points.alive points.opened x here
        | inr here ↦ Contains-append_left points.alive points.opened x here
      ];
      back_places = λ x has. elim (Contains-append_cases points.alive points.opened x has) [
        | inl here ↦ Contains-append_left points.alive points.alive x here
        | inr here ↦ Contains-append_left points.alive points.alive x (opened-alive points x all.placed here)
      ];
      joins = two-tied parts (n ++ (o ++ w)) (m ++ (n ++ w)) (three-tied parts n o w more_parts.third in_parts.second in_parts.third)
          (three-tied parts m n w in_parts.first more_parts.third in_parts.third);
      back_joins = two-tied terms (m ++ (o ++ w)) (m ++ (o ++ n))
          (three-tied terms m o w more_terms.first in_terms.second in_terms.third)
          (three-tied terms m o n more_terms.first in_terms.second in_terms.first);
      back_f = λ x has. refl;
      f_back = λ x has. refl;
    }

same-faces : (xs ys : List (ℕ × ℕ)) → IsPermutation xs ys → IsPermutation (map (λ face. (face.0, face.1)) xs) ys
same-faces xs ys moved = rw (map-id xs) moved

same-places : (xs : List ℕ) → IsPermutation (map (λ x. x) xs) xs
same-places xs = rw (map-id xs) (IsPermutation-refl xs)

one-surface : (h k : ℕ) (points : Points) (m n o w : List (ℕ × ℕ)) (dots others before after : ℕ) → AreComposed points m n o w
    → value h k (overlaid (second_part points n o w others after) (first_part points m n w dots before))
    ≡ value h k (overlaid (outer_part points m o w before after) (inner_part points m n o dots others))
one-surface h k points m n o w dots others before after all =
    let terms = overlaid (second_part points n o w others after) (first_part points m n w dots before) in
    let parts = overlaid (outer_part points m o w before after) (inner_part points m n o dots others) in
    let laid = laid-terms points m n o w dots others before after all in
    let laid_discs = laid-discs points m n o w dots others before after all in
    let placed : IsPlaced terms =
    IsPlaced-overlaid (second_part points n o w others after) (first_part points m n w dots before) refl laid.placed laid.other in
    let parts_placed : IsPlaced parts =
    IsPlaced-overlaid (outer_part points m o w before after) (inner_part points m n o dots others) refl laid_discs.placed
    laid_discs.other in
    let projects : Projects (λ x. x) terms parts =
    record {
      components = KeepsComponents-led (λ x. x) (λ x. x) terms parts placed parts_placed
          (leads-both points m n o w dots others before after all);
      faces = same-faces terms.faces parts.faces
          (four (marked_else after (circles points o w)) (marked others (discs points n o)) (marked before (circles points m w))
          (marked dots (discs points m n)));
      lowers = same-places (points.opened ++ points.opened);
      raises = same-places ([] ++ []);
    } in
    value-moved h k (λ x. x) terms parts placed parts_placed (Corresponds-projected (λ x. x) terms parts placed projects)

-- sums of products in the words of terms

sum-marked : (h k : ℕ) (first second : Surface) (places : List ℕ) (f g : ℕ → ℕ)
    → ((label : ℕ) → value h k (with_faces first (marked label places)) ≡ f label)
    → ((label : ℕ) → value h k (with_faces second (marked_else label places)) ≡ g label)
    → sum_of_products h k first second (at_places places) ≡ sum_below (2 ^ length places) (λ label. g label * f label)
sum-marked h k first second places f g is_f is_g =
    ap (λ n. sum_below (2 ^ n) (λ label. value h k (with_faces first (first_caps (at_places places) label))
    * value h k (with_faces second (second_caps (at_places places) label))))
    (length-map places (λ x. (x, x)))
    ∙ sum_below-equal (2 ^ length places)
    (λ label. value h k (with_faces first (first_caps (at_places places) label))
    * value h k (with_faces second (second_caps (at_places places) label)))
    (λ label. g label * f label)
    (λ label.
    ap₂ (λ x y. x * y) (ap (λ faces. value h k (with_faces first faces)) (first_caps-marked label places) ∙ is_f label)
    (ap (λ faces. value h k (with_faces second faces)) (second_caps-marked label places) ∙ is_g label)
    ∙ turned (f label) (g label))
  where
    turned : (x y : ℕ) → x * y ≡ y * x
    turned x y = omega arith

value-faces : (h k : ℕ) (points : Points) (m n w faces others : List (ℕ × ℕ)) → IsPermutation faces others
    → value h k (sheet points m n w faces) ≡ value h k (sheet points m n w others)
value-faces h k points m n w faces others moved =
    value-reordered h k (sheet points m n w faces) (sheet points m n w others)
    record {
      size = refl;
      places = refl;
      joins = refl;
      faces = moved;
      lowers = IsPermutation-refl points.opened;
      raises = IsPermutation-refl [];
    }

-- a sheet is closed at all dots and labels
pub closed-term : (points : Points) (m n w others : List (ℕ × ℕ)) (dots before after : ℕ) → AreGlued points m n w
    → IsPermutation (term_faces points m n w dots before after) others → IsClosed (sheet points m n w others)
closed-term points m n w others dots before after glued moved =
    IsClosed-sheet points m n w (term_faces points m n w 0 0 0) others
    (rw (places-term points m n w 0 0 0 ∙ sym (places-term points m n w dots before after))
    (IsPermutation-map place_of_face (term_faces points m n w dots before after) others moved))
    glued.closed

-- the terms, one after the other

second-term : (points : Points) (n o w : List (ℕ × ℕ)) (others between after : ℕ)
    → IsPermutation (term_faces points n o w others between after)
    (marked between (circles points n w) ++ (marked_else after (circles points o w) ++ marked others (discs points n o)))
second-term points n o w others between after =
    last-front (marked others (discs points n o)) (marked between (circles points n w)) (marked_else after (circles points o w))

first-term : (points : Points) (m n w : List (ℕ × ℕ)) (dots before between : ℕ)
    → IsPermutation (term_faces points m n w dots before between)
    (marked_else between (circles points n w) ++ (marked before (circles points m w) ++ marked dots (discs points m n)))
first-term points m n w dots before between =
    reversed (marked dots (discs points m n)) (marked before (circles points m w)) (marked_else between (circles points n w))

abbrev term_sum : ℕ → ℕ → Points → List (ℕ × ℕ) → List (ℕ × ℕ) → List (ℕ × ℕ) → List (ℕ × ℕ) → ℕ → ℕ → ℕ → ℕ → ℕ
term_sum h k points m n o w dots others before after =
    sum_below (2 ^ length (circles points n w))
    (λ between. entry h k points m n w dots before between * entry h k points n o w others between after)

terms-side : (p h k : ℕ) (points : Points) (m n o w : List (ℕ × ℕ)) (dots others before after : ℕ) → Same p (h + k) 0
    → AreComposed points m n o w
    → Same p (term_sum h k points m n o w dots others before after)
    (value h k (overlaid (second_part points n o w others after) (first_part points m n w dots before)))
terms-side p h k points m n o w dots others before after cancels all =
    let second = second_part points n o w others after in
    let first = first_part points m n w dots before in
    let places = circles points n w in
    same-equal p (term_sum h k points m n o w dots others before after) (sum_of_products h k second first (at_places places))
    (sym (sum-marked h k second first places (λ between. entry h k points n o w others between after)
    (λ between. entry h k points m n w dots before between)
    (λ between. sym (value-faces h k points n o w (term_faces points n o w others between after)
    (marked between places ++ (marked_else after (circles points o w) ++ marked others (discs points n o)))
    (second-term points n o w others between after)))
    (λ between. sym (value-faces h k points m n w (term_faces points m n w dots before between)
    (marked_else between places ++ (marked before (circles points m w) ++ marked dots (discs points m n)))
    (first-term points m n w dots before between)))))
    ∙ sum-laid p h k second first places 0 cancels (laid-terms points m n o w dots others before after all)
    (rw (first_caps-marked 0 places)
    (closed-term points n o w
    (marked 0 places ++ (marked_else after (circles points o w) ++ marked others (discs points n o))) others 0 after all.second
    (second-term points n o w others 0 after)))
    (rw (second_caps-marked 0 places)
    (closed-term points m n w
    (marked_else 0 places ++ (marked before (circles points m w) ++ marked dots (discs points m n))) dots before 0 all.first
    (first-term points m n w dots before 0)))

-- the composition, and its outside

places-composed : (points : Points) (m n o : List (ℕ × ℕ)) (dots others kept : ℕ) → ArePlaced points
    → AreGlued (inner points) m o n
    → map place_of_face (term_faces (inner points) m o n 0 0 0) ≡ map place_of_face (composed_faces points m n o dots others kept)
places-composed points m n o dots others kept placed glued =
    places-term (inner points) m o n 0 0 0
    ∙ ap (λ places. discs points m o ++ (discs points m n ++ places))
    (least_points-turned points.size points.opened o n (inner-joins points o n placed glued.second glued.outside)
    (inner-joins points n o placed glued.outside glued.second))
    ∙ sym (places-three (marked_else kept (discs points m o)) (marked dots (discs points m n)) (marked others (discs points n o))
    (discs points m o) (discs points m n) (discs points n o) (places-marked_else kept (discs points m o))
    (places-marked dots (discs points m n)) (places-marked others (discs points n o)))

pub closed-composed : (points : Points) (m n o : List (ℕ × ℕ)) (dots others kept : ℕ) → ArePlaced points
    → AreGlued (inner points) m o n → IsClosed (sheet (inner points) m o n (composed_faces points m n o dots others kept))
closed-composed points m n o dots others kept placed glued =
    let places = map place_of_face (composed_faces points m n o dots others kept) in
    IsClosed-sheet (inner points) m o n (term_faces (inner points) m o n 0 0 0) (composed_faces points m n o dots others kept)
    (rw (places-composed points m n o dots others kept placed glued) (IsPermutation-refl places)) glued.closed

abbrev disc_sum : ℕ → ℕ → Points → List (ℕ × ℕ) → List (ℕ × ℕ) → List (ℕ × ℕ) → List (ℕ × ℕ) → ℕ → ℕ → ℕ → ℕ → ℕ
disc_sum h k points m n o w dots others before after =
    sum_below (2 ^ length (discs points m o))
    (λ kept. composed h k points m n o dots others kept * entry h k points m o w kept before after)

discs-side : (p h k : ℕ) (points : Points) (m n o w : List (ℕ × ℕ)) (dots others before after : ℕ) → Same p (h + k) 0
    → AreComposed points m n o w
    → Same p (disc_sum h k points m n o w dots others before after)
    (value h k (overlaid (outer_part points m o w before after) (inner_part points m n o dots others)))
discs-side p h k points m n o w dots others before after cancels all =
    let outside = outer_part points m o w before after in
    let inside = inner_part points m n o dots others in
    let places = discs points m o in
    same-equal p (disc_sum h k points m n o w dots others before after) (sum_of_products h k outside inside (at_places places))
    (sym (sum-marked h k outside inside places (λ kept. entry h k points m o w kept before after)
    (λ kept. composed h k points m n o dots others kept) (λ kept. refl) (λ kept. refl)))
    ∙ sum-laid p h k outside inside places 0 cancels (laid-discs points m n o w dots others before after all)
    (rw (first_caps-marked 0 places)
    (closed-term points m o w (term_faces points m o w 0 before after) 0 before after all.whole
    (IsPermutation-refl (term_faces points m o w 0 before after))))
    (rw (second_caps-marked 0 places) (closed-composed points m n o dots others 0 all.placed all.inside))

pub composed-sums : (p h k : ℕ) (points : Points) (m n o w : List (ℕ × ℕ)) (dots others before after : ℕ) → Same p (h + k) 0
    → AreComposed points m n o w
    → Same p
    (sum_below (2 ^ length (circles points n w))
    (λ between. entry h k points m n w dots before between * entry h k points n o w others between after))
    (sum_below (2 ^ length (discs points m o))
    (λ kept. composed h k points m n o dots others kept * entry h k points m o w kept before after))
composed-sums p h k points m n o w dots others before after cancels all =
    terms-side p h k points m n o w dots others before after cancels all
    ∙ same-equal p (value h k (overlaid (second_part points n o w others after) (first_part points m n w dots before)))
    (value h k (overlaid (outer_part points m o w before after) (inner_part points m n o dots others)))
    (one-surface h k points m n o w dots others before after all)
    ∙ sym (discs-side p h k points m n o w dots others before after cancels all)
