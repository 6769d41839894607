-- The overlay has the number of the whole.
--
-- New pairs join what the joins near the crossing do, so the joins of the overlay and those of the whole have the same classes. Hence the
-- two are compared component by component: circles outside and closed circles are the circles of the whole, on both sides (`sum-circles`);
-- the half strips that raise the one part and lower the other cancel; all else is in both. The numbers are the same (`value-whole`), and
-- the law of overlays gives the sum over the dots (`sum-added`).
use Rattle.std.proofs.Common.{◌≡◌, ℕ, inl, inr, ◌+◌, ◌*◌, ◌/◌, ◌%◌, ◌<◌, ◌∙◌, List, ◌++◌, refl, sym, ap, ap₂, arith, Bool, cond}
use Rattle.std.specs.Prelude.{nat_eq, slice_index}
use Rattle.std.proofs.lemmas.Bool.{or_cases}
use Rattle.std.specs.List.{list_any, sum_by, Contains}
use Rattle.std.specs.Cmp.{both_ways}
use Rattle.std.proofs.lemmas.List.Sums.{sum_by-append}
use Rattle.std.proofs.lemmas.List.Elements.{Contains-append_cases, Contains-append_left, Contains-append_right}
use Rattle.kh_types.specs.Classes.{classes_of, Respects, AreBelow}
use Rattle.kh_types.proofs.ClassLemmas.{classes-together, Respects-append, Respects-first, Respects-second}
use Rattle.kh_types.proofs.JoinedClasses.{classes_of-same}
use Rattle.kh_types.proofs.Lists.{AllByRecursion-append, AllByRecursion-both}
use Rattle.kh_types.proofs.ListSums.{sum_by-alike, sum_by-map}
use Rattle.kh_types.specs.Residues.{Same}
use Rattle.kh_types.proofs.Residues.{same-equal}
use Rattle.surface_laws.specs.Surfaces.{Surface, component_of, is_component, faces_on, dots_on, hollows_on, lowers_on, raises_on, IsClosed, factor, value}
use Rattle.surface_laws.specs.Cuts.{with_faces, first_caps, second_caps, sum_of_products}
use Rattle.surface_laws.specs.Overlays.{overlaid, at_places}
use Rattle.surface_laws.proofs.Products.{product_below-alike}
use Rattle.surface_laws.proofs.Components.{list_any-contained, list_any-some, list_any-alike}
use Rattle.surface_laws.proofs.Factors.{AreAlike, factor-alike}
use Rattle.surface_laws.proofs.JoinedCounts.{amount_at, sum_at}
use Rattle.surface_laws.proofs.OneCut.{place_of_face, dots_of_face, hollows_of_face, one_face, itself, one_place}
use Rattle.surface_laws.proofs.Overlaid.{AreLaid, sum-laid}
use Rattle.surface_laws.specs.Points.{discs, circles}
use Rattle.added_crossing_laws.specs.Pairings.{face_with, marked_by, circle_faces}
use Rattle.added_crossing_laws.specs.Steps.{Step, before, after, is_near, near, closed_circles, added, outside}
use Rattle.added_crossing_laws.proofs.Members.{those-are, are-those}
use Rattle.added_crossing_laws.proofs.Classes.{AreAmong-below}
use Rattle.added_crossing_laws.proofs.CutJoins.{IsCut, near-has, next-has, IsStep}
use Rattle.added_crossing_laws.proofs.KeptCircles.{sum-circles}
use Rattle.added_crossing_laws.proofs.Overlay.{IsLaid, LiesNear, all_of, IsPlaced-outside, IsPlaced-added, MeetAlong-discs}

-- the overlay joins what the whole does

onward-first : (f : ℕ → ℕ) (pairs other_pairs outer joins others : List (ℕ × ℕ))
    → Respects f ((pairs ++ (other_pairs ++ outer)) ++ (joins ++ others)) → Respects f (joins ++ (others ++ outer))
onward-first f pairs other_pairs outer joins others respects =
    let near_too = Respects-second f (pairs ++ (other_pairs ++ outer)) (joins ++ others) respects in
    let far = Respects-second f pairs (other_pairs ++ outer)
    (Respects-first f (pairs ++ (other_pairs ++ outer)) (joins ++ others) respects) in
    Respects-append f joins (others ++ outer) (Respects-first f joins others near_too)
    (Respects-append f others outer (Respects-second f joins others near_too) (Respects-second f other_pairs outer far))

back-first : (step : Step) (joins others pairs other_pairs outer all : List (ℕ × ℕ)) (f : ℕ → ℕ)
    → IsLaid step joins others pairs other_pairs outer all → Respects f (joins ++ (others ++ outer))
    → Respects f ((pairs ++ (other_pairs ++ outer)) ++ (joins ++ others))
back-first step joins others pairs other_pairs outer all f laid respects =
    let first = Respects-first f joins (others ++ outer) respects in
    let later = Respects-second f joins (others ++ outer) respects in
    let second = Respects-first f others outer later in
    Respects-append f (pairs ++ (other_pairs ++ outer)) (joins ++ others)
    (Respects-append f pairs (other_pairs ++ outer) (laid.first.made.only f first)
    (Respects-append f other_pairs outer (laid.second.made.only f second) (Respects-second f others outer later)))
    (Respects-append f joins others first second)

-- what is said of it
abbrev overlay_of : Step → List (ℕ × ℕ) → List (ℕ × ℕ) → List (ℕ × ℕ) → List (ℕ × ℕ) → List (ℕ × ℕ) → List (ℕ × ℕ) → List ℕ
    → (ℕ → ℕ) → (ℕ → ℕ) → Surface
overlay_of step joins others pairs other_pairs outer faces lowers label other_label =
    overlaid (outside step pairs other_pairs outer label other_label) (added step joins others faces lowers label other_label)

classes-same : (step : Step) (joins others pairs other_pairs outer all faces : List (ℕ × ℕ)) (lowers : List ℕ)
    (label other_label : ℕ → ℕ) → IsLaid step joins others pairs other_pairs outer all → LiesNear step faces lowers
    → classes_of (step.count + 1) ((pairs ++ (other_pairs ++ outer)) ++ (joins ++ others)) ≡ classes_of (step.count + 1) all
classes-same step joins others pairs other_pairs outer all faces lowers label other_label laid lies =
    let n = step.count + 1 in
    let below : AreBelow n ((pairs ++ (other_pairs ++ outer)) ++ (joins ++ others)) =
    AllByRecursion-append (λ pair. (pair.0 < n) × (pair.1 < n)) (pairs ++ (other_pairs ++ outer)) (joins ++ others)
    (IsPlaced-outside step joins others pairs other_pairs outer all label other_label laid).joins
    (IsPlaced-added step joins others pairs other_pairs outer all faces lowers label other_label laid lies).joins in
    classes_of-same n ((pairs ++ (other_pairs ++ outer)) ++ (joins ++ others)) all below
    (AreAmong-below step.count step.alive all laid.among)
    (λ f respects. laid.back f (onward-first f pairs other_pairs outer joins others respects))
    (λ f respects. back-first step joins others pairs other_pairs outer all f laid (laid.onward f respects))

-- with the same classes, sums over the same lists are the same
sum-same : {X : Type 0} (n : ℕ) (first second : Surface) (place amount : X → ℕ) (xs : List X) (k : ℕ)
    → classes_of first.size first.joins ≡ classes_of second.size second.joins
    → sum_at first k place amount xs ≡ sum_at second k place amount xs
sum-same n first second place amount xs k same =
    sum_by-alike (amount_at first k place amount) (amount_at second k place amount)
    (λ x. ap (λ (classes : List ℕ). cond (nat_eq (slice_index classes (place x)) k) (amount x) 0) same) xs

-- the faces at circles

face-respects : (surface : Surface) (k : ℕ) (label : ℕ → ℕ) (amount : ℕ × ℕ → ℕ) (joins : List (ℕ × ℕ))
    → ((x y : ℕ) → label x ≡ label y → amount (x, label x) ≡ amount (y, label y)) → Respects (component_of surface) joins
    → Respects label joins → Respects (λ x. amount_at surface k place_of_face amount (face_with label x)) joins
face-respects surface k label amount joins alike =
    AllByRecursion-both (λ pair. component_of surface pair.0 ≡ component_of surface pair.1) (λ pair. label pair.0 ≡ label pair.1)
    (λ pair. amount_at surface k place_of_face amount (face_with label pair.0)
    ≡ amount_at surface k place_of_face amount (face_with label pair.1)) joins
    (λ pair component same.
    ap₂ (λ (c a : ℕ). cond (nat_eq c k) a 0) component (alike pair.0 pair.1 same))

faces-kept : (step : Step) (joins pairs outer : List (ℕ × ℕ)) (surface : Surface) (k : ℕ) (label : ℕ → ℕ) (amount : ℕ × ℕ → ℕ)
    → IsCut step joins pairs outer → ((x y : ℕ) → label x ≡ label y → amount (x, label x) ≡ amount (y, label y))
    → Respects (component_of surface) (joins ++ outer) → Respects label (joins ++ outer)
    → sum_at surface k place_of_face amount (marked_by label (circles (after step) pairs outer))
    + sum_at surface k place_of_face amount (marked_by label (closed_circles step joins))
    ≡ sum_at surface k place_of_face amount (marked_by label (circles (before step) joins outer))
faces-kept step joins pairs outer surface k label amount cut alike components labels =
    let at : ℕ × ℕ → ℕ = amount_at surface k place_of_face amount in
    ap₂ (λ s t. s + t) (sum_by-map at (face_with label) (circles (after step) pairs outer))
    (sum_by-map at (face_with label) (closed_circles step joins))
    ∙ sum-circles step joins pairs outer (λ x. at (face_with label x)) cut
    (face-respects surface k label amount (joins ++ outer) alike components labels)
    ∙ sym (sum_by-map at (face_with label) (circles (before step) joins outer))

-- the labels have one value on each circle
pub record AreLabels (joins others outer : List (ℕ × ℕ)) (label other_label : ℕ → ℕ) : Type 0 where
  pub first : Respects label (joins ++ outer)
  pub second : Respects other_label (others ++ outer)

reordered : (a b c d e f g : ℕ) → a + d ≡ f → b + e ≡ g → (a + b) + (c + (d + e)) ≡ c + (f + g)
reordered a b c d e f g first second = omega (arith, first, second)

faces-whole : (step : Step) (joins others pairs other_pairs outer all faces : List (ℕ × ℕ)) (lowers : List ℕ)
    (label other_label : ℕ → ℕ) (k : ℕ) (amount : ℕ × ℕ → ℕ) → IsLaid step joins others pairs other_pairs outer all
    → AreLabels joins others outer label other_label
    → ((marks : ℕ → ℕ) (x y : ℕ) → marks x ≡ marks y → amount (x, marks x) ≡ amount (y, marks y))
    → sum_at (all_of step all joins others outer faces lowers label other_label) k place_of_face amount
    (overlay_of step joins others pairs other_pairs outer faces lowers label other_label).faces
    ≡ sum_at (all_of step all joins others outer faces lowers label other_label) k place_of_face amount
    (all_of step all joins others outer faces lowers label other_label).faces
faces-whole step joins others pairs other_pairs outer all faces lowers label other_label k amount laid labels alike =
    let whole = all_of step all joins others outer faces lowers label other_label in
    let n = step.count + 1 in
    let at : ℕ × ℕ → ℕ = amount_at whole k place_of_face amount in
    let respects : Respects (component_of whole) (joins ++ (others ++ outer)) =
    laid.onward (component_of whole) (classes-together n all (AreAmong-below step.count step.alive all laid.among)) in
    let later = Respects-second (component_of whole) joins (others ++ outer) respects in
    let outer_too = Respects-second (component_of whole) others outer later in
    let first = faces-kept step joins pairs outer whole k label amount laid.first (alike label)
    (Respects-append (component_of whole) joins outer (Respects-first (component_of whole) joins (others ++ outer) respects) outer_too)
    labels.first in
    let second = faces-kept step others other_pairs outer whole k other_label amount laid.second (alike other_label)
    (Respects-append (component_of whole) others outer (Respects-first (component_of whole) others outer later) outer_too)
    labels.second in
    let near_faces : List (ℕ × ℕ) = marked_by label (closed_circles step joins) ++ marked_by other_label (closed_circles step others) in
    sum_by-append at (circle_faces (after step) pairs other_pairs outer label other_label) (faces ++ near_faces)
    ∙ ap₂ (λ s t. s + t)
    (sum_by-append at (marked_by label (circles (after step) pairs outer)) (marked_by other_label (circles (after step) other_pairs outer)))
    (sum_by-append at faces near_faces
    ∙ ap (λ t. sum_by at faces + t)
    (sum_by-append at (marked_by label (closed_circles step joins)) (marked_by other_label (closed_circles step others))))
    ∙ reordered (sum_by at (marked_by label (circles (after step) pairs outer)))
    (sum_by at (marked_by other_label (circles (after step) other_pairs outer))) (sum_by at faces)
    (sum_by at (marked_by label (closed_circles step joins))) (sum_by at (marked_by other_label (closed_circles step others)))
    (sum_by at (marked_by label (circles (before step) joins outer)))
    (sum_by at (marked_by other_label (circles (before step) others outer))) first second
    ∙ sym (sum_by-append at faces (circle_faces (before step) joins others outer label other_label)
    ∙ ap (λ t. sum_by at faces + t)
    (sum_by-append at (marked_by label (circles (before step) joins outer)) (marked_by other_label (circles (before step) others outer))))

-- and the places are the same
before-cases : (step : Step) (x : ℕ) → IsStep step → Contains (before step).alive x
    → Contains ((after step).alive ++ near step) x
before-cases step x step_is has =
    let is = those-are step.count step.alive x has in
    elim (or_cases (step.alive_next x) (is_near step x) (sym (step_is.alive x is.above (omega (arith, is.below))) ∙ is.passes)) [
      | inl next ↦
          Contains-append_left (after step).alive (near step) x
          (are-those step.count step.alive_next x is.above is.below next)
      | inr near_too ↦
          Contains-append_right (after step).alive (near step) x (are-those step.count (is_near step) x is.above is.below near_too)
    ]

is-same : (step : Step) (test : ℕ → Bool) → IsStep step
    → list_any test ((after step).alive ++ near step) ≡ list_any test (before step).alive
is-same step test step_is =
    both_ways (list_any test ((after step).alive ++ near step)) (list_any test (before step).alive)
    (λ any.
    let found = list_any-some test ((after step).alive ++ near step) any in
    list_any-contained test (before step).alive found.0
    (elim (Contains-append_cases (after step).alive (near step) found.0 found.1) [
      | inl next ↦ next-has step found.0 step_is next
      | inr near_too ↦ near-has step found.0 step_is near_too
    ])
    found.2)
    (λ any.
    let found = list_any-some test (before step).alive any in
    list_any-contained test ((after step).alive ++ near step) found.0 (before-cases step found.0 step_is found.1) found.2)

balanced : (f g b l r s lowers raises : ℕ) → f ≡ g → lowers ≡ b + l → raises ≡ b → s ≡ 0
    → 2 * f + raises + l ≡ 2 * g + s + lowers
balanced f g b l r s lowers raises same is_lowers is_raises none = omega (arith, same, is_lowers, is_raises, none)

alike-whole : (step : Step) (joins others pairs other_pairs outer all faces : List (ℕ × ℕ)) (lowers : List ℕ)
    (label other_label : ℕ → ℕ) (k : ℕ) → IsLaid step joins others pairs other_pairs outer all → LiesNear step faces lowers
    → AreLabels joins others outer label other_label
    → AreAlike (overlay_of step joins others pairs other_pairs outer faces lowers label other_label) k
    (all_of step all joins others outer faces lowers label other_label) k
alike-whole step joins others pairs other_pairs outer all faces lowers label other_label k laid lies labels =
    let over = overlay_of step joins others pairs other_pairs outer faces lowers label other_label in
    let whole = all_of step all joins others outer faces lowers label other_label in
    let same : classes_of over.size over.joins ≡ classes_of whole.size whole.joins =
    classes-same step joins others pairs other_pairs outer all faces lowers label other_label laid lies in
    let is : is_component over k ≡ is_component whole k =
    list_any-alike (λ x. nat_eq (component_of over x) k) (λ x. nat_eq (component_of whole x) k) over.places
    (λ x. ap (λ (classes : List ℕ). nat_eq (slice_index classes x) k) same)
    ∙ is-same step (λ x. nat_eq (component_of whole x) k) laid.first.step_is in
    let face_count : faces_on over k ≡ faces_on whole k =
    sum-same step.count over whole place_of_face one_face over.faces k same
    ∙ faces-whole step joins others pairs other_pairs outer all faces lowers label other_label k one_face laid labels
    (λ marks x y is. refl) in
    let dot_count : dots_on over k ≡ dots_on whole k =
    sum-same step.count over whole place_of_face dots_of_face over.faces k same
    ∙ faces-whole step joins others pairs other_pairs outer all faces lowers label other_label k dots_of_face laid labels
    (λ marks x y is. ap (λ mark. mark % 2) is) in
    let hollow_count : hollows_on over k ≡ hollows_on whole k =
    sum-same step.count over whole place_of_face hollows_of_face over.faces k same
    ∙ faces-whole step joins others pairs other_pairs outer all faces lowers label other_label k hollows_of_face laid labels
    (λ marks x y is. ap (λ mark. mark / 2) is) in
    record {
      is = is;
      counts = record {
        dots = dot_count;
        hollows = hollow_count;
        euler = balanced (faces_on over k) (faces_on whole k) (sum_at whole k itself one_place (after step).opened)
            (lowers_on whole k) 0 (raises_on whole k) (lowers_on over k) (raises_on over k) face_count
            (sum-same step.count over whole itself one_place over.lowers k same
            ∙ sum_by-append (amount_at whole k itself one_place) (after step).opened lowers)
            (sum-same step.count over whole itself one_place over.raises k same) refl;
      };
    }

value-whole : (h minus : ℕ) (step : Step) (joins others pairs other_pairs outer all faces : List (ℕ × ℕ)) (lowers : List ℕ)
    (label other_label : ℕ → ℕ) → IsLaid step joins others pairs other_pairs outer all → LiesNear step faces lowers
    → AreLabels joins others outer label other_label
    → value h minus (overlay_of step joins others pairs other_pairs outer faces lowers label other_label)
    ≡ value h minus (all_of step all joins others outer faces lowers label other_label)
value-whole h minus step joins others pairs other_pairs outer all faces lowers label other_label laid lies labels =
    let over = overlay_of step joins others pairs other_pairs outer faces lowers label other_label in
    let whole = all_of step all joins others outer faces lowers label other_label in
    product_below-alike (step.count + 1) (factor h minus over) (factor h minus whole)
    (λ k below.
    factor-alike h minus over k whole k
    (alike-whole step joins others pairs other_pairs outer all faces lowers label other_label k laid lies labels))

-- with the law of overlays
pub record ArePartsClosed (step : Step) (joins others pairs other_pairs outer faces : List (ℕ × ℕ)) (lowers : List ℕ)
    (label other_label : ℕ → ℕ) : Type 0 where
  pub far : IsClosed (with_faces (outside step pairs other_pairs outer label other_label)
      (first_caps (at_places (discs (after step) pairs other_pairs)) 0))
  pub close : IsClosed (with_faces (added step joins others faces lowers label other_label)
      (second_caps (at_places (discs (after step) pairs other_pairs)) 0))

are-laid : (step : Step) (joins others pairs other_pairs outer all faces : List (ℕ × ℕ)) (lowers : List ℕ)
    (label other_label : ℕ → ℕ) → IsLaid step joins others pairs other_pairs outer all → LiesNear step faces lowers
    → AreLaid (outside step pairs other_pairs outer label other_label) (added step joins others faces lowers label other_label)
    (discs (after step) pairs other_pairs)
are-laid step joins others pairs other_pairs outer all faces lowers label other_label laid lies = record {
  placed = IsPlaced-outside step joins others pairs other_pairs outer all label other_label laid;
  other = IsPlaced-added step joins others pairs other_pairs outer all faces lowers label other_label laid lies;
  along = MeetAlong-discs step joins others pairs other_pairs outer all faces lowers label other_label laid lies;
}

pub sum-added : (p h minus : ℕ) (step : Step) (joins others pairs other_pairs outer all faces : List (ℕ × ℕ)) (lowers : List ℕ)
    (label other_label : ℕ → ℕ) → Same p (h + minus) 0 → IsLaid step joins others pairs other_pairs outer all
    → LiesNear step faces lowers → AreLabels joins others outer label other_label
    → ArePartsClosed step joins others pairs other_pairs outer faces lowers label other_label
    → Same p
    (sum_of_products h minus (outside step pairs other_pairs outer label other_label)
    (added step joins others faces lowers label other_label) (at_places (discs (after step) pairs other_pairs)))
    (value h minus (all_of step all joins others outer faces lowers label other_label))
sum-added p h minus step joins others pairs other_pairs outer all faces lowers label other_label cancels laid lies labels closed =
    sum-laid p h minus (outside step pairs other_pairs outer label other_label) (added step joins others faces lowers label other_label)
    (discs (after step) pairs other_pairs) 0 cancels
    (are-laid step joins others pairs other_pairs outer all faces lowers label other_label laid lies) closed.far closed.close
    ∙ same-equal p (value h minus (overlay_of step joins others pairs other_pairs outer faces lowers label other_label))
    (value h minus (all_of step all joins others outer faces lowers label other_label))
    (value-whole h minus step joins others pairs other_pairs outer all faces lowers label other_label laid lies labels)
