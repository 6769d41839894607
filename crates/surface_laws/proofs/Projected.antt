-- Surfaces with the same components under other names have one number.
--
-- If a map of places takes the components of one surface to those of another one to one, and each list of the one (faces, marks, joins that
-- count) to that of the other up to order, then each component has the same counts, so the same genus and factor, and the product over
-- components is the same.
use Rattle.std.proofs.Common.{◌≡◌, ℕ, inl, inr, ◌<◌, ◌∙◌, List, map, refl, sym, ap, ap₂, Bool, true, false, cond, ◌&&◌, eq-eqb}
use Rattle.std.specs.Prelude.{nat_eq}
use Rattle.std.specs.List.{list_any, AllByRecursion, Contains}
use Rattle.std.specs.List.Sorted.{IsPermutation}
use Rattle.std.proofs.lemmas.Bool.{cases_Bool, eqb-true, and_from, and_parts, false_from_ne_true, both_ways}
use Rattle.std.proofs.lemmas.List.Sorted.{sum_by-IsPermutation, IsPermutation-map}
use Rattle.std.proofs.lemmas.Simd.{map-map}
use Rattle.kh_types.proofs.ListSums.{sum_by-map, sum_by-alike, sum_by-on}
use Rattle.kh_types.proofs.Lists.{AllByRecursion-at, AllByRecursion-weaker}
use Rattle.surface_laws.specs.Surfaces.{Surface, component_of, is_component, IsClosed, factor, value, product_below, IsPlaced}
use Rattle.surface_laws.specs.Projections.{KeepsComponents, Corresponds, face_at, LieAlike, Projects}
use Rattle.surface_laws.proofs.Products.{product_below-ones, product_below-single, product_below-table}
use Rattle.surface_laws.proofs.Components.{list_any-contained, list_any-some, component-below}
use Rattle.surface_laws.proofs.Factors.{AreAlike, HaveOneCount-each, AreAlike-sym, factor-alike, factor-none, genus-alike}
use Rattle.surface_laws.proofs.JoinedCounts.{amount_at, sum_at}
use Rattle.surface_laws.proofs.OneCut.{place_of_face, dots_of_face, hollows_of_face, one_face, itself, one_place, is_component-of, at_place}
use Rattle.kh_types.proofs.Tests.{nat_eq-iff}

-- a face under the other name of its place
abbrev pub face_under : (ℕ → ℕ) → ℕ × ℕ → ℕ × ℕ
face_under f face = (f face.0, face.1)

-- what lies on the component of a place, by the components
sum-moved : {X Y : Type 0} (f : ℕ → ℕ) (old new : Surface) (place amount : X → ℕ) (on : Y → ℕ) (worth : Y → ℕ) (g h : X → Y)
    (xs ys : List X) (p : ℕ)
    → KeepsComponents f old new → Contains old.places p → ((x : X) → on (g x) ≡ component_of new (f (place x)))
    → ((x : X) → on (h x) ≡ component_of new (place x)) → ((x : X) → worth (g x) ≡ amount x) → ((x : X) → worth (h x) ≡ amount x)
    → AllByRecursion (λ x. Contains old.places (place x)) xs → IsPermutation (map g xs) (map h ys)
    → sum_at old (component_of old p) place amount xs ≡ sum_at new (component_of new (f p)) place amount ys
sum-moved {X} {Y} f old new place amount on worth g h xs ys p keeps has on_old on_new old_worth new_worth all moved =
    let k = component_of old p in
    let l = component_of new (f p) in
    let term : Y → ℕ = λ y. cond (nat_eq (on y) l) (worth y) 0 in
    sum_by-on (amount_at old k place amount) (λ x. term (g x)) xs
    (AllByRecursion-weaker (λ x. Contains old.places (place x)) (λ x. amount_at old k place amount x ≡ term (g x)) xs
    (λ x x_has.
    ap (λ t. cond t (amount x) 0)
    (nat_eq-iff (component_of old (place x)) k (component_of new (f (place x))) l (keeps.together (place x) p x_has has)
    (keeps.apart (place x) p x_has has))
    ∙ ap₂ (λ z n. cond (nat_eq z l) n 0) (sym (on_old x)) (sym (old_worth x)))
    all)
    ∙ sym (sum_by-map term g xs)
    ∙ sym (sum_by-IsPermutation term (map g xs) (map h ys) moved)
    ∙ sum_by-map term h ys
    ∙ sum_by-alike (λ x. term (h x)) (amount_at new l place amount)
    (λ x. ap₂ (λ z n. cond (nat_eq z l) n 0) (on_new x) (new_worth x)) ys

pub Corresponds-alike : (f : ℕ → ℕ) (old new : Surface) → IsPlaced old → KeepsComponents f old new → LieAlike f old new
    → Corresponds f old new
Corresponds-alike f old new placed keeps alike =
    let g : ℕ × ℕ → ℕ × ℕ = face_at new f in
    let h : ℕ × ℕ → ℕ × ℕ = face_at new (λ x. x) in
    record {
      components = keeps;
      counts = λ p has.
          HaveOneCount-each old (component_of old p) new (component_of new (f p))
          (sum-moved f old new place_of_face one_face place_of_face one_face g h old.faces new.faces p keeps has (λ x. refl) (λ x. refl)
          (λ x. refl) (λ x. refl) placed.faces alike.faces)
          (sum-moved f old new place_of_face dots_of_face place_of_face dots_of_face g h old.faces new.faces p keeps has (λ x. refl)
          (λ x. refl) (λ x. refl) (λ x. refl) placed.faces alike.faces)
          (sum-moved f old new place_of_face hollows_of_face place_of_face hollows_of_face g h old.faces new.faces p keeps has (λ x. refl)
          (λ x. refl) (λ x. refl) (λ x. refl) placed.faces alike.faces)
          (sum-moved f old new itself one_place itself one_place (λ x. component_of new (f x)) (component_of new) old.lowers new.lowers
          p keeps has (λ x. refl) (λ x. refl) (λ x. refl) (λ x. refl) placed.lowers alike.lowers)
          (sum-moved f old new itself one_place itself one_place (λ x. component_of new (f x)) (component_of new) old.raises new.raises
          p keeps has (λ x. refl) (λ x. refl) (λ x. refl) (λ x. refl) placed.raises alike.raises);
    }

moved-along : {X Y : Type 0} (g : X → Y) (h : X → X) (xs ys : List X) → IsPermutation (map h xs) ys
    → IsPermutation (map (λ x. g (h x)) xs) (map g ys)
moved-along g h xs ys moved = rw (sym (map-map g h xs)) (IsPermutation-map g (map h xs) ys moved)

pub LieAlike-projected : (f : ℕ → ℕ) (old new : Surface) → Projects f old new → LieAlike f old new
LieAlike-projected f old new projects =
    let h : ℕ × ℕ → ℕ × ℕ = face_at new (λ x. x) in
    record {
      faces = moved-along h (face_under f) old.faces new.faces projects.faces;
      lowers = moved-along (component_of new) f old.lowers new.lowers projects.lowers;
      raises = moved-along (component_of new) f old.raises new.raises projects.raises;
    }

pub Corresponds-projected : (f : ℕ → ℕ) (old new : Surface) → IsPlaced old → Projects f old new → Corresponds f old new
Corresponds-projected f old new placed projects =
    Corresponds-alike f old new placed projects.components (LieAlike-projected f old new projects)

pub alike-moved : (f : ℕ → ℕ) (old new : Surface) (p : ℕ) → Corresponds f old new → Contains old.places p
    → AreAlike old (component_of old p) new (component_of new (f p))
alike-moved f old new p moves has = record {
  is = is_component-of old p has ∙ sym (is_component-of new (f p) (moves.components.places p has));
  counts = moves.counts p has;
}

-- the one is closed where the other is

pub IsClosed-moved : (f : ℕ → ℕ) (old new : Surface) → Corresponds f old new → IsClosed old → IsClosed new
IsClosed-moved f old new moves closed = record {
  genus = λ place has.
      let (p, p_has, same) = moves.components.onto place has in
      let here = closed.genus p p_has in (
        here.0,
        at_place new (component_of new place) (component_of new (f p)) here.0 (sym same)
            (genus-alike old (component_of old p) new (component_of new (f p)) here.0 (alike-moved f old new p moves p_has)
            here.1),
      );
}

pub IsClosed-moved_back : (f : ℕ → ℕ) (old new : Surface) → Corresponds f old new → IsClosed new → IsClosed old
IsClosed-moved_back f old new moves closed = record {
  genus = λ place has.
      let here = closed.genus (f place) (moves.components.places place has) in
      let k = component_of old place in
      let l = component_of new (f place) in
      (here.0, genus-alike new l old k here.0 (AreAlike-sym old k new l (alike-moved f old new place moves has)) here.1);
}

-- a place whose component is x, and that of its new name y
abbrev test_match : (ℕ → ℕ) → Surface → Surface → ℕ → ℕ → ℕ → Bool
test_match f old new x y p = nat_eq (component_of old p) x && nat_eq (component_of new (f p)) y

-- whether there is one
abbrev are_matched : (ℕ → ℕ) → Surface → Surface → ℕ → ℕ → Bool
are_matched f old new x y = list_any (test_match f old new x y) old.places

-- the table of all pairs: the factor of the component in its row, where the pair is matched
abbrev table : ℕ → ℕ → (ℕ → ℕ) → Surface → Surface → ℕ → ℕ → ℕ
table h k f old new x y = cond (are_matched f old new x y) (factor h k old x) 1

matched-at : (f : ℕ → ℕ) (old new : Surface) (p : ℕ) → Contains old.places p
    → are_matched f old new (component_of old p) (component_of new (f p)) ≡ true
matched-at f old new p has =
    let k = component_of old p in
    let l = component_of new (f p) in
    list_any-contained (test_match f old new k l) old.places p has
    (and_from (nat_eq k k) (nat_eq l l) (eq-eqb k k refl) (eq-eqb l l refl))

-- a matched pair is that of a place
pub record IsMatch (f : ℕ → ℕ) (old new : Surface) (x y : ℕ) : Type 0 where
  pub place : ℕ
  pub has : Contains old.places place
  pub in_old : component_of old place ≡ x
  pub in_new : component_of new (f place) ≡ y

match-of : (f : ℕ → ℕ) (old new : Surface) (x y : ℕ) → are_matched f old new x y ≡ true → IsMatch f old new x y
match-of f old new x y matched =
    let found = list_any-some (test_match f old new x y) old.places matched in
    let parts = and_parts (nat_eq (component_of old found.0) x) (nat_eq (component_of new (f found.0)) y) found.2 in
    record {
      place = found.0;
      has = found.1;
      in_old = eqb-true (component_of old found.0) x parts.0;
      in_new = eqb-true (component_of new (f found.0)) y parts.1;
    }

-- a component's place
pub record IsAt (surface : Surface) (x : ℕ) : Type 0 where
  pub place : ℕ
  pub has : Contains surface.places place
  pub is : component_of surface place ≡ x

place-of : (surface : Surface) (x : ℕ) → is_component surface x ≡ true → IsAt surface x
place-of surface x is =
    let found = list_any-some (λ p. nat_eq (component_of surface p) x) surface.places is in
    record { place = found.0; has = found.1; is = eqb-true (component_of surface found.0) x found.2 }

entry-one : (matched : Bool) (s : ℕ) → s ≡ 1 → cond matched s 1 ≡ 1
entry-one true s one = one
entry-one false s one = refl

entry-none : (matched : Bool) (s : ℕ) → matched ≡ false → cond matched s 1 ≡ 1
entry-none matched s none = ap (λ b. cond b s 1) none

entry-at : (matched : Bool) (s : ℕ) → matched ≡ true → cond matched s 1 ≡ s
entry-at matched s is = ap (λ b. cond b s 1) is

below-size : (surface : Surface) (place : ℕ) → IsPlaced surface → Contains surface.places place
    → component_of surface place < surface.size
below-size surface place placed has =
    component-below surface place placed.joins (AllByRecursion-at (λ x. x < surface.size) surface.places place placed.places has)

row-at : (h k : ℕ) (f : ℕ → ℕ) (old new : Surface) (p : ℕ) → IsPlaced new → Corresponds f old new → Contains old.places p
    → product_below new.size (λ y. table h k f old new (component_of old p) y) ≡ factor h k old (component_of old p)
row-at h k f old new p placed moves has =
    let x = component_of old p in
    let l = component_of new (f p) in
    product_below-single new.size l (λ y. table h k f old new x y) (below-size new (f p) placed (moves.components.places p has))
    (λ y below other.
    entry-none (are_matched f old new x y) (factor h k old x)
    (false_from_ne_true (are_matched f old new x y)
    (λ matched.
    let match = match-of f old new x y matched in
    other (sym match.in_new ∙ moves.components.together match.place p match.has has match.in_old))))
    ∙ entry-at (are_matched f old new x l) (factor h k old x) (matched-at f old new p has)

row : (h k : ℕ) (f : ℕ → ℕ) (old new : Surface) (x : ℕ) → IsPlaced new → Corresponds f old new
    → product_below new.size (λ y. table h k f old new x y) ≡ factor h k old x
row h k f old new x placed moves = elim (cases_Bool (is_component old x)) [
  | inl is ↦
      let at = place-of old x is in
      ap (λ z. product_below new.size (λ y. table h k f old new z y)) (sym at.is)
      ∙ row-at h k f old new at.place placed moves at.has
      ∙ ap (λ z. factor h k old z) at.is
  | inr none ↦
      let one = factor-none h k old x none in
      product_below-ones new.size (λ y. table h k f old new x y)
      (λ y below. entry-one (are_matched f old new x y) (factor h k old x) one)
      ∙ sym one
]

column-at : (h k : ℕ) (f : ℕ → ℕ) (old new : Surface) (p : ℕ) → IsPlaced old → Corresponds f old new → Contains old.places p
    → product_below old.size (λ x. table h k f old new x (component_of new (f p))) ≡ factor h k new (component_of new (f p))
column-at h k f old new p placed moves has =
    let c = component_of old p in
    let y = component_of new (f p) in
    product_below-single old.size c (λ x. table h k f old new x y) (below-size old p placed has)
    (λ x below other.
    entry-none (are_matched f old new x y) (factor h k old x)
    (false_from_ne_true (are_matched f old new x y)
    (λ matched.
    let match = match-of f old new x y matched in
    other (sym match.in_old ∙ moves.components.apart match.place p match.has has match.in_new))))
    ∙ entry-at (are_matched f old new c y) (factor h k old c) (matched-at f old new p has)
    ∙ factor-alike h k old c new y (alike-moved f old new p moves has)

column : (h k : ℕ) (f : ℕ → ℕ) (old new : Surface) (y : ℕ) → IsPlaced old → Corresponds f old new
    → product_below old.size (λ x. table h k f old new x y) ≡ factor h k new y
column h k f old new y placed moves = elim (cases_Bool (is_component new y)) [
  | inl is ↦
      let at = place-of new y is in
      let (p, has, same) = moves.components.onto at.place at.has in
      let is_y : component_of new (f p) ≡ y = same ∙ at.is in
      ap (λ z. product_below old.size (λ x. table h k f old new x z)) (sym is_y)
      ∙ column-at h k f old new p placed moves has
      ∙ ap (λ z. factor h k new z) is_y
  | inr none ↦
      product_below-ones old.size (λ x. table h k f old new x y)
      (λ x below.
      entry-none (are_matched f old new x y) (factor h k old x)
      (false_from_ne_true (are_matched f old new x y)
      (λ matched.
      let match = match-of f old new x y matched in
      both_ways (is_component new y) none
      (ap (λ z. is_component new z) (sym match.in_new) ∙ is_component-of new (f match.place) (moves.components.places match.place match.has)))))
      ∙ sym (factor-none h k new y none)
]

pub value-moved : (h k : ℕ) (f : ℕ → ℕ) (old new : Surface) → IsPlaced old → IsPlaced new → Corresponds f old new → value h k old ≡ value h k new
value-moved h k f old new old_placed new_placed moves =
    product_below-table old.size new.size (factor h k old) (factor h k new) (table h k f old new)
    (λ x below. row h k f old new x new_placed moves) (λ y below. column h k f old new y old_placed moves)
