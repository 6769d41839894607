-- Surfaces whose places lead to each other in both directions, and surfaces with their lists in another order.
use Rattle.std.proofs.Common.{◌≡◌, ℕ, ◌∙◌, List, sym, ap, ap₂, cond}
use Rattle.std.specs.Prelude.{nat_eq, slice_index}
use Rattle.std.specs.List.{list_any, Contains}
use Rattle.std.specs.List.Sorted.{IsPermutation}
use Rattle.std.proofs.lemmas.List.Sorted.{sum_by-IsPermutation}
use Rattle.kh_types.specs.Classes.{classes_of, Respects}
use Rattle.kh_types.proofs.ClassLemmas.{classes-finest}
use Rattle.kh_types.proofs.ListSums.{sum_by-alike}
use Rattle.surface_laws.specs.Surfaces.{Surface, component_of, IsClosed, factor, value, product_below, IsPlaced}
use Rattle.surface_laws.specs.Projections.{KeepsComponents, LeadsBack, IsRelisted}
use Rattle.surface_laws.proofs.Products.{product_below-alike}
use Rattle.surface_laws.proofs.Components.{list_any-alike}
use Rattle.surface_laws.proofs.Factors.{AreAlike, HaveOneCount-each, factor-alike, genus-alike}
use Rattle.surface_laws.proofs.JoinedCounts.{amount_at, sum_at}
use Rattle.surface_laws.proofs.OneCut.{place_of_face, dots_of_face, hollows_of_face, one_face, itself, one_place, at_place}
use Rattle.surface_laws.proofs.Unions.{place-below}

-- what is joined stays together
led-together : (f : ℕ → ℕ) (old new : Surface) → IsPlaced old → Respects (λ z. component_of new (f z)) old.joins → (x y : ℕ)
    → Contains old.places x → Contains old.places y → component_of old x ≡ component_of old y
    → component_of new (f x) ≡ component_of new (f y)
led-together f old new placed joins x y x_has y_has =
    classes-finest (λ z. component_of new (f z)) old.size old.joins joins placed.joins x y
    (place-below old x placed x_has) (place-below old y placed y_has)

pub KeepsComponents-led : (f back : ℕ → ℕ) (old new : Surface) → IsPlaced old → IsPlaced new → LeadsBack f back old new
    → KeepsComponents f old new
KeepsComponents-led f back old new placed new_placed leads = record {
  places = leads.places;
  onto = λ y has. (back y, leads.back_places y has, leads.f_back y has);
  together = led-together f old new placed leads.joins;
  apart = λ x y x_has y_has same.
      sym (leads.back_f x x_has)
      ∙ led-together back new old new_placed leads.back_joins (f x) (f y) (leads.places x x_has) (leads.places y y_has) same
      ∙ leads.back_f y y_has;
}

-- the same lists in another order

component-reordered : (old new : Surface) → IsRelisted old new → (x : ℕ) → component_of old x ≡ component_of new x
component-reordered old new reordered x =
    ap₂ (λ (n : ℕ) (pairs : List (ℕ × ℕ)). slice_index (classes_of n pairs) x) (sym reordered.size) (sym reordered.joins)

sum-reordered : {X : Type 0} (old new : Surface) (place amount : X → ℕ) (xs ys : List X) (k : ℕ) → IsRelisted old new
    → IsPermutation xs ys → sum_at old k place amount xs ≡ sum_at new k place amount ys
sum-reordered old new place amount xs ys k reordered moved =
    sum_by-alike (amount_at old k place amount) (amount_at new k place amount)
    (λ x. ap (λ c. cond (nat_eq c k) (amount x) 0) (component-reordered old new reordered (place x))) xs
    ∙ sym (sum_by-IsPermutation (amount_at new k place amount) xs ys moved)

alike-reordered : (old new : Surface) (k : ℕ) → IsRelisted old new → AreAlike old k new k
alike-reordered old new k reordered = record {
  is = list_any-alike (λ x. nat_eq (component_of old x) k) (λ x. nat_eq (component_of new x) k) old.places
      (λ x. ap (λ c. nat_eq c k) (component-reordered old new reordered x))
      ∙ ap (λ xs. list_any (λ x. nat_eq (component_of new x) k) xs) (sym reordered.places);
  counts = HaveOneCount-each old k new k
      (sum-reordered old new place_of_face one_face old.faces new.faces k reordered reordered.faces)
      (sum-reordered old new place_of_face dots_of_face old.faces new.faces k reordered reordered.faces)
      (sum-reordered old new place_of_face hollows_of_face old.faces new.faces k reordered reordered.faces)
      (sum-reordered old new itself one_place old.lowers new.lowers k reordered reordered.lowers)
      (sum-reordered old new itself one_place old.raises new.raises k reordered reordered.raises);
}

pub value-reordered : (h k : ℕ) (old new : Surface) → IsRelisted old new → value h k old ≡ value h k new
value-reordered h k old new reordered =
    product_below-alike old.size (factor h k old) (factor h k new)
    (λ c below. factor-alike h k old c new c (alike-reordered old new c reordered))
    ∙ ap (λ n. product_below n (factor h k new)) (sym reordered.size)

has-place : (xs ys : List ℕ) (x : ℕ) → xs ≡ ys → Contains xs x → Contains ys x
has-place xs ys x same has = rw (sym same) has

pub IsClosed-reordered : (old new : Surface) → IsRelisted old new → IsClosed old → IsClosed new
IsClosed-reordered old new reordered closed = record {
  genus = λ place has.
      let here = closed.genus place (has-place new.places old.places place reordered.places has) in
      let k = component_of old place in (
        here.0,
        at_place new (component_of new place) k here.0 (sym (component-reordered old new reordered place))
            (genus-alike old k new k here.0 (alike-reordered old new k reordered) here.1),
      );
}
