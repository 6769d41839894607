-- What is composed over a seam is the composition.
-- A seam has each disc by its component, so what lies on a component is counted in plain lists: `load_by` is `load_on` (`load-same`), and
-- with it the composition over the seam is the definition's list (`listed-same`), which is the composition by a law of dotted_maps. A sum
-- from nothing with that list is the composition (`composition_made`); a sum with the list times minus the inverse of a pivot is less the way
-- through it (`cancelled`), since an element and its negative are 0 together.
use Rattle.std.proofs.Common.{◌≡◌, ℕ, suc, ◌+◌, ◌-◌, ◌*◌, ◌%◌, ◌^◌, ◌<◌, ◌∙◌, List, [], ◌∷◌, ◌++◌, map, length, refl, sym, subst, ap, ap₂, arith, cond}
use Rattle.std.specs.Prelude.{nat_eq}
use Rattle.std.specs.List.{flat_map, enumerate_from, sum_by, AllByRecursion, Contains}
use Rattle.std.proofs.Math.Nat.{zero-mod}
use Rattle.std.proofs.lemmas.List.{length-map}
use Rattle.std.proofs.lemmas.List.Sums.{sum_by-cons, length-filter, count_by-le-length}
use Rattle.kh_types.specs.Bits.{bit}
use Rattle.kh_types.specs.Classes.{classes_of, is_least}
use Rattle.kh_types.specs.Rank.{inverse}
use Rattle.kh_types.proofs.Residues.{same-add, same-mul, same-scaled}
use Rattle.prime_field.specs.Residues.{IsField, negative_mod}
use Rattle.surface_laws.specs.Points.{Points, discs}
use Rattle.surface_laws.proofs.Components.{AllByRecursion-at, AllByRecursion-weaker}
use Rattle.dotted_maps.specs.declared.term.Term.{Term}
use Rattle.dotted_maps.specs.Parts.{components, component_in, product_over}
use Rattle.dotted_maps.specs.Maps.{coefficient_in, scaled}
use Rattle.dotted_maps.specs.Choices.{choices, undotted_at, factor_at, load_on, composed_terms, listed}
use Rattle.dotted_maps.proofs.LeastPoints.{AllByRecursion-filter}
use Rattle.dotted_maps.proofs.Listed.{AreListed, IsComposition-listed, places-named}
use Rattle.tangle_maps.specs.declared.pairing.TheConstants.{POINTS}
use Rattle.tangle_maps.specs.declared.seam.Seam.{Seam}
use Rattle.tangle_maps.specs.declared.way.Way.{Way}
use Rattle.tangle_maps.specs.Pairings.{IsOpened}
use Rattle.tangle_maps.specs.Seams.{CanCompose, IsSeam, dots_on, load_by, left_by, factor_by, factor_for, seam_terms, seam_behind, seam_listed}
use Rattle.tangle_maps.specs.Sums.{HaveDotsBelow, IsSum, dotted_times}
use Rattle.tangle_maps.specs.Ways.{IsCancelledAlong, IsComposedAlong, composed_along, joins_from, joins_over, joins_to, listed_along, points_on}
use Rattle.tangle_maps.proofs.ChoiceLemmas.{choices-on}
use Rattle.tangle_maps.proofs.SumLemmas.{coefficient-append, coefficient-scaled, scaled-below}
use Rattle.tangle_maps.proofs.WayLemmas.{WayFacts}

-- dots of discs, by the components on which they lie
dots-mapped : (f : ℕ → ℕ) (k dots j : ℕ) (ds : List ℕ)
    → sum_by (λ at. cond (nat_eq at.1 k) (bit dots at.0) 0) (enumerate_from j (map f ds))
    ≡ sum_by (λ at. cond (nat_eq (f at.1) k) (bit dots at.0) 0) (enumerate_from j ds)
dots-mapped f k dots j [] = refl
dots-mapped f k dots j (d ∷ ds) =
    sum_by-cons (λ at. cond (nat_eq at.1 k) (bit dots at.0) 0) (j, f d) (enumerate_from (j + 1) (map f ds))
    ∙ ap (λ n. cond (nat_eq (f d) k) (bit dots j) 0 + n) (dots-mapped f k dots (j + 1) ds)
    ∙ sym (sum_by-cons (λ at. cond (nat_eq (f at.1) k) (bit dots at.0) 0) (j, d) (enumerate_from (j + 1) ds))

load-same : (points : Points) (m n o : List (ℕ × ℕ)) (seam : Seam) (dots others k : ℕ) → IsSeam points m n o seam
    → Contains (components points m n o) k → load_by seam dots others k ≡ load_on points m n o dots others k
load-same points m n o seam dots others k is has =
    let f = component_in points m n o in
    ap₂ (λ x y. x + y)
    (ap₂ (λ x y. x + y) (ap (λ xs. dots_on k dots xs) is.first ∙ dots-mapped f k dots 0 (discs points m n))
    (ap (λ xs. dots_on k others xs) is.second ∙ dots-mapped f k others 0 (discs points n o)))
    (is.genera k has)

pub product-on : (f g : ℕ → ℕ) (xs : List ℕ) → ((x : ℕ) → Contains xs x → f x ≡ g x) → product_over f xs ≡ product_over g xs
product-on f g [] alike = refl
product-on f g (x ∷ xs) alike = ap₂ (λ a b. a * b) (alike x (0, omega arith, refl)) (product-on f g xs (λ y has. alike y (later y has)))
  where
    later : (y : ℕ) → Contains xs y → Contains (x ∷ xs) y
    later y (k, below, is) = (suc k, omega (arith, below), is)

terms-same : (points : Points) (m n o : List (ℕ × ℕ)) (seam : Seam) (term other : Term) → IsSeam points m n o seam
    → AreListed points m n o → seam_terms seam term other ≡ composed_terms points m n o term other
terms-same points m n o seam term other is are =
    let names = components points m n o in
    let places = map (component_in points m n o) (discs points m o) in
    let load : (k : ℕ) → Contains names k
    → load_by seam term.dots other.dots k ≡ load_on points m n o term.dots other.dots k =
    λ k has. load-same points m n o seam term.dots other.dots k is has in
    let sets : choices seam.components.items seam.whole.items (left_by seam term.dots other.dots)
    ≡ choices names places (undotted_at points m n o term.dots other.dots) =
    ap₂ (λ xs ys. choices xs ys (left_by seam term.dots other.dots)) is.parts is.whole
    ∙ choices-on names places (left_by seam term.dots other.dots) (undotted_at points m n o term.dots other.dots)
    (places-named points m n o are) (λ k has. ap (λ x. 1 - x) (load k has)) in
    let factors : product_over (factor_by seam term.dots other.dots) seam.components.items
    ≡ product_over (factor_at points m n o term.dots other.dots) names =
    ap (product_over (factor_by seam term.dots other.dots)) is.parts
    ∙ product-on (factor_by seam term.dots other.dots) (factor_at points m n o term.dots other.dots) names
    (λ k has. ap₂ factor_for (load k has) (is.genera k has)) in
    ap₂ (λ c xs. map (dotted_times (term.coefficient * other.coefficient * c)) xs) factors sets

flat-alike : (f g : Term → List Term) (xs : List Term) → ((x : Term) → f x ≡ g x) → flat_map f xs ≡ flat_map g xs
flat-alike f g [] alike = refl
flat-alike f g (x ∷ xs) alike = ap₂ (λ (ys zs : List Term). ys ++ zs) (alike x) (flat-alike f g xs alike)

pub listed-same : (points : Points) (m n o : List (ℕ × ℕ)) (seam : Seam) (first second : List Term) → IsSeam points m n o seam
    → AreListed points m n o → seam_listed seam first second ≡ listed points m n o first second
listed-same points m n o seam first second is are =
    flat-alike (seam_behind seam second) (λ term. flat_map (composed_terms points m n o term) second) first
    (λ term. flat-alike (seam_terms seam term) (composed_terms points m n o term) second
    (λ other. terms-same points m n o seam term other is are))

-- and it can be composed
pub CanCompose-seam : (way : Way) (seam : Seam) → WayFacts way
    → IsSeam (points_on way) (joins_from way) (joins_over way) (joins_to way) seam → CanCompose seam
CanCompose-seam way seam facts is =
    let opened = way.opened.now in
    let m = joins_from way in
    let n = joins_over way in
    let o = joins_to way in
    let points = points_on way in
    let least = is_least (classes_of POINTS (m ++ o)) in
    let parts : IsOpened seam.components.items =
    subst (λ xs. IsOpened xs) (sym is.parts)
    (AllByRecursion-filter (λ x. x < POINTS) (is_least (classes_of POINTS (m ++ (o ++ n)))) opened facts.arcs) in
    let named : AllByRecursion (λ k. Contains seam.components.items k) seam.whole.items =
    subst (λ xs. AllByRecursion (λ k. Contains xs k) seam.whole.items) (sym is.parts)
    (subst (λ ys. AllByRecursion (λ k. Contains (components points m n o) k) ys) (sym is.whole)
    (places-named points m n o facts.listed)) in
    record {
      parts = parts;
      named = named;
      discs = AllByRecursion-weaker (λ k. Contains seam.components.items k) (λ k. k < POINTS) seam.whole.items
          (λ k has. AllByRecursion-at (λ x. x < POINTS) seam.components.items k parts has) named;
      room = omega (
        arith,
        facts.room,
        ap (λ (xs : List ℕ). length xs) is.whole,
        length-map (discs points m o) (component_in points m n o),
        length-filter least opened,
        count_by-le-length least opened,
      );
    }

-- a sum from nothing with the list is the composition
pub composition_made : (p factor : ℕ) (way : Way) (start whole : List Term) → WayFacts way → start ≡ [] → factor ≡ 1
    → IsSum p start (scaled factor (listed_along way)) whole → IsComposedAlong p way whole
composition_made p factor way start whole facts none one is =
    let points = points_on way in
    let m = joins_from way in
    let o = joins_to way in
    let list = listed_along way in
    let made = IsComposition-listed p points m (joins_over way) o way.first.now way.second.now facts.listed in
    let limit = 2 ^ length (discs points m o) in
    record {
      dots = is.dots limit (subst (λ xs. HaveDotsBelow limit xs) (sym none) tt) (scaled-below factor limit list made.dots);
      coefficients = λ kept below.
          is.coefficients kept
          ∙ ap (λ x. x % p)
          (ap (λ xs. coefficient_in (xs ++ scaled factor list) kept) none ∙ coefficient-scaled factor list kept
          ∙ ap (λ f. f * coefficient_in list kept) one ∙ one_time (coefficient_in list kept))
          ∙ made.coefficients kept below;
    }
  where
    one_time : (a : ℕ) → 1 * a ≡ a
    one_time a = omega arith

-- a sum with the list, times minus the inverse of a pivot, is less the way through it
pub cancelled : (p pivot : ℕ) (way : Way) (old new : List Term) → WayFacts way → IsField p
    → IsSum p old (scaled (negative_mod p (inverse p pivot)) (listed_along way)) new → IsCancelledAlong p pivot way old new
cancelled p pivot way old new facts field is =
    let points = points_on way in
    let m = joins_from way in
    let o = joins_to way in
    let list = listed_along way in
    let plus = inverse p pivot in
    let minus = negative_mod p plus in
    let made = IsComposition-listed p points m (joins_over way) o way.first.now way.second.now facts.listed in
    let limit = 2 ^ length (discs points m o) in
    record {
      dots = λ below. is.dots limit below (scaled-below minus limit list made.dots);
      coefficients = λ kept below.
          let a = coefficient_in old kept in
          let c = composed_along way kept in
          same-add p (coefficient_in new kept) (a + minus * coefficient_in list kept) (plus * c) (plus * c)
          (is.coefficients kept ∙ ap (λ x. x % p)
          (coefficient-append old (scaled minus list) kept ∙ ap (λ x. a + x) (coefficient-scaled minus list kept))) refl
          ∙ same-add p (a + minus * coefficient_in list kept) (a + minus * c) (plus * c) (plus * c)
          (same-add p a a (minus * coefficient_in list kept) (minus * c) refl
          (same-scaled p minus (coefficient_in list kept) c (made.coefficients kept below))) refl
          ∙ ap (λ x. x % p) (grouped a minus plus c)
          ∙ same-add p a a ((plus + minus) * c) (0 * c) refl
          (same-mul p (plus + minus) 0 c c (field.negatives_cancel plus ∙ sym (zero-mod p)) refl)
          ∙ ap (λ x. x % p) (nothing a c);
    }
  where
    grouped : (a minus plus c : ℕ) → a + minus * c + plus * c ≡ a + (plus + minus) * c
    grouped a minus plus c = omega arith

    nothing : (a c : ℕ) → a + 0 * c ≡ a
    nothing a c = omega arith
