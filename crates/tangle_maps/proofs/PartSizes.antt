-- Compositions do not depend on the size, as long as it is above the arcs.
-- A coefficient is a product over the components of the three pairings (`composed-parts`), and each factor counts opened arcs and discs by
-- the component on which they lie. These are classes of opened arcs: they are the same numbers for both sizes, and so are the lists of
-- discs and components.
use Rattle.std.proofs.Common.{◌≡◌, ℕ, ◌+◌, ◌-◌, ◌*◌, ◌/◌, ◌<◌, ◌≤◌, ◌∙◌, List, [], ◌∷◌, ◌++◌, refl, sym, ap, ap₂, arith, cond}
use Rattle.std.specs.Prelude.{nat_eq}
use Rattle.std.specs.List.{count_by, sum_by, enumerate_from, AllByRecursion}
use Rattle.std.proofs.lemmas.List.Sums.{sum_by-cons}
use Rattle.kh_types.specs.Bits.{bit}
use Rattle.kh_types.specs.Classes.{classes_of, is_least}
use Rattle.surface_laws.specs.Surfaces.{weight}
use Rattle.surface_laws.specs.Points.{ArePlaced, AreAmong, IsOpenPairing, discs, least_points}
use Rattle.surface_laws.proofs.Components.{AllByRecursion-weaker}
use Rattle.dotted_maps.specs.Composition.{composed}
use Rattle.dotted_maps.specs.Parts.{components, component_in, dotted_on, undotted_on, genus_in, part_at, product_over}
use Rattle.dotted_maps.proofs.ComponentParts.{composed-parts}
use Rattle.dotted_maps.proofs.LeastPoints.{AllByRecursion-filter, AreAmong-append, AreBelow-among, all-themselves}
use Rattle.tangle_maps.specs.Pairings.{numbered}
use Rattle.tangle_maps.proofs.SizeLemmas.{class-size, least_points-size}
use Rattle.dotted_maps.proofs.Listed.{product-alike}

-- counts by functions that agree on a list

counts-agree : (f g : ℕ → ℕ) (c : ℕ) (xs : List ℕ) → AllByRecursion (λ x. f x ≡ g x) xs
    → count_by (λ x. nat_eq (f x) c) xs ≡ count_by (λ x. nat_eq (g x) c) xs
counts-agree f g c [] agree = refl
counts-agree f g c (x ∷ xs) agree =
    sum_by-cons (λ y. cond (nat_eq (f y) c) 1 0) x xs
    ∙ ap₂ (λ a b. cond (nat_eq a c) 1 0 + b) agree.0 (counts-agree f g c xs agree.1)
    ∙ sym (sum_by-cons (λ y. cond (nat_eq (g y) c) 1 0) x xs)

sums-agree : (weigh f g : ℕ → ℕ) (c j : ℕ) (xs : List ℕ) → AllByRecursion (λ x. f x ≡ g x) xs
    → sum_by (λ at. cond (nat_eq (f at.1) c) (weigh at.0) 0) (enumerate_from j xs)
    ≡ sum_by (λ at. cond (nat_eq (g at.1) c) (weigh at.0) 0) (enumerate_from j xs)
sums-agree weigh f g c j [] agree = refl
sums-agree weigh f g c j (x ∷ xs) agree =
    sum_by-cons (λ at. cond (nat_eq (f at.1) c) (weigh at.0) 0) (j, x) (enumerate_from (j + 1) xs)
    ∙ ap₂ (λ a b. cond (nat_eq a c) (weigh j) 0 + b) agree.0 (sums-agree weigh f g c (j + 1) xs agree.1)
    ∙ sym (sum_by-cons (λ at. cond (nat_eq (g at.1) c) (weigh at.0) 0) (j, x) (enumerate_from (j + 1) xs))

-- three pairings of opened arcs, with a lesser size and a greater one
record AreSized (n k : ℕ) (opened : List ℕ) (m c o : List (ℕ × ℕ)) : Type 0 where
  within : n ≤ k
  below : AllByRecursion (λ x. x < n) opened
  first : AreAmong opened m
  second : AreAmong opened c
  third : AreAmong opened o

-- components of opened arcs
classes-agree : (n k : ℕ) (opened : List ℕ) (m c o : List (ℕ × ℕ)) → AreSized n k opened m c o
    → AllByRecursion (λ x. component_in (numbered k opened) m c o x ≡ component_in (numbered n opened) m c o x) opened
classes-agree n k opened m c o is =
    let joins = m ++ (o ++ c) in
    let joins_below = AreBelow-among n opened joins is.below
    (AreAmong-append opened m (o ++ c) is.first (AreAmong-append opened o c is.third is.second)) in
    AllByRecursion-weaker (λ x. x < n)
    (λ x. component_in (numbered k opened) m c o x ≡ component_in (numbered n opened) m c o x) opened
    (λ x small. class-size n k x joins is.within joins_below small) is.below

discs-agree : (n k : ℕ) (opened : List ℕ) (joins : List (ℕ × ℕ)) → n ≤ k → AllByRecursion (λ x. x < n) opened → AreAmong opened joins
    → least_points k opened joins ≡ least_points n opened joins
discs-agree n k opened joins within below among =
    least_points-size n k opened joins within below (AreBelow-among n opened joins below among)

-- a fact of opened arcs is one of discs
on-discs : (P : ℕ → Type 0) (n : ℕ) (opened : List ℕ) (joins : List (ℕ × ℕ)) → AllByRecursion P opened
    → AllByRecursion P (least_points n opened joins)
on-discs P n opened joins all = AllByRecursion-filter P (is_least (classes_of n joins)) opened all

abbrev formula : ℕ → ℕ → ℕ → ℕ → ℕ
formula arcs whole first second = (arcs + 4 - 2 * (whole + (first + second))) / 4

parts-agree : (h minus n k : ℕ) (opened : List ℕ) (m c o : List (ℕ × ℕ)) (dots others kept x : ℕ) → AreSized n k opened m c o
    → part_at h minus (numbered k opened) m c o dots others kept x ≡ part_at h minus (numbered n opened) m c o dots others kept x
parts-agree h minus n k opened m c o dots others kept x is =
    let f = component_in (numbered k opened) m c o in
    let g = component_in (numbered n opened) m c o in
    let arcs = classes-agree n k opened m c o is in
    let on = on-discs (λ y. f y ≡ g y) n opened in
    let mc = discs-agree n k opened (m ++ c) is.within is.below (AreAmong-append opened m c is.first is.second) in
    let co = discs-agree n k opened (c ++ o) is.within is.below (AreAmong-append opened c o is.second is.third) in
    let mo = discs-agree n k opened (m ++ o) is.within is.below (AreAmong-append opened m o is.first is.third) in
    let few = discs (numbered n opened) in
    let count : (ys zs : List ℕ) → ys ≡ zs → AllByRecursion (λ y. f y ≡ g y) zs
    → count_by (λ y. nat_eq (f y) x) ys ≡ count_by (λ y. nat_eq (g y) x) zs =
    λ ys zs same agree. ap (count_by (λ y. nat_eq (f y) x)) same ∙ counts-agree f g x zs agree in
    let sum : (weigh : ℕ → ℕ) (ys zs : List ℕ) → ys ≡ zs → AllByRecursion (λ y. f y ≡ g y) zs
    → sum_by (λ at. cond (nat_eq (f at.1) x) (weigh at.0) 0) (enumerate_from 0 ys)
    ≡ sum_by (λ at. cond (nat_eq (g at.1) x) (weigh at.0) 0) (enumerate_from 0 zs) =
    λ weigh ys zs same agree.
    ap (λ ws. sum_by (λ at. cond (nat_eq (f at.1) x) (weigh at.0) 0) (enumerate_from 0 ws)) same
    ∙ sums-agree weigh f g x 0 zs agree in
    let genus : genus_in (numbered k opened) m c o x ≡ genus_in (numbered n opened) m c o x =
    ap₂ (λ a w. formula a w (count_by (λ y. nat_eq (f y) x) (least_points k opened (m ++ c)))
    (count_by (λ y. nat_eq (f y) x) (least_points k opened (c ++ o))))
    (count opened opened refl arcs) (count (least_points k opened (m ++ o)) (few m o) mo (on (m ++ o) arcs))
    ∙ ap₂ (λ a b. formula (count_by (λ y. nat_eq (g y) x) opened) (count_by (λ y. nat_eq (g y) x) (few m o)) a b)
    (count (least_points k opened (m ++ c)) (few m c) mc (on (m ++ c) arcs))
    (count (least_points k opened (c ++ o)) (few c o) co (on (c ++ o) arcs)) in
    let dotted = ap₂ (λ a b. a + b)
    (sum (bit dots) (least_points k opened (m ++ c)) (few m c) mc (on (m ++ c) arcs))
    (sum (bit others) (least_points k opened (c ++ o)) (few c o) co (on (c ++ o) arcs)) in
    let undotted = sum (λ i. 1 - bit kept i) (least_points k opened (m ++ o)) (few m o) mo (on (m ++ o) arcs) in
    ap₂ (λ a b. weight h minus a b (undotted_on (numbered k opened) m c o x kept (least_points k opened (m ++ o)))) genus dotted
    ∙ ap (weight h minus (genus_in (numbered n opened) m c o x)
    (dotted_on (numbered n opened) m c o x dots (few m c) + dotted_on (numbered n opened) m c o x others (few c o))) undotted

pub composed-size : (h minus n k : ℕ) (opened : List ℕ) (m c o : List (ℕ × ℕ)) (dots others kept : ℕ) → n ≤ k → ArePlaced (numbered n opened)
    → IsOpenPairing (numbered n opened) m → AreAmong opened m → AreAmong opened c → AreAmong opened o
    → composed h minus (numbered k opened) m c o dots others kept ≡ composed h minus (numbered n opened) m c o dots others kept
composed-size h minus n k opened m c o dots others kept within placed pairing first second third =
    let is : AreSized n k opened m c o =
    record { within = within; below = placed.alive; first = first; second = second; third = third } in
    let wider : ArePlaced (numbered k opened) = record {
      alive = AllByRecursion-weaker (λ x. x < n) (λ x. x < k) opened (λ x small. omega (arith, small, within)) placed.alive;
      opened = all-themselves opened;
    } in
    composed-parts h minus (numbered k opened) m c o dots others kept wider record { ends = pairing.ends; once = pairing.once }
    first second third
    ∙ product-alike (part_at h minus (numbered k opened) m c o dots others kept) (part_at h minus (numbered n opened) m c o dots others kept)
    (components (numbered k opened) m c o) (λ x. parts-agree h minus n k opened m c o dots others kept x is)
    ∙ ap (product_over (part_at h minus (numbered n opened) m c o dots others kept))
    (discs-agree n k opened (m ++ (o ++ c)) within placed.alive
    (AreAmong-append opened m (o ++ c) first (AreAmong-append opened o c third second)))
    ∙ sym (composed-parts h minus (numbered n opened) m c o dots others kept placed pairing first second third)

pub composed-sizes : (h minus l n k : ℕ) (opened : List ℕ) (m c o : List (ℕ × ℕ)) (dots others kept : ℕ) → l ≤ n → l ≤ k
    → ArePlaced (numbered l opened) → IsOpenPairing (numbered l opened) m → AreAmong opened m → AreAmong opened c → AreAmong opened o
    → composed h minus (numbered k opened) m c o dots others kept ≡ composed h minus (numbered n opened) m c o dots others kept
composed-sizes h minus l n k opened m c o dots others kept first_within second_within placed pairing first second third =
    composed-size h minus l k opened m c o dots others kept second_within placed pairing first second third
    ∙ sym (composed-size h minus l n opened m c o dots others kept first_within placed pairing first second third)
