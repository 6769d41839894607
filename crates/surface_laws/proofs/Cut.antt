-- A surface cut along any list of circles: one after another, each of them modulo p (OneCut).
use Rattle.std.proofs.Common.{◌≡◌, ℕ, suc, ◌+◌, ◌*◌, ◌^◌, ◌<◌, ◌∙◌, List, [], ◌∷◌, map, length, sym, ap, ap₂, append_assoc, append-nil, arith}
use Rattle.std.specs.List.{sum_by, AllByRecursion, Contains}
use Rattle.std.proofs.Math.Nat.{pow-suc}
use Rattle.std.proofs.lemmas.List.Sums.{sum_by-append}
use Rattle.kh_types.specs.Classes.{AreBelow}
use Rattle.kh_types.specs.Products.{sum_below}
use Rattle.kh_types.specs.Residues.{Same}
use Rattle.kh_types.proofs.Residues.{same-equal}
use Rattle.kh_types.proofs.Sums.{sum_below-same}
use Rattle.kh_types.proofs.ListSums.{sum_by-map}
use Rattle.kh_types.proofs.Lists.{AllByRecursion-append, AllByRecursion-at}
use Rattle.surface_laws.specs.Surfaces.{Surface, component_of, faces_on, lowers_on, raises_on, IsClosed, value, IsPlaced}
use Rattle.surface_laws.specs.Cuts.{with_faces, caps, capped, glued, sum_over_labels, AreOn}
use Rattle.surface_laws.proofs.JoinedCounts.{tied, amount_at}
use Rattle.surface_laws.proofs.OneCut.{place_of_face, one_face, itself, one_place, opened, value-tied, IsClosed-tied}
use Rattle.surface_laws.proofs.Labels.{sum_below-twice, caps-even, caps-odd, places-caps}

-- whether a surface is closed does not depend on its marks

more-faces : (surface : Surface) (k : ℕ) (more : List (ℕ × ℕ))
    → faces_on (with_faces surface more) k
    ≡ sum_by (amount_at surface k itself one_place) (map place_of_face more) + faces_on surface k
more-faces surface k more =
    sum_by-append (amount_at surface k place_of_face one_face) more surface.faces
    ∙ ap (λ n. n + faces_on surface k) (sym (sum_by-map (amount_at surface k itself one_place) place_of_face more))

has-faces : (f g r l genus : ℕ) → f ≡ g → 2 * f + r + 4 * genus ≡ l + 4 → 2 * g + r + 4 * genus ≡ l + 4
has-faces f g r l genus same has = omega (arith, same, has)

pub IsClosed-marks : (surface : Surface) (more other : List (ℕ × ℕ)) → map place_of_face more ≡ map place_of_face other
    → IsClosed (with_faces surface more) → IsClosed (with_faces surface other)
IsClosed-marks surface more other same closed = record {
  genus = λ place has.
      let k = component_of surface place in
      let here = closed.genus place has in
      let faces : faces_on (with_faces surface more) k ≡ faces_on (with_faces surface other) k =
      more-faces surface k more
      ∙ ap (λ ps. sum_by (amount_at surface k itself one_place) ps + faces_on surface k) same
      ∙ sym (more-faces surface k other) in (
        here.0,
        has-faces (faces_on (with_faces surface more) k) (faces_on (with_faces surface other) k) (raises_on surface k)
            (lowers_on surface k) here.0 faces here.1,
      );
}

pub IsClosed-caps : (surface : Surface) (circles : List (ℕ × ℕ)) (label other : ℕ) → IsClosed (capped surface circles label)
    → IsClosed (capped surface circles other)
IsClosed-caps surface circles label other closed =
    IsClosed-marks surface (caps circles label) (caps circles other) (places-caps circles label other) closed

-- the surface that is opened at the first circle, and capped at the others
first-opened : (surface : Surface) (circle : ℕ × ℕ) (circles : List (ℕ × ℕ)) (label : ℕ)
    → IsClosed (capped surface (circle ∷ circles) 0) → IsClosed (opened (capped surface circles label) circle.0 0 circle.1 2)
first-opened surface circle circles label closed =
    let more : List (ℕ × ℕ) = (circle.0, 0) ∷ (circle.1, 2) ∷ caps circles label in
    IsClosed-marks surface (caps (circle ∷ circles) 0) more
    (places-caps (circle ∷ circles) 0 (2 * label) ∙ ap (λ fs. map place_of_face fs) (caps-even circle circles label)) closed

-- a surface with other joins
abbrev with_joins : Surface → List (ℕ × ℕ) → Surface
with_joins surface joins = record {
  size = surface.size;
  places = surface.places;
  joins = joins;
  faces = surface.faces;
  lowers = surface.lowers;
  raises = surface.raises;
}

-- circles glued one after another
glued-first : (surface : Surface) (circle : ℕ × ℕ) (circles : List (ℕ × ℕ))
    → glued (tied surface circle.0 circle.1) circles ≡ glued surface (circle ∷ circles)
glued-first surface circle circles =
    ap (λ joins. with_joins surface joins) (append_assoc surface.joins (circle ∷ []) circles)

glued-none : (surface : Surface) → glued surface [] ≡ with_faces surface []
glued-none surface = ap (λ joins. with_joins surface joins) (append-nil surface.joins)

-- what the law needs of a surface and its circles
pub record IsCuttable (surface : Surface) (circles : List (ℕ × ℕ)) : Type 0 where
  pub joins : AreBelow surface.size surface.joins
  pub places : AllByRecursion (λ place. place < surface.size) surface.places
  pub on : AreOn surface circles
  pub closed : IsClosed (capped surface circles 0)

below-size : (surface : Surface) (place : ℕ) → AllByRecursion (λ place. place < surface.size) surface.places
    → Contains surface.places place → place < surface.size
below-size surface place below has = AllByRecursion-at (λ place. place < surface.size) surface.places place below has

IsCuttable-rest : (surface : Surface) (circle : ℕ × ℕ) (circles : List (ℕ × ℕ)) → IsCuttable surface (circle ∷ circles)
    → IsCuttable (tied surface circle.0 circle.1) circles
IsCuttable-rest surface circle circles cuttable = record {
  joins = AllByRecursion-append (λ pair. (pair.0 < surface.size) × (pair.1 < surface.size)) surface.joins (circle ∷ [])
      cuttable.joins
      ((below-size surface circle.0 cuttable.places cuttable.on.0.0, below-size surface circle.1 cuttable.places cuttable.on.0.1), tt);
  places = cuttable.places;
  on = cuttable.on.1;
  closed = IsClosed-tied (capped surface circles 0) circle.0 0 circle.1 2 cuttable.on.0.0 cuttable.on.0.1
      (first-opened surface circle circles 0 cuttable.closed);
}

-- both labels of the first circle
first-circle : (p h k : ℕ) (surface : Surface) (circle : ℕ × ℕ) (circles : List (ℕ × ℕ)) (label : ℕ) → Same p (h + k) 0
    → IsCuttable surface (circle ∷ circles)
    → Same p
    (value h k (capped surface (circle ∷ circles) (2 * label)) + value h k (capped surface (circle ∷ circles) (2 * label + 1)))
    (value h k (capped (tied surface circle.0 circle.1) circles label))
first-circle p h k surface circle circles label none cuttable =
    let more = caps circles label in
    same-equal p
    (value h k (capped surface (circle ∷ circles) (2 * label)) + value h k (capped surface (circle ∷ circles) (2 * label + 1)))
    (value h k (with_faces surface ((circle.0, 0) ∷ (circle.1, 2) ∷ more))
    + value h k (with_faces surface ((circle.0, 1) ∷ (circle.1, 0) ∷ more)))
    (ap₂ (λ (x y : List (ℕ × ℕ)). value h k (with_faces surface x) + value h k (with_faces surface y))
    (caps-even circle circles label) (caps-odd circle circles label))
    ∙ value-tied p h k (capped surface circles label) circle.0 circle.1 none cuttable.joins
    (below-size surface circle.0 cuttable.places cuttable.on.0.0) (below-size surface circle.1 cuttable.places cuttable.on.0.1)
    cuttable.on.0.0 cuttable.on.0.1 (first-opened surface circle circles label cuttable.closed)

pub value-glued : (p h k : ℕ) (surface : Surface) (circles : List (ℕ × ℕ)) → Same p (h + k) 0 → IsCuttable surface circles
    → Same p (sum_over_labels h k surface circles) (value h k (glued surface circles))
value-glued p h k surface [] none cuttable =
    same-equal p (sum_over_labels h k surface []) (value h k (glued surface []))
    (plus_zero (value h k (with_faces surface [])) ∙ ap (value h k) (sym (glued-none surface)))
  where
    plus_zero : (x : ℕ) → x + 0 ≡ x
    plus_zero x = omega arith
value-glued p h k surface (circle ∷ circles) none cuttable =
    let twice : 2 ^ suc (length circles) ≡ 2 * 2 ^ length circles = omega (arith, pow-suc 2 (length circles)) in
    let cut : ℕ → ℕ = λ label. value h k (capped surface (circle ∷ circles) label) in
    let rest : ℕ → ℕ = λ label. value h k (capped (tied surface circle.0 circle.1) circles label) in
    let pairs : ℕ → ℕ = λ label. cut (2 * label) + cut (2 * label + 1) in
    same-equal p (sum_below (2 ^ suc (length circles)) cut) (sum_below (2 ^ length circles) pairs)
    (ap (λ n. sum_below n cut) twice ∙ sum_below-twice (2 ^ length circles) cut)
    ∙ sum_below-same p (2 ^ length circles) pairs rest
    (λ label. first-circle p h k surface circle circles label none cuttable)
    ∙ value-glued p h k (tied surface circle.0 circle.1) circles none (IsCuttable-rest surface circle circles cuttable)
    ∙ same-equal p (value h k (glued (tied surface circle.0 circle.1) circles)) (value h k (glued surface (circle ∷ circles)))
    (ap (value h k) (glued-first surface circle circles))

closed_as : (surface other : Surface) → surface ≡ other → IsClosed surface → IsClosed other
closed_as surface other same closed = rw (sym same) closed

pub IsClosed-glued : (surface : Surface) (circles : List (ℕ × ℕ)) → IsCuttable surface circles → IsClosed (glued surface circles)
IsClosed-glued surface [] cuttable = closed_as (with_faces surface []) (glued surface []) (sym (glued-none surface)) cuttable.closed
IsClosed-glued surface (circle ∷ circles) cuttable =
    closed_as (glued (tied surface circle.0 circle.1) circles) (glued surface (circle ∷ circles)) (glued-first surface circle circles)
    (IsClosed-glued (tied surface circle.0 circle.1) circles (IsCuttable-rest surface circle circles cuttable))

pub IsCuttable-placed : (surface : Surface) (circles : List (ℕ × ℕ)) (label : ℕ) → IsPlaced surface → AreOn surface circles
    → IsClosed (capped surface circles label) → IsCuttable surface circles
IsCuttable-placed surface circles label placed on closed = record {
  joins = placed.joins;
  places = placed.places;
  on = on;
  closed = IsClosed-caps surface circles label 0 closed;
}
