-- A third Reidemeister move keeps the state sum of a code.
--
-- A code with a triangle is its other crossings, whose smoothings stay, and three that are moved. Their smoothings in a state of the whole
-- are those of a state of the triangle between its six ends, so that the circles are those of InsideCircles; and these depend on the other
-- crossings only by how their ends are joined, which a slide leaves.
use Rattle.std.proofs.Common.{◌≡◌, ◌≢◌, subst, ℕ, zero, suc, ◌⊎◌, inl, inr, ◌+◌, ◌<◌, ◌∙◌, List, [], ◌∷◌, ◌++◌, sym, refl, length, get_or, ap, ap₂, arith, Bool, true, false, cond}
use Rattle.std.specs.Prelude.{nat_eq}
use Rattle.std.specs.List.{flat_map, enumerate_from, AllByRecursion}
use Rattle.std.proofs.lemmas.Bool.Decides.{nat_tests}
use Rattle.kh_types.specs.Bits.{bit, ones}
use Rattle.kh_types.specs.Code.{Code, arc_in}
use Rattle.kh_types.specs.Classes.{classes_of, Respects, AreBelow}
use Rattle.kh_types.specs.Circles.{smoothing_of, smoothings_of, circles_of}
use Rattle.gluing_laws.specs.Arcs.{arc_by_place}
use Rattle.kh_types.proofs.JoinedClasses.{classes_of-same}
use Rattle.kh_types.proofs.ClassLemmas.{Respects-append, Respects-first, Respects-second, AreBelow-append}
use Rattle.kh_types.proofs.Lists.{AllByRecursion-first, AllByRecursion-second}
use Rattle.gluing_laws.proofs.OldLemmas.{all_from}
use Rattle.gluing_laws.specs.Glue.{renamed}
use Rattle.gluing_laws.specs.Codes.{name_count, HoldsArcs}
use Rattle.gluing_laws.specs.SlidCodes.{Shows, HasTriangle}
use Rattle.gluing_laws.proofs.OutsidePairs.{is_one_of, outside_at, outside_of}
use Rattle.gluing_laws.proofs.Renamed.{AreBelow-renamed}
use Rattle.gluing_laws.proofs.CodeCircles.{smoothing_by, smoothing_by-below}
use Rattle.gluing_laws.proofs.Stubs.{Respects-renamed, Respects-from_renamed}

-- pairs at each crossing

all_at : (P : ℕ × ℕ → Type 0) (g : ℕ × List ℕ → List (ℕ × ℕ)) (at : ℕ) (xs : List (List ℕ))
    → AllByRecursion P (flat_map g (enumerate_from at xs)) → (k : ℕ) → k < length xs → AllByRecursion P (g (at + k, get_or xs k []))
all_at P g at [] holds k below = absurd (omega (arith, below))
all_at P g at (x ∷ xs) holds zero below = grind (arith, nat_tests, AllByRecursion-first)
all_at P g at (x ∷ xs) holds (suc k) below =
    grind (arith, nat_tests, AllByRecursion-second, all_at P g (at + 1) xs (AllByRecursion-second P (g (at, x)) (flat_map g (enumerate_from (at + 1) xs)) holds) k (omega arith))

pub flat_map-same : (g h : ℕ × List ℕ → List (ℕ × ℕ)) (at : ℕ) (xs ys : List (List ℕ)) → length xs ≡ length ys
    → ((k : ℕ) → k < length xs → g (at + k, get_or xs k []) ≡ h (at + k, get_or ys k []))
    → flat_map g (enumerate_from at xs) ≡ flat_map h (enumerate_from at ys)
flat_map-same g h at [] [] size same = refl
flat_map-same g h at [] (y ∷ ys) size same = absurd (omega (arith, size))
flat_map-same g h at (x ∷ xs) [] size same = absurd (omega (arith, size))
flat_map-same g h at (x ∷ xs) (y ∷ ys) size same =
    let e : at + 0 ≡ at = omega arith in
    let here : g (at, x) ≡ h (at, y) = sym (ap (λ k. g (k, x)) e) ∙ same 0 (omega arith) ∙ ap (λ k. h (k, y)) e in
    let rest_size : length xs ≡ length ys = omega (arith, size) in
    ap₂ (λ ps qs. ps ++ qs) here
    (flat_map-same g h (at + 1) xs ys rest_size (λ k below.
    let next : at + 1 + k ≡ at + suc k = omega arith in
    ap (λ j. g (j, get_or xs k [])) next ∙ same (suc k) (omega arith) ∙ ap (λ j. h (j, get_or ys k [])) (sym next)))

-- places that are one of three

pub one_of_three : (c d e k : ℕ)
    → ((is_one_of c d e k ≡ true) × ((k ≡ c) ⊎ ((k ≡ d) ⊎ (k ≡ e))))
    ⊎ ((is_one_of c d e k ≡ false) × (k ≢ c) × (k ≢ d) × (k ≢ e))
one_of_three c d e k = grind (arith, nat_tests)

all_of_smoothing : (P : ℕ → Type 0) (is_zero : Bool) (w x y z : ℕ) → P w → P x → P y → P z
    → AllByRecursion (λ pair. P pair.0 × P pair.1) (smoothing_by is_zero w x y z)
all_of_smoothing P is_zero w x y z at_w at_x at_y at_z = grind (arith, nat_tests)

pub smoothings-hold : (code : Code) (state : ℕ) → HoldsArcs code → AreBelow (name_count code) (smoothings_of code.crossings state)
smoothings-hold code state holds =
    all_from (λ pair. (pair.0 < name_count code) × (pair.1 < name_count code)) (λ at. smoothing_of (bit state at.0) at.1) 0
    code.crossings
    (λ k below.
    let quadruple = get_or code.crossings k [] in
    smoothing_by-below (name_count code) (nat_eq (bit state (0 + k)) 0) (arc_in quadruple 0) (arc_in quadruple 1) (arc_in quadruple 2)
    (arc_in quadruple 3) (holds k 0 below (omega arith)) (holds k 1 below (omega arith)) (holds k 2 below (omega arith))
    (holds k 3 below (omega arith)))

-- what holds at the arcs of all other crossings, holds of what they join
pub all_outside : (P : ℕ → Type 0) (code : Code) (c d e state : ℕ)
    → ((place slot : ℕ) → place < length code.crossings → place ≢ c → place ≢ d → place ≢ e → slot < 4
    → P (arc_by_place code.crossings place slot))
    → AllByRecursion (λ pair. P pair.0 × P pair.1) (outside_of code.crossings c d e state)
all_outside P code c d e state holds =
    all_from (λ pair. P pair.0 × P pair.1) (outside_at c d e state) 0 code.crossings
    (λ k below.
    let quadruple = get_or code.crossings k [] in
    let zero_plus : 0 + k ≡ k = omega arith in
    let back : k ≡ 0 + k = omega arith in
    elim (one_of_three c d e (0 + k)) [
      | inl omit ↦
          subst (λ (b : Bool). AllByRecursion (λ pair. P pair.0 × P pair.1) (cond b [] (smoothing_of (bit state (0 + k)) quadruple)))
          (sym omit.0) tt
      | inr keep ↦
          subst (λ (b : Bool). AllByRecursion (λ pair. P pair.0 × P pair.1) (cond b [] (smoothing_of (bit state (0 + k)) quadruple)))
          (sym keep.0)
          (all_of_smoothing P (nat_eq (bit state (0 + k)) 0) (arc_in quadruple 0) (arc_in quadruple 1) (arc_in quadruple 2)
          (arc_in quadruple 3)
          (holds k 0 below (λ is. keep.1 (zero_plus ∙ is)) (λ is. keep.2 (zero_plus ∙ is)) (λ is. keep.3 (zero_plus ∙ is)) (omega arith))
          (holds k 1 below (λ is. keep.1 (zero_plus ∙ is)) (λ is. keep.2 (zero_plus ∙ is)) (λ is. keep.3 (zero_plus ∙ is)) (omega arith))
          (holds k 2 below (λ is. keep.1 (zero_plus ∙ is)) (λ is. keep.2 (zero_plus ∙ is)) (λ is. keep.3 (zero_plus ∙ is)) (omega arith))
          (holds k 3 below (λ is. keep.1 (zero_plus ∙ is)) (λ is. keep.2 (zero_plus ∙ is)) (λ is. keep.3 (zero_plus ∙ is)) (omega arith)))
    ])

-- a state joins what the other crossings join, and what the triangle joins

-- a state of the whole has at three places the bits of a state of the triangle
pub record AtInside (n c d e base state inside : ℕ) : Type 0 where
  pub others : (k : ℕ) → k ≢ c → k ≢ d → k ≢ e → bit state k ≡ bit base k
  pub at_c : bit state c ≡ bit inside 0
  pub at_d : bit state d ≡ bit inside 1
  pub at_e : bit state e ≡ bit inside 2
  pub ones : ones n state ≡ ones n base + ones 3 inside

respects_shown : (f arcs : ℕ → ℕ) (smoothing other : ℕ) (quadruple inside : List ℕ) → Shows arcs quadruple inside → smoothing ≡ other
    → Respects f (smoothing_of smoothing quadruple) → Respects (λ x. f (arcs x)) (smoothing_of other inside)
respects_shown f arcs smoothing other quadruple inside shows same respects = grind (arith, nat_tests)

respects_showing : (f arcs : ℕ → ℕ) (smoothing other : ℕ) (quadruple inside : List ℕ) → Shows arcs quadruple inside → smoothing ≡ other
    → Respects (λ x. f (arcs x)) (smoothing_of other inside) → Respects f (smoothing_of smoothing quadruple)
respects_showing f arcs smoothing other quadruple inside shows same respects = grind (arith, nat_tests)

-- the circles of a state of a code with a triangle
pub circles_at : (code : Code) (t0 t1 t2 : List ℕ) (arcs : ℕ → ℕ) (n c d e base state inside : ℕ)
    → HasTriangle code (t0 ∷ t1 ∷ t2 ∷ []) arcs c d e → c < length code.crossings → d < length code.crossings → e < length code.crossings
    → AtInside n c d e base state inside → AreBelow 10 (smoothings_of (t0 ∷ t1 ∷ t2 ∷ []) inside)
    → circles_of code state
    ≡ classes_of (name_count code) (outside_of code.crossings c d e state ++ renamed arcs (smoothings_of (t0 ∷ t1 ∷ t2 ∷ []) inside))
circles_at code t0 t1 t2 arcs n c d e base state inside has c_below d_below e_below at inner_below =
    let outside = outside_of code.crossings c d e state in
    let inner = smoothings_of (t0 ∷ t1 ∷ t2 ∷ []) inside in
    let crossings = code.crossings in
    let outside_below = all_outside (λ x. x < name_count code) code c d e state
    (λ place slot below not_c not_d not_e slot_below. has.holds place slot below slot_below) in
    classes_of-same (name_count code) (smoothings_of crossings state) (outside ++ renamed arcs inner) (smoothings-hold code state has.holds)
    (AreBelow-append (name_count code) outside (renamed arcs inner) outside_below
    (AreBelow-renamed 10 (name_count code) arcs inner has.placed.below inner_below))
    (λ f respects.
    let there : (k : ℕ) → k < length crossings → Respects f (smoothing_of (bit state k) (get_or crossings k [])) =
    λ k below.
    let zero_plus : 0 + k ≡ k = omega arith in
    subst (λ (j : ℕ). Respects f (smoothing_of (bit state j) (get_or crossings k []))) zero_plus
    (all_at (λ pair. f pair.0 ≡ f pair.1) (λ z. smoothing_of (bit state z.0) z.1) 0 crossings respects k below) in
    Respects-append f outside (renamed arcs inner)
    (all_from (λ pair. f pair.0 ≡ f pair.1) (outside_at c d e state) 0 crossings (λ k below.
    elim (one_of_three c d e (0 + k)) [
      | inl omit ↦
          subst (λ (b : Bool). Respects f (cond b [] (smoothing_of (bit state (0 + k)) (get_or crossings k [])))) (sym omit.0) tt
      | inr keep ↦
          subst (λ (b : Bool). Respects f (cond b [] (smoothing_of (bit state (0 + k)) (get_or crossings k [])))) (sym keep.0)
          (all_at (λ pair. f pair.0 ≡ f pair.1) (λ z. smoothing_of (bit state z.0) z.1) 0 crossings respects k below)
    ]))
    (Respects-renamed f arcs inner
    (Respects-append (λ x. f (arcs x)) (smoothing_of (bit inside 0) t0)
    (smoothing_of (bit inside 1) t1 ++ (smoothing_of (bit inside 2) t2 ++ []))
    (respects_shown f arcs (bit state c) (bit inside 0) (get_or crossings c []) t0 has.first at.at_c (there c c_below))
    (Respects-append (λ x. f (arcs x)) (smoothing_of (bit inside 1) t1) (smoothing_of (bit inside 2) t2 ++ [])
    (respects_shown f arcs (bit state d) (bit inside 1) (get_or crossings d []) t1 has.second at.at_d (there d d_below))
    (Respects-append (λ x. f (arcs x)) (smoothing_of (bit inside 2) t2) []
    (respects_shown f arcs (bit state e) (bit inside 2) (get_or crossings e []) t2 has.third at.at_e (there e e_below)) tt)))))
    (λ f respects.
    let out = Respects-first f outside (renamed arcs inner) respects in
    let first = Respects-from_renamed f arcs inner (Respects-second f outside (renamed arcs inner) respects) in
    let second = Respects-second (λ x. f (arcs x)) (smoothing_of (bit inside 0) t0)
    (smoothing_of (bit inside 1) t1 ++ (smoothing_of (bit inside 2) t2 ++ [])) first in
    let third = Respects-second (λ x. f (arcs x)) (smoothing_of (bit inside 1) t1) (smoothing_of (bit inside 2) t2 ++ []) second in
    let at_first = respects_showing f arcs (bit state c) (bit inside 0) (get_or crossings c []) t0 has.first at.at_c
    (Respects-first (λ x. f (arcs x)) (smoothing_of (bit inside 0) t0)
    (smoothing_of (bit inside 1) t1 ++ (smoothing_of (bit inside 2) t2 ++ [])) first) in
    let at_second = respects_showing f arcs (bit state d) (bit inside 1) (get_or crossings d []) t1 has.second at.at_d
    (Respects-first (λ x. f (arcs x)) (smoothing_of (bit inside 1) t1) (smoothing_of (bit inside 2) t2 ++ []) second) in
    let at_third = respects_showing f arcs (bit state e) (bit inside 2) (get_or crossings e []) t2 has.third at.at_e
    (Respects-first (λ x. f (arcs x)) (smoothing_of (bit inside 2) t2) [] third) in
    all_from (λ pair. f pair.0 ≡ f pair.1) (λ z. smoothing_of (bit state z.0) z.1) 0 crossings (λ k below.
    let moved : (j : ℕ) → 0 + k ≡ j → Respects f (smoothing_of (bit state j) (get_or crossings j []))
    → Respects f (smoothing_of (bit state (0 + k)) (get_or crossings k [])) =
    λ j is holds.
    let is_too : j ≡ k = omega arith in
    subst (λ (i : ℕ). Respects f (smoothing_of (bit state i) (get_or crossings k []))) (sym is)
    (subst (λ (i : ℕ). Respects f (smoothing_of (bit state j) (get_or crossings i []))) is_too holds) in
    elim (one_of_three c d e (0 + k)) [
      | inl omit ↦ elim (omit.1) [
        | inl is ↦ moved c is at_first
        | inr other ↦ elim other [ inl is ↦ moved d is at_second | inr is ↦ moved e is at_third ]
      ]
      | inr keep ↦
          subst (λ (b : Bool). Respects f (cond b [] (smoothing_of (bit state (0 + k)) (get_or crossings k [])))) keep.0
          (all_at (λ pair. f pair.0 ≡ f pair.1) (outside_at c d e state) 0 crossings out k below)
    ]))
