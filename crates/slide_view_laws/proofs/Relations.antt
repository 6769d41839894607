-- Which numbers the circles round a triangle join.
--
-- A value is given to each number of the diagram: to a number that is no side its class in another diagram, with the same outer part; to a
-- side the class of an end of its inside class, or a value of its own where the triangle closes a circle. Where both triangles join the
-- ends alike, the outer pairs and the inner ones respect these values. So what the first diagram joins, the second joins (classes are the
-- finest). With the values 0 for all ends and 1 for a closed circle, a closed circle has no number but sides.
use Rattle.std.proofs.Common.{◌≡◌, ◌≢◌, ℕ, inl, inr, ◌<◌, ◌≤◌, ◌∙◌, List, [], ◌∷◌, ◌++◌, refl, sym, ap, arith}
use Rattle.std.specs.Prelude.{slice_index}
use Rattle.kh_types.specs.Classes.{classes_of, Respects, AreBelow}
use Rattle.kh_types.proofs.ClassLemmas.{classes-together, classes-finest, AreBelow-append, Respects-append, Respects-first, Respects-second}
use Rattle.kh_types.proofs.JoinedClasses.{IsNamed-classes_of}
use Rattle.gluing_laws.specs.Glue.{renamed}
use Rattle.gluing_laws.specs.Slides.{IsPlacedTriangle, IsNoSide}
use Rattle.gluing_laws.proofs.OuterPairs.{TouchNoSide}
use Rattle.gluing_laws.proofs.Renamed.{AreBelow-renamed}
use Rattle.gluing_laws.proofs.Stubs.{Respects-renamed, Respects-from_renamed, Respects-through}
use Rattle.gluing_laws.proofs.InsideCircles.{value_of, side_is, end_or_side, value_of-other, value_of-first, value_of-second, value_of-third}
use Rattle.slide_view_laws.proofs.Values.{value_of_class, value_of_class-end, value_of_class-closed}

-- what has one value on pairs that touch no side is respected with other values on the sides
Respects-no_sides : (arcs v w : ℕ → ℕ) (pairs : List (ℕ × ℕ)) → ((z : ℕ) → IsNoSide arcs z → v z ≡ w z) → TouchNoSide arcs pairs
    → Respects w pairs → Respects v pairs
Respects-no_sides arcs v w [] out touch respects = tt
Respects-no_sides arcs v w (pair ∷ pairs) out touch respects = (
  out pair.0 touch.0.0 ∙ respects.0 ∙ sym (out pair.1 touch.0.1),
  Respects-no_sides arcs v w pairs out touch.1 respects.1,
)

Respects-constant : (value : ℕ) (pairs : List (ℕ × ℕ)) → Respects (λ z. value) pairs
Respects-constant value [] = tt
Respects-constant value (pair ∷ pairs) = (refl, Respects-constant value pairs)

pub end-no_side : (n : ℕ) (arcs : ℕ → ℕ) → IsPlacedTriangle n arcs → (i : ℕ) → i < 7 → IsNoSide arcs (arcs i)
end-no_side n arcs placed i below side from side_below = placed.apart i side (omega arith) from side_below

-- a triangle of some inside pairs in a diagram of n numbers with some outer pairs
pub record IsInside (n : ℕ) (arcs : ℕ → ℕ) (outer inside : List (ℕ × ℕ)) : Type 0 where
  pub placed : IsPlacedTriangle n arcs
  pub outer_below : AreBelow n outer
  pub touch : TouchNoSide arcs outer
  pub below : AreBelow 10 inside

-- the class of a number of the whole, and of an inside number
abbrev pub whole_class : ℕ → (ℕ → ℕ) → List (ℕ × ℕ) → List (ℕ × ℕ) → ℕ → ℕ
whole_class n arcs outer inside x = slice_index (classes_of n (outer ++ renamed arcs inside)) x

abbrev pub inside_class : List (ℕ × ℕ) → ℕ → ℕ
inside_class inside i = slice_index (classes_of 10 inside) i

pairs-below : (n : ℕ) (arcs : ℕ → ℕ) (outer inside : List (ℕ × ℕ)) → IsInside n arcs outer inside
    → AreBelow n (outer ++ renamed arcs inside)
pairs-below n arcs outer inside is =
    AreBelow-append n outer (renamed arcs inside) is.outer_below (AreBelow-renamed 10 n arcs inside is.placed.below is.below)

-- inside numbers that are joined inside are joined in the whole
pub whole-joined : (n : ℕ) (arcs : ℕ → ℕ) (outer inside : List (ℕ × ℕ)) → IsInside n arcs outer inside
    → (i j : ℕ) → i < 10 → j < 10 → inside_class inside i ≡ inside_class inside j
    → whole_class n arcs outer inside (arcs i) ≡ whole_class n arcs outer inside (arcs j)
whole-joined n arcs outer inside is =
    let w = λ (z : ℕ). whole_class n arcs outer inside z in
    classes-finest (λ i. w (arcs i)) 10 inside
    (Respects-from_renamed w arcs inside
    (Respects-second w outer (renamed arcs inside)
    (classes-together n (outer ++ renamed arcs inside) (pairs-below n arcs outer inside is))))
    is.below

-- values for the whole: those of a function at numbers that are no sides, by classes at sides
module _ (n : ℕ) (arcs : ℕ → ℕ) (outer inside : List (ℕ × ℕ)) (is : IsInside n arcs outer inside) (closed w : ℕ → ℕ) where
  seen : ℕ → ℕ
  seen class = value_of_class closed (λ i. w (arcs i)) class

  whole_value : ℕ → ℕ
  whole_value z =
      value_of (arcs 7) (arcs 8) (arcs 9) (seen (inside_class inside 7)) (seen (inside_class inside 8)) (seen (inside_class inside 9)) w z

  whole_value-out : (z : ℕ) → IsNoSide arcs z → whole_value z ≡ w z
  unfolding whole_value
  whole_value-out z z_out =
      value_of-other (arcs 7) (arcs 8) (arcs 9) (seen (inside_class inside 7)) (seen (inside_class inside 8))
      (seen (inside_class inside 9)) w z
      (z_out 7 (omega arith) (omega arith)) (z_out 8 (omega arith) (omega arith)) (z_out 9 (omega arith) (omega arith))

  whole_value-side : (i : ℕ) → 7 ≤ i → i < 10 → whole_value (arcs i) ≡ seen (inside_class inside i)
  unfolding whole_value
  whole_value-side i side i_below =
      let c = λ (k : ℕ). inside_class inside k in
      let placed = is.placed in
      elim (side_is i side i_below) [
        | inl at ↦
            value_of-first (arcs 7) (arcs 8) (arcs 9) (seen (c 7)) (seen (c 8)) (seen (c 9)) w (arcs i) (ap arcs at)
            ∙ ap (λ k. seen (c k)) (sym at)
        | inr other ↦ elim other [
          | inl at ↦
              value_of-second (arcs 7) (arcs 8) (arcs 9) (seen (c 7)) (seen (c 8)) (seen (c 9)) w (arcs i) (ap arcs at)
              (placed.apart 7 8 (omega arith) (omega arith) (omega arith))
              ∙ ap (λ k. seen (c k)) (sym at)
          | inr at ↦
              value_of-third (arcs 7) (arcs 8) (arcs 9) (seen (c 7)) (seen (c 8)) (seen (c 9)) w (arcs i) (ap arcs at)
              (placed.apart 7 9 (omega arith) (omega arith) (omega arith))
              (placed.apart 8 9 (omega arith) (omega arith) (omega arith)) ∙ ap (λ k. seen (c k)) (sym at)
        ]
      ]

  -- where the function has one value at the ends of each inside class, and respects the outer pairs, so do these values
  whole_value-respects : Respects w outer → ((i j : ℕ) → i < 7 → j < 7 → inside_class inside i ≡ inside_class inside j → w (arcs i)
      ≡ w (arcs j))
      → Respects whole_value (outer ++ renamed arcs inside)
  unfolding seen
  whole_value-respects outer_respects ends =
      let c = λ (k : ℕ). inside_class inside k in
      let named = IsNamed-classes_of 10 inside is.below in
      let through : (i : ℕ) → i < 10 → whole_value (arcs i) ≡ seen (c i) =
      λ i i_below. elim (end_or_side i) [
        | inl end ↦
            let least = named.least i i_below in
            let low : c i < 7 = omega (arith, least, end) in
            whole_value-out (arcs i) (end-no_side n arcs is.placed i end)
            ∙ ends i (c i) end low (sym (named.own i i_below))
            ∙ sym (value_of_class-end closed (λ k. w (arcs k)) (c i) low)
        | inr side ↦ whole_value-side i side i_below
      ] in
      Respects-append whole_value outer (renamed arcs inside)
      (Respects-no_sides arcs whole_value w outer whole_value-out is.touch outer_respects)
      (Respects-renamed whole_value arcs inside
      (Respects-through 10 c (λ i. whole_value (arcs i)) seen inside is.below through (classes-together 10 inside is.below)))

  -- so numbers that the whole joins have one value
  whole_value-same : Respects w outer → ((i j : ℕ) → i < 7 → j < 7 → inside_class inside i ≡ inside_class inside j → w (arcs i)
      ≡ w (arcs j))
      → (x y : ℕ) → x < n → y < n → whole_class n arcs outer inside x ≡ whole_class n arcs outer inside y → whole_value x ≡ whole_value y
  whole_value-same outer_respects ends x y =
      classes-finest whole_value n (outer ++ renamed arcs inside) (whole_value-respects outer_respects ends)
      (pairs-below n arcs outer inside is) x y

-- numbers that are no sides, and that the whole joins, are joined by other inside pairs that join the ends alike
pub whole-onward : (n : ℕ) (arcs : ℕ → ℕ) (outer inside others : List (ℕ × ℕ)) → IsInside n arcs outer inside → IsInside n arcs outer others
    → ((i : ℕ) → i < 7 → inside_class inside i ≡ inside_class others i)
    → (x y : ℕ) → x < n → y < n → IsNoSide arcs x → IsNoSide arcs y
    → whole_class n arcs outer inside x ≡ whole_class n arcs outer inside y
    → whole_class n arcs outer others x ≡ whole_class n arcs outer others y
whole-onward n arcs outer inside others is is_too alike x y x_below y_below x_out y_out same =
    let w = λ (z : ℕ). whole_class n arcs outer others z in
    let closed = λ (class : ℕ). class in
    sym (whole_value-out n arcs outer inside is closed w x x_out)
    ∙ whole_value-same n arcs outer inside is closed w
    (Respects-first w outer (renamed arcs others)
    (classes-together n (outer ++ renamed arcs others) (pairs-below n arcs outer others is_too)))
    (λ i j i_below j_below joined.
    whole-joined n arcs outer others is_too i j (omega (arith, i_below)) (omega (arith, j_below))
    (sym (alike i i_below) ∙ joined ∙ alike j j_below))
    x y x_below y_below same
    ∙ whole_value-out n arcs outer inside is closed w y y_out

-- a circle of sides alone has no other number
pub whole-closed : (n : ℕ) (arcs : ℕ → ℕ) (outer inside : List (ℕ × ℕ)) → IsInside n arcs outer inside
    → (side : ℕ) → 7 ≤ side → side < 10 → 7 ≤ inside_class inside side
    → (x : ℕ) → x < n → IsNoSide arcs x → whole_class n arcs outer inside x ≢ whole_class n arcs outer inside (arcs side)
unfolding seen
whole-closed n arcs outer inside is side from side_below closes x x_below x_out same =
    let w : ℕ → ℕ = λ z. 0 in
    let closed : ℕ → ℕ = λ class. 1 in
    let zero_is = whole_value-out n arcs outer inside is closed w x x_out in
    let one_is = whole_value-side n arcs outer inside is closed w side from side_below
    ∙ value_of_class-closed closed (λ i. w (arcs i)) (inside_class inside side) closes in
    let equal = whole_value-same n arcs outer inside is closed w (Respects-constant 0 outer) (λ i j i_below j_below joined. refl)
    x (arcs side) x_below (is.placed.below side side_below) same in
    absurd (omega (arith, zero_is, one_is, equal))
