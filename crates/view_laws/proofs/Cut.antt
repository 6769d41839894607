-- The deformed cube of a code is the cells of a view's layers, up to names: along an outer edge the labels of what closes inside stay, and
-- the coefficient is a saddle's number. So both have the same survivors; and with h = 0 the plain cube and its layers the same dimensions.
use Rattle.std.proofs.Common.{◌≡◌, ◌≢◌, ℕ, inl, inr, ◌+◌, ◌-◌, ◌*◌, ◌/◌, ◌%◌, ◌^◌, ◌<◌, ◌∙◌, ℤ, List, length, refl, sym, subst, ap, ap₂, arith, Bool, true, false, cond}
use Rattle.std.specs.Prelude.{nat_eq}
use Rattle.std.proofs.Math.Nat.{zero-mod}
use Rattle.std.proofs.lemmas.Bool.{cases_eq, cases_lt, eq-eqb, eqb-true, ne_eqb}
use Rattle.kh_types.specs.Bits.{bit, ones}
use Rattle.kh_types.specs.Code.{Code}
use Rattle.kh_types.specs.Generators.{Generator}
use Rattle.kh_types.proofs.EdgeBits.{set-within}
use Rattle.kh_types.proofs.Residues.{same-equal}
use Rattle.kh_types.proofs.Tests.{agree}
use Rattle.cell_laws.specs.Alike.{AreAlike}
use Rattle.cell_laws.specs.Layers.{Layer, Layers, cells_of, layer_coefficient}
use Rattle.cell_laws.specs.Signs.{sign_of_power}
use Rattle.square_laws.specs.Deformed.{deformed_coefficient, opposite}
use Rattle.cell_laws.specs.DeformedCubes.{deformed_cube_of}
use Rattle.view_laws.specs.Views.{HasCircles, IsView, View, closed_at, joint_state, together}
use Rattle.view_laws.specs.ViewLayers.{generator_at, inside_of, object_of, outer_count, outer_number, relation_of, view_layers}
use Rattle.view_laws.proofs.Cells.{cell_of, cells-listed, closed_label, generator-home, homological-same, object-inside, quantum-same, seen_label}
use Rattle.kh_types.proofs.JointNumbers.{bit-inside, bit-outside, inside-below, joint-inside, joint-outside, joint-parts, ones-joint, parts-known, set-inside, set-outside}
use Rattle.view_laws.proofs.SameClosed.{Changes}
use Rattle.view_laws.proofs.Steps.{IsOuterStep, outer-one, outer-some}
use Rattle.cell_laws.proofs.CubeCells.{IsMember, IsStepAt, member-from}
use Rattle.view_laws.specs.Partitions.{deformed_saddle_number}
use Rattle.cell_laws.proofs.DeformedAlong.{deformed-along, deformed-step}
use Rattle.view_laws.proofs.SeenNumbers.{number-seen}
use Rattle.kh_types.specs.Residues.{HasInverses}
use Rattle.std.proofs.lemmas.Nat.{mod_below}
use Rattle.cell_laws.specs.Filtered.{AreFiltered, survivors}
use Rattle.cell_laws.proofs.AlikeSurvivors.{filtered-alike, survivors-alike}
use Rattle.square_laws.proofs.RaisedDegrees.{deformed-below}
use Rattle.square_laws.proofs.Degrees.{coefficient-below}
use Rattle.cell_laws.specs.Cells.{AreComplex, Cells, dimension_at}
use Rattle.cell_laws.specs.Cubes.{cube_of}
use Rattle.cell_laws.proofs.AlikeCells.{dimension-alike}
use Rattle.cell_laws.proofs.AlikeComplexes.{complex-alike}
use Rattle.cell_laws.proofs.DeformedCells.{cube-plain}

-- what an edge does to circles
pub edge-changes : (code : Code) → HasCircles code → (state place : ℕ) → place < length code.crossings → bit state place ≡ 0
    → Changes code state (state + 2 ^ place) (place + 1)
edge-changes code circles state place within zero_there =
    let e : place + 1 - 1 ≡ place = omega arith in
    let changes = circles.saddles state (place + 1) (record { positive = omega arith; within = omega (arith, within) })
    (ap (bit state) e ∙ zero_there) in
    subst (λ (m : ℕ). Changes code state (state + 2 ^ m) (place + 1)) e changes

module _ (code : Code) (view : View) (is : IsView code view) (circles : HasCircles code) (p h : ℕ) where
  abbrev k : ℕ
  k = view.inner

  -- along an outer edge
  pub outer-edge : (x y : Generator) → IsMember code x → IsMember code y → (i : ℕ) → i < outer_count code view
      → bit (x.state / 2 ^ view.inner) i ≡ 0
      → y.state ≡ joint_state view (x.state % 2 ^ view.inner) (x.state / 2 ^ view.inner + 2 ^ i)
      → deformed_coefficient p h code x y
      ≡ cond (nat_eq (closed_label code view x) (closed_label code view y))
      (sign_of_power p (ones view.inner (x.state % 2 ^ view.inner) + ones i (x.state / 2 ^ view.inner))
      * deformed_saddle_number h (opposite p h) (together code view x.state) (together code view y.state) view.names
      (seen_label code view x) (seen_label code view y) % p) 0
  outer-edge x y x_is y_is i below zero_there behind =
      let t = x.state % 2 ^ view.inner in
      let s = x.state / 2 ^ view.inner in
      let t_below = inside-below view.inner x.state in
      let split : x.state ≡ joint_state view t s = joint-parts view.inner x.state in
      let place_bit : bit x.state (view.inner + i) ≡ 0 =
      ap (λ n. bit n (view.inner + i)) split ∙ bit-outside view.inner t s i t_below ∙ zero_there in
      let there : y.state ≡ x.state + 2 ^ (view.inner + i) =
      behind ∙ sym (set-outside view.inner t s i) ∙ ap (λ n. n + 2 ^ (view.inner + i)) (sym split) in
      let within : view.inner + i < length code.crossings = omega (arith, is.fits, below) in
      let same_closed : closed_at view y.state ≡ closed_at view x.state =
      ap view.closed (ap (λ n. n % 2 ^ view.inner) behind ∙ joint-inside view.inner t (s + 2 ^ i) t_below) in
      let changes = subst (λ (m : ℕ). Changes code x.state m (view.inner + i + 1)) (sym there)
      (edge-changes code circles x.state (view.inner + i) within place_bit) in
      let c = closed_label code view x in
      let d = closed_label code view y in
      let saddle = deformed_saddle_number h (opposite p h) (together code view x.state) (together code view y.state) view.names
      (seen_label code view x) (seen_label code view y) in
      deformed-along p h code x y (view.inner + i) (record { within = within; zero_there = place_bit; behind = there })
      ∙ ap₂ (λ (n m : ℕ). sign_of_power p n * m % p)
      (ap (λ n. ones (view.inner + i) n) split ∙ ones-joint view.inner t s i t_below)
      (number-seen code view is circles x.state y.state x_is.state y_is.state same_closed x.label y.label h (opposite p h)
      (view.inner + i + 1) changes)
      ∙ by (nat_eq c d) (sign_of_power p (ones view.inner t + ones i s)) saddle
    where
      by : (a : Bool) (n m : ℕ) → n * cond a m 0 % p ≡ cond a (n * m % p) 0
      by true n m = refl
      by false n m = ap (λ x. x % p) (never n) ∙ zero-mod p
        where
          never : (n : ℕ) → n * 0 ≡ 0
          never n = omega arith

  module _ (plus minus : ℕ) where
    abbrev layers : Layers
    layers = view_layers p h code plus minus view

    abbrev outer_at : Generator → Generator → ℕ
    outer_at x y =
        outer_number p h (outer_count code view) (ones view.inner (inside_of view (cell_of code view x).object))
        (relation_of code view (cell_of code view x).object) view.names (x.state / 2 ^ view.inner) (y.state / 2 ^ view.inner)
        (seen_label code view x) (seen_label code view y)

    abbrev between : Generator → Generator → ℕ
    between x y = cond (nat_eq (cell_of code view x).object (cell_of code view y).object) (outer_at x y) 0

    -- an outer step
    at-step : (x y : Generator) → IsMember code x → IsMember code y → y.state % 2 ^ view.inner ≡ x.state % 2 ^ view.inner
        → (i : ℕ) → i < outer_count code view → IsOuterStep (x.state / 2 ^ view.inner) (y.state / 2 ^ view.inner) i
        → deformed_coefficient p h code x y ≡ between x y
    at-step x y x_is y_is same_inside i below step =
        let t = x.state % 2 ^ view.inner in
        let s = x.state / 2 ^ view.inner in
        let t_below = inside-below view.inner x.state in
        let c = closed_label code view x in
        let d = closed_label code view y in
        let o = object_of view t c in
        let inside : inside_of view o ≡ t = object-inside view t c t_below in
        let split : x.state ≡ joint_state view t s = joint-parts view.inner x.state in
        let split_behind : y.state ≡ joint_state view t (y.state / 2 ^ view.inner) =
        joint-parts view.inner y.state ∙ ap (λ a. joint_state view a (y.state / 2 ^ view.inner)) same_inside in
        outer-edge x y x_is y_is i below step.zero_there (split_behind ∙ ap (joint_state view t) step.behind)
        ∙ ap₂ (λ (b : Bool) (n : ℕ). cond b n 0)
        (agree (nat_eq c d) (nat_eq o (object_of view (y.state % 2 ^ view.inner) d))
        (λ passes.
        eq-eqb o (object_of view (y.state % 2 ^ view.inner) d)
        (ap₂ (object_of view) (sym same_inside) (eqb-true c d passes)))
        (λ passes.
        eq-eqb c d
        (parts-known view.inner t c (y.state % 2 ^ view.inner) d t_below (inside-below view.inner y.state)
        (eqb-true o (object_of view (y.state % 2 ^ view.inner) d) passes)).1))
        (ap₂ (λ (a b : ℕ). sign_of_power p (ones view.inner t + ones i s)
        * deformed_saddle_number h (opposite p h) (together code view a) (together code view b) view.names (seen_label code view x)
        (seen_label code view y) % p)
        split split_behind
        ∙ ap (λ (a : ℕ). sign_of_power p (ones view.inner a + ones i s)
        * deformed_saddle_number h (opposite p h) (together code view (joint_state view a s))
        (together code view (joint_state view a (y.state / 2 ^ view.inner))) view.names (seen_label code view x) (seen_label code view y) % p) (sym inside)
        ∙ sym (outer-one p h (outer_count code view) (ones view.inner (inside_of view o)) (relation_of code view o) view.names s
        (y.state / 2 ^ view.inner) (seen_label code view x) (seen_label code view y) i below step))

    -- a step between different outer states is an outer one
    record IsOutside (x y : Generator) : Type 0 where
      place : ℕ
      below : place < outer_count code view
      inside : y.state % 2 ^ view.inner ≡ x.state % 2 ^ view.inner
      step : IsOuterStep (x.state / 2 ^ view.inner) (y.state / 2 ^ view.inner) place

    outside-step : (x y : Generator) → (place : ℕ) → IsStepAt code x.state y.state place
        → x.state / 2 ^ view.inner ≢ y.state / 2 ^ view.inner → IsOutside x y
    outside-step x y place step differ =
        let t = x.state % 2 ^ view.inner in
        let s = x.state / 2 ^ view.inner in
        let t_below = inside-below view.inner x.state in
        let split : x.state ≡ joint_state view t s = joint-parts view.inner x.state in
        elim (cases_lt place view.inner) [
          | inl low ↦
              let low_bit : bit t place ≡ 0 =
              sym (ap (λ n. bit n place) split ∙ bit-inside view.inner t s place low) ∙ step.zero_there in
              let more_below = set-within t place view.inner low t_below low_bit in
              let there : y.state ≡ joint_state view (t + 2 ^ place) s =
              step.behind ∙ ap (λ n. n + 2 ^ place) split ∙ set-inside view.inner t s place in
              absurd (differ (sym (ap (λ n. n / 2 ^ view.inner) there ∙ joint-outside view.inner (t + 2 ^ place) s more_below)))
          | inr high ↦
              let i = place - view.inner in
              let e : place ≡ view.inner + i = omega (arith, high) in
              let there : y.state ≡ joint_state view t (s + 2 ^ i) =
              step.behind ∙ ap₂ (λ (a b : ℕ). a + 2 ^ b) split e ∙ set-outside view.inner t s i in
              record {
                place = i;
                below = omega (arith, step.within, is.fits, high);
                inside = ap (λ n. n % 2 ^ view.inner) there ∙ joint-inside view.inner t (s + 2 ^ i) t_below;
                step = record {
                  zero_there = sym (bit-outside view.inner t s i t_below) ∙ ap₂ bit (sym split) (sym e) ∙ step.zero_there;
                  behind = ap (λ n. n / 2 ^ view.inner) there ∙ joint-outside view.inner t (s + 2 ^ i) t_below;
                };
              }
        ]

    between-same : (x y : Generator) → IsMember code x → IsMember code y → x.state / 2 ^ view.inner ≢ y.state / 2 ^ view.inner
        → deformed_coefficient p h code x y ≡ between x y
    between-same x y x_is y_is differ = elim (cases_eq (deformed_coefficient p h code x y) 0) [
      | inr some ↦
          let found = deformed-step p h code x y some in
          let outside = outside-step x y found.0 found.1 differ in
          at-step x y x_is y_is outside.inside outside.place outside.below outside.step
      | inl none ↦ elim (cases_eq (cell_of code view x).object (cell_of code view y).object) [
        | inr other ↦
            none ∙ sym (ap (λ b. cond b (outer_at x y) 0) (ne_eqb (cell_of code view x).object (cell_of code view y).object other))
        | inl one ↦ elim (cases_eq (outer_at x y) 0) [
          | inl none_too ↦ none ∙ sym (ap (λ n. cond (nat_eq (cell_of code view x).object (cell_of code view y).object) n 0) none_too
              ∙ nothing (nat_eq (cell_of code view x).object (cell_of code view y).object))
          | inr some ↦
              let found = outer-some p h (outer_count code view) (ones view.inner (inside_of view (cell_of code view x).object))
              (relation_of code view (cell_of code view x).object) view.names (x.state / 2 ^ view.inner) (y.state / 2 ^ view.inner)
              (seen_label code view x) (seen_label code view y) some in
              at-step x y x_is y_is
              (sym (parts-known view.inner (x.state % 2 ^ view.inner) (closed_label code view x) (y.state % 2 ^ view.inner)
              (closed_label code view y) (inside-below view.inner x.state) (inside-below view.inner y.state) one).0)
              found.0 found.1 found.2
        ]
      ]
    ]
      where
        nothing : (b : Bool) → cond b (let n : ℕ = 0 in n) 0 ≡ 0
        nothing true = refl
        nothing false = refl

    coefficient-same : (x y : Generator) → IsMember code x → IsMember code y
        → deformed_coefficient p h code x y ≡ layer_coefficient layers (cell_of code view x) (cell_of code view y)
    coefficient-same x y x_is y_is =
        let s = x.state / 2 ^ view.inner in
        let s_behind = y.state / 2 ^ view.inner in
        let o = (cell_of code view x).object in
        let o_behind = (cell_of code view y).object in
        let inner_is = layers.inner o o_behind s (seen_label code view x) (seen_label code view y) in
        elim (cases_eq s s_behind) [
          | inl one ↦
              sym (ap (λ b. cond b inner_is (between x y)) (eq-eqb s s_behind one)
              ∙ ap₂ (λ (g e : Generator). deformed_coefficient p h code g e) (generator-home code view is circles x x_is)
              (ap (λ n. generator_at code view o_behind n (seen_label code view y)) one ∙ generator-home code view is circles y y_is))
          | inr differ ↦
              between-same x y x_is y_is differ ∙ sym (ap (λ b. cond b inner_is (between x y)) (ne_eqb s s_behind differ))
        ]

    pub alike-cut : AreAlike p (cell_of code view) (λ x. 1) (deformed_cube_of p h code plus minus) (cells_of layers)
    alike-cut =
        record {
          listed = cells-listed code view is circles p h plus minus;
          squares = λ x has. refl;
          homological = λ x has. homological-same code view is circles p h plus minus x;
          quantum = λ x has. quantum-same code view is circles p h plus minus x (member-from code x has);
          coefficient = λ x y has_x has_y.
              same-equal p (deformed_coefficient p h code x y)
              (1 * (1 * layer_coefficient layers (cell_of code view x) (cell_of code view y)))
              (coefficient-same x y (member-from code x has_x) (member-from code y has_y)
              ∙ once (layer_coefficient layers (cell_of code view x) (cell_of code view y)));
        }
      where
        once : (n : ℕ) → n ≡ 1 * (1 * n)
        once n = omega arith

outer-below : (p h count inside_ones : ℕ) (relation : ℕ → ℕ → ℕ → Bool) (names : List ℕ) (s t label other : ℕ) → 0 < p
    → outer_number p h count inside_ones relation names s t label other < p
outer-below p h count inside_ones relation names s t label other positive =
    elim (cases_eq (outer_number p h count inside_ones relation names s t label other) 0) [
      | inl none ↦ omega (arith, none, positive)
      | inr some ↦
          let found = outer-some p h count inside_ones relation names s t label other some in
          subst (λ (m : ℕ). m < p) (sym (outer-one p h count inside_ones relation names s t label other found.0 found.1 found.2))
          (mod_below (sign_of_power p (inside_ones + ones found.0 s)
          * deformed_saddle_number h (opposite p h) (relation s) (relation t) names label other) p positive)
    ]

pub layers-below : (p h : ℕ) (code : Code) (plus minus : ℕ) (view : View) → 0 < p → (x y : Layer)
    → layer_coefficient (view_layers p h code plus minus view) x y < p
layers-below p h code plus minus view positive x y =
    let layers = view_layers p h code plus minus view in
    by (nat_eq x.state y.state) (nat_eq x.object y.object) (layers.inner x.object y.object x.state x.label y.label)
    (layers.outer x.object x.state y.state x.label y.label) (deformed-below p h code _ _ positive)
    (outer-below p h (outer_count code view) (ones view.inner (inside_of view x.object)) (relation_of code view x.object) view.names
    x.state y.state x.label y.label positive)
  where
    by : (a b : Bool) (m n : ℕ) → m < p → n < p → cond a m (cond b n 0) < p
    by true b m n m_below n_below = m_below
    by false true m n m_below n_below = n_below
    by false false m n m_below n_below = positive

-- the survivors of the cube are those of the layers
pub survivors-cut : (p h : ℕ) (code : Code) (view : View) (plus minus : ℕ) → HasInverses p → HasCircles code → IsView code view
    → (i t : ℤ)
    → survivors p (cells_of (view_layers p h code plus minus view)) i t ≡ survivors p (deformed_cube_of p h code plus minus) i t
survivors-cut p h code view plus minus field circles is i t =
    let positive : 0 < p = omega (arith, field.above_one) in
    survivors-alike p (cell_of code view) (λ x. 1) (deformed_cube_of p h code plus minus)
    (cells_of (view_layers p h code plus minus view))
    (alike-cut code view is circles p h plus minus) field (λ x y. deformed-below p h code x y positive)
    (layers-below p h code plus minus view positive) i t

pub filtered-cut : (p h : ℕ) (code : Code) (view : View) (plus minus : ℕ) → 0 < p → HasCircles code → IsView code view
    → AreFiltered p (deformed_cube_of p h code plus minus) → AreFiltered p (cells_of (view_layers p h code plus minus view))
filtered-cut p h code view plus minus positive circles is filtered =
    filtered-alike p (cell_of code view) (λ x. 1) (deformed_cube_of p h code plus minus)
    (cells_of (view_layers p h code plus minus view))
    (layers-below p h code plus minus view positive) (alike-cut code view is circles p h plus minus) filtered

-- with h = 0 they are the layers of the plain cube
alike-plain : (p : ℕ) (code : Code) (view : View) (plus minus : ℕ) → 1 < p → HasCircles code → IsView code view
    → AreAlike p (cell_of code view) (λ x. 1) (cube_of p code plus minus) (cells_of (view_layers p 0 code plus minus view))
alike-plain p code view plus minus above circles is =
    subst (λ (cells : Cells Generator). AreAlike p (cell_of code view) (λ x. 1) cells (cells_of (view_layers p 0 code plus minus view)))
    (cube-plain p code plus minus above) (alike-cut code view is circles p 0 plus minus)

pub dimension-cut : (p : ℕ) (code : Code) (view : View) (plus minus : ℕ) → HasInverses p → HasCircles code → IsView code view → (i j : ℤ)
    → dimension_at p (cells_of (view_layers p 0 code plus minus view)) i j ≡ dimension_at p (cube_of p code plus minus) i j
dimension-cut p code view plus minus field circles is i j =
    dimension-alike p (cell_of code view) (λ x. 1) (cube_of p code plus minus) (cells_of (view_layers p 0 code plus minus view))
    (alike-plain p code view plus minus field.above_one circles is) field (λ x y. coefficient-below p code x y field.above_one)
    (layers-below p 0 code plus minus view (omega (arith, field.above_one))) i j

pub complex-cut : (p : ℕ) (code : Code) (view : View) (plus minus : ℕ) → 1 < p → HasCircles code → IsView code view
    → AreComplex p (cube_of p code plus minus) → AreComplex p (cells_of (view_layers p 0 code plus minus view))
complex-cut p code view plus minus above circles is complex =
    complex-alike p (cell_of code view) (λ x. 1) (cube_of p code plus minus) (cells_of (view_layers p 0 code plus minus view))
    (alike-plain p code view plus minus above circles is) (layers-below p 0 code plus minus view (omega (arith, above))) complex
