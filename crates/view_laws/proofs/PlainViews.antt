-- Views without inner crossings: where two codes with as many crossings are seen alike at each state, their deformed cubes have the same
-- survivors, and their cubes the same dimensions.
use Rattle.std.proofs.Common.{◌≡◌, ℕ, inl, ◌+◌, ◌-◌, ◌*◌, ◌/◌, ◌%◌, ◌^◌, ◌<◌, ◌∙◌, ℤ, pos, ◌+ℤ◌, ◌-ℤ◌, List, length, map, refl, sym, subst, ap, ap₂, arith, Bool, true, false, cond, ◌&&◌}
use Rattle.std.specs.Prelude.{nat_eq}
use Rattle.std.specs.List.{Contains}
use Rattle.kh_types.specs.Bits.{bit, one_if, ones}
use Rattle.kh_types.specs.Code.{Code}
use Rattle.kh_types.specs.Differential.{coefficient, label_of}
use Rattle.kh_types.specs.Generators.{Generator}
use Rattle.kh_types.specs.Residues.{HasInverses}
use Rattle.kh_types.proofs.EdgeBits.{set-within}
use Rattle.kh_types.proofs.Residues.{same-equal}
use Rattle.cell_laws.specs.Alike.{AreAlike}
use Rattle.cell_laws.specs.Cells.{dimension_at}
use Rattle.cell_laws.specs.Cubes.{cube_of}
use Rattle.cell_laws.specs.Layers.{Layer, Layers, cells_of, layer_coefficient}
use Rattle.cell_laws.proofs.AlikeCells.{dimension-alike}
use Rattle.cell_laws.proofs.Matched.{AreListed-matched}
use Rattle.cell_laws.proofs.NoDoubles.{map-map}
use Rattle.square_laws.proofs.LabelNumbers.{number_from}
use Rattle.view_laws.specs.Partitions.{AgreeOn, counts_labels, deformed_saddle_number, keeps_classes, saddle_number, seen}
use Rattle.view_laws.specs.Views.{HasCircles, IsInnerStep, IsPlain, IsView, SeeAlike, View, plain_view, together}
use Rattle.view_laws.specs.ViewLayers.{degree_of_labels, inside_of, label_of_seen, ones_of, outer_count, outer_number, relation_of, seen_at, state_of, view_layers}
use Rattle.cell_laws.specs.Signs.{sign_of_power}
use Rattle.cell_laws.proofs.CellLists.{cell-from, cell-of, cells-once}
use Rattle.view_laws.proofs.Cells.{objects-once, seen_label, state-below}
use Rattle.kh_types.proofs.JointNumbers.{inside-below}
use Rattle.view_laws.proofs.SameClosed.{Changes, fits-seen}
use Rattle.cell_laws.proofs.CubeCells.{coefficient-along}
use Rattle.view_laws.proofs.Tests.{number-same}
use Rattle.view_laws.proofs.Seen.{seen-alike}
use Rattle.cell_laws.specs.Filtered.{survivors}
use Rattle.cell_laws.specs.DeformedCubes.{deformed_cube_of}
use Rattle.cell_laws.proofs.AlikeSurvivors.{survivors-alike}
use Rattle.square_laws.specs.Deformed.{deformed_coefficient, opposite}
use Rattle.cell_laws.proofs.DeformedAlong.{deformed-along}
use Rattle.view_laws.proofs.SeenNumbers.{number-seen}
use Rattle.view_laws.proofs.Cut.{dimension-cut, edge-changes, layers-below, survivors-cut}
use Rattle.view_laws.proofs.InnerEdges.{inner-none}
use Rattle.view_laws.proofs.Steps.{outer-alike}

-- a view without inner crossings is a view
pub plain-view : (code : Code) (names : List ℕ) (arc : ℕ → ℕ) → IsPlain code names arc → IsView code (plain_view names arc)
plain-view code names arc is =
    record {
      fits = omega arith;
      once = is.once;
      arcs = is.arcs;
      closed_arcs = λ inside z below has. absurd (omega (arith, has.1));
      few = λ inside below. omega arith;
      shows = λ state other below name. inl (is.shows state other below name);
      apart = λ state z x below has. absurd (omega (arith, has.1));
    }

-- a coefficient by what is seen of all circles
module _ (code : Code) (names : List ℕ) (arc : ℕ → ℕ) (x y : Generator) (place : ℕ) (circles : HasCircles code)
    (is : IsPlain code names arc) (below : x.state < 2 ^ length code.crossings) (within : place < length code.crossings)
    (zero_there : bit x.state place ≡ 0) (behind : y.state ≡ x.state + 2 ^ place) where
  abbrev r : ℕ → ℕ → Bool
  r = together code (plain_view names arc) x.state

  abbrev q : ℕ → ℕ → Bool
  q = together code (plain_view names arc) y.state

  behind-below : y.state < 2 ^ length code.crossings
  behind-below =
      subst (λ (n : ℕ). n < 2 ^ length code.crossings) (sym behind)
      (set-within x.state place (length code.crossings) within below zero_there)

  changes : Changes code x.state y.state (place + 1)
  changes = subst (λ (m : ℕ). Changes code x.state m (place + 1)) (sym behind) (edge-changes code circles x.state place within zero_there)

  label-same : (g : Generator) → label_of_seen code (plain_view names arc) g ≡ seen_label code (plain_view names arc) g
  label-same g =
      number-same (map (λ n. label_of code g (arc n)) (seen (together code (plain_view names arc) g.state) names))
      ∙ sym (ap number_from (map-map (label_of code g) arc (seen (together code (plain_view names arc) g.state) names)))

  pub deformed-edge : (p h : ℕ) → deformed_coefficient p h code x y
      ≡ sign_of_power p (ones place x.state) * deformed_saddle_number h (opposite p h) (together code (plain_view names arc) x.state)
      (together code (plain_view names arc) y.state) names (label_of_seen code (plain_view names arc) x)
      (label_of_seen code (plain_view names arc) y) % p
  deformed-edge p h =
      deformed-along p h code x y place (record { within = within; zero_there = zero_there; behind = behind })
      ∙ ap (λ n. sign_of_power p (ones place x.state) * n % p)
      (number-seen code (plain_view names arc) (plain-view code names arc is) circles x.state y.state below behind-below refl x.label
      y.label h (opposite p h) (place + 1) changes
      ∙ ap₂ (λ (a b : ℕ). deformed_saddle_number h (opposite p h) r q names a b) (sym (label-same x)) (sym (label-same y)))

  pub plain-edge : (p : ℕ) → coefficient p code x y
      ≡ sign_of_power p (ones place x.state) * saddle_number (together code (plain_view names arc) x.state)
      (together code (plain_view names arc) y.state) names (label_of_seen code (plain_view names arc) x)
      (label_of_seen code (plain_view names arc) y)
  plain-edge p =
      coefficient-along p code x y place (record { within = within; zero_there = zero_there; behind = behind })
      ∙ ap (λ b. cond b (sign_of_power p (ones place x.state)) 0)
      (fits-seen code (plain_view names arc) (plain-view code names arc is) circles x.state y.state below behind-below refl x.label
      y.label (place + 1) changes)
      ∙ by (keeps_classes r q names (seen_label code (plain_view names arc) x) (seen_label code (plain_view names arc) y)
      && counts_labels r q names (seen_label code (plain_view names arc) x) (seen_label code (plain_view names arc) y))
      (sign_of_power p (ones place x.state))
      ∙ ap₂ (λ a b. sign_of_power p (ones place x.state) * saddle_number r q names a b) (sym (label-same x)) (sym (label-same y))
    where
      by : (b : Bool) (n : ℕ) → cond b n 0 ≡ n * one_if b
      by true n = omega arith
      by false n = omega arith

-- two codes that are seen alike at each state
module _ (p h : ℕ) (old new : Code) (plus minus : ℕ) (names : List ℕ) (arc new_arc : ℕ → ℕ) (field : HasInverses p)
    (circles : HasCircles old) (new_circles : HasCircles new) (is : IsPlain old names arc) (new_is : IsPlain new names new_arc)
    (size : length new.crossings ≡ length old.crossings)
    (alike : (state : ℕ) → state < 2 ^ length old.crossings
    → SeeAlike old (plain_view names arc) state new (plain_view names new_arc) state) where
  abbrev view : View
  view = plain_view names arc

  abbrev new_view : View
  new_view = plain_view names new_arc

  abbrev layers : Layers
  layers = view_layers p h old plus minus view

  abbrev new_layers : Layers
  new_layers = view_layers p h new plus minus new_view

  counts-same : outer_count new new_view ≡ outer_count old view
  counts-same = ap (λ n. n - 0) size

  sees : (object s : ℕ) → s < 2 ^ outer_count old view → AgreeOn names (relation_of old view object s) (relation_of new new_view object s)
  sees object s below =
      alike (state_of view object s) (state-below old view (plain-view old names arc is) (inside_of view object) s (inside-below 0 object)
      below)

  sees-count : (object s : ℕ) → s < 2 ^ outer_count old view → seen_at new new_view object s ≡ seen_at old view object s
  sees-count object s below =
      sym (ap (λ (xs : List ℕ). length xs)
      (seen-alike (relation_of old view object s) (relation_of new new_view object s) names (sees object s below)))

  there : (x : Layer) → Contains (cells_of layers).list x → Contains (cells_of new_layers).list x
  there x has =
      let cell = cell-from layers x has in
      cell-of new_layers x
      (record {
        object = cell.object;
        state = subst (λ (n : ℕ). x.state < 2 ^ n) (sym counts-same) cell.state;
        label = subst (λ (n : ℕ). x.label < 2 ^ n) (sym (sees-count x.object x.state cell.state)) cell.label;
      })

  back : (x : Layer) → Contains (cells_of new_layers).list x → Contains (cells_of layers).list x
  back x has =
      let cell = cell-from new_layers x has in
      let below = subst (λ (n : ℕ). x.state < 2 ^ n) counts-same cell.state in
      cell-of layers x
      (record {
        object = cell.object;
        state = below;
        label = subst (λ (n : ℕ). x.label < 2 ^ n) (sees-count x.object x.state below) cell.label;
      })

  none : (v : View) (t u i : ℕ) → v.inner ≡ 0 → IsInnerStep v t u i → ⊥
  none v t u i is_zero step = omega (arith, step.place, is_zero)

  ones-same : (x : Layer) → ones_of new new_view x.object x.state ≡ ones_of old view x.object x.state
  ones-same x = ap (λ n. ones 0 (inside_of view x.object) + ones n x.state) counts-same

  coefficient-same : (x y : Layer) → Contains (cells_of layers).list x → Contains (cells_of layers).list y
      → layer_coefficient layers x y ≡ layer_coefficient new_layers x y
  coefficient-same x y has_x has_y =
      let x_cell = cell-from layers x has_x in
      let y_cell = cell-from layers y has_y in
      let inner_old = layers.inner x.object y.object x.state x.label y.label in
      let inner_new = new_layers.inner x.object y.object x.state x.label y.label in
      let outer_old = layers.outer x.object x.state y.state x.label y.label in
      let outer_new = new_layers.outer x.object x.state y.state x.label y.label in
      let inner_same : inner_old ≡ inner_new =
      inner-none p h old plus minus view (plain-view old names arc is) circles x.object y.object x.state x.label y.label
      (λ i step. none view (inside_of view x.object) (inside_of view y.object) i refl step)
      ∙ sym (inner-none p h new plus minus new_view (plain-view new names new_arc new_is) new_circles x.object y.object x.state x.label
      y.label
      (λ i step. none new_view (inside_of new_view x.object) (inside_of new_view y.object) i refl step)) in
      let outer_same : outer_old ≡ outer_new =
      outer-alike p h (outer_count old view) (ones 0 (inside_of view x.object)) (ones 0 (inside_of view x.object))
      (relation_of old view x.object) (relation_of new new_view x.object) names x.state y.state x.label y.label refl
      (sees x.object x.state x_cell.state) (sees x.object y.state y_cell.state)
      ∙ ap (λ n. outer_number p h n (ones 0 (inside_of view x.object)) (relation_of new new_view x.object) names x.state y.state x.label
      y.label) (sym counts-same) in
      ap₂ (λ a b. cond (nat_eq x.state y.state) a (cond (nat_eq x.object y.object) b 0)) inner_same outer_same

  pub layers-alike : AreAlike p (λ (x : Layer). x) (λ x. 1) (cells_of layers) (cells_of new_layers)
  layers-alike =
      record {
        listed = AreListed-matched (λ (x : Layer). x) (λ (x : Layer). x) (cells_of layers).list (cells_of new_layers).list
            (record {
              first_once = cells-once layers (objects-once view);
              second_once = cells-once new_layers (objects-once new_view);
              there = there;
              back_there = back;
              to_back = λ y has. refl;
              back_to = λ x has. refl;
            });
        squares = λ x has. refl;
        homological = λ x has. ap (λ n. pos n -ℤ pos minus) (ones-same x);
        quantum = λ x has.
            ap₂ (λ m n. (degree_of_labels 0 (x.object / 2 ^ 0) +ℤ degree_of_labels m x.label) +ℤ (pos (n + plus) -ℤ pos (2 * minus)))
            (sees-count x.object x.state (cell-from layers x has).state) (ones-same x);
        coefficient = λ x y has_x has_y.
            same-equal p (layer_coefficient layers x y) (1 * (1 * layer_coefficient new_layers x y))
            (coefficient-same x y has_x has_y ∙ once (layer_coefficient new_layers x y));
      }
    where
      once : (n : ℕ) → n ≡ 1 * (1 * n)
      once n = omega arith

  positive : 0 < p
  positive = omega (arith, field.above_one)

  pub survivors-plain : (i t : ℤ) → survivors p (deformed_cube_of p h new plus minus) i t
      ≡ survivors p (deformed_cube_of p h old plus minus) i t
  survivors-plain i t =
      sym (survivors-cut p h new new_view plus minus field new_circles (plain-view new names new_arc new_is) i t)
      ∙ survivors-alike p (λ (x : Layer). x) (λ x. 1) (cells_of layers) (cells_of new_layers) layers-alike field
      (layers-below p h old plus minus view positive) (layers-below p h new plus minus new_view positive) i t
      ∙ survivors-cut p h old view plus minus field circles (plain-view old names arc is) i t

-- with h = 0: the plain cubes
pub dimension-plain : (p : ℕ) (old new : Code) (plus minus : ℕ) (names : List ℕ) (arc new_arc : ℕ → ℕ) → HasInverses p → HasCircles old
    → HasCircles new → IsPlain old names arc → IsPlain new names new_arc → length new.crossings ≡ length old.crossings
    → ((state : ℕ) → state < 2 ^ length old.crossings → SeeAlike old (plain_view names arc) state new (plain_view names new_arc) state)
    → (i j : ℤ) → dimension_at p (cube_of p new plus minus) i j ≡ dimension_at p (cube_of p old plus minus) i j
dimension-plain p old new plus minus names arc new_arc field circles new_circles is new_is size alike i j =
    let positive : 0 < p = omega (arith, field.above_one) in
    sym (dimension-cut p new (plain_view names new_arc) plus minus field new_circles (plain-view new names new_arc new_is) i j)
    ∙ dimension-alike p (λ (x : Layer). x) (λ x. 1) (cells_of (view_layers p 0 old plus minus (plain_view names arc)))
    (cells_of (view_layers p 0 new plus minus (plain_view names new_arc)))
    (layers-alike p 0 old new plus minus names arc new_arc field circles new_circles is new_is size alike) field
    (layers-below p 0 old plus minus (plain_view names arc) positive) (layers-below p 0 new plus minus (plain_view names new_arc) positive)
    i j
    ∙ dimension-cut p old (plain_view names arc) plus minus field circles (plain-view old names arc is) i j
