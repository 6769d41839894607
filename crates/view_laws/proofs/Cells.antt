-- The cells of a view's layers are the generators of the code's cube.
use Rattle.std.proofs.Common.{◌≡◌, ℕ, ◌+◌, ◌*◌, ◌/◌, ◌%◌, ◌^◌, ◌<◌, ◌∙◌, pos, ◌+ℤ◌, ◌-ℤ◌, List, [], ◌∷◌, ◌++◌, length, map, sym, subst, ap, ap₂, arith}
use Rattle.std.specs.List.{Contains, flat_map, range_with_len}
use Rattle.std.proofs.lemmas.Int.{ints}
use Rattle.std.proofs.lemmas.List.{length-map}
use Rattle.std.proofs.lemmas.Nat.{pow_pos}
use Rattle.kh_types.specs.Bits.{ones}
use Rattle.kh_types.specs.Circles.{circle_count, circle_names}
use Rattle.kh_types.specs.Code.{Code}
use Rattle.kh_types.specs.Generators.{Generator, generator_of, generators}
use Rattle.kh_types.proofs.Lists.{Contains-flat_map, Contains-later, Contains-map, Contains-range, range-contains}
use Rattle.cell_laws.specs.Alike.{AreListed, HasNoDoubles}
use Rattle.cell_laws.specs.DeformedCubes.{deformed_cube_of}
use Rattle.cell_laws.specs.Layers.{Layer, Layers, cells_of, layer_of}
use Rattle.cell_laws.proofs.Matched.{AreListed-matched}
use Rattle.cell_laws.proofs.Members.{Contains-first, Contains-flattened, Contains-made}
use Rattle.cell_laws.proofs.NoDoubles.{first-new, once-append, once-later, once-map, once-range, once-generators}
use Rattle.view_laws.specs.Partitions.{seen, seen_count}
use Rattle.view_laws.specs.Views.{HasCircles, IsView, View, circle_at, closed_at, joint_state, together}
use Rattle.view_laws.specs.ViewLayers.{closed_of, degree_of_labels, generator_at, inside_of, label_of_all, object_of, objects_at, ones_of, outer_count, view_layers, view_objects}
use Rattle.cell_laws.proofs.CellLists.{cell-from, cell-of, cells-once}
use Rattle.cell_laws.proofs.Labels.{relabelled}
use Rattle.kh_types.proofs.JointNumbers.{inside-below, joint-below, joint-inside, joint-outside, joint-parts, ones-joint, outside-below, parts-known}
use Rattle.view_laws.proofs.Shown.{count-parts, parts}
use Rattle.cell_laws.proofs.SplitLabels.{ones-parts, part, part-below, parts-whole, whole, whole-below, whole-parts}
use Rattle.cell_laws.proofs.CubeCells.{IsMember, member-from, member-of}
use Rattle.view_laws.proofs.Tests.{number-same}

once-flat_on : {A B : Type 0} (f : A → List B) (xs : List A) → HasNoDoubles xs → ((x : A) → HasNoDoubles (f x))
    → ((x y : A) (b : B) → Contains xs x → Contains xs y → Contains (f x) b → Contains (f y) b → x ≡ y) → HasNoDoubles (flat_map f xs)
once-flat_on f [] once each apart = λ k l d less within. absurd (omega (arith, within))
once-flat_on f (x ∷ xs) once each apart =
    once-append (f x) (flat_map f xs) (each x)
    (once-flat_on f xs (once-later x xs once) each
    (λ y z b has_y has_z. apart y z b (Contains-later x y xs has_y) (Contains-later x z xs has_z)))
    (λ b here later.
    let found = Contains-flattened f xs b later in
    first-new x xs once
    (subst (λ y. Contains xs y)
    (sym (apart x found.0 b (Contains-first x xs) (Contains-later x found.0 xs found.1) here found.2)) found.1))

-- objects
pub object-inside : (view : View) (t c : ℕ) → t < 2 ^ view.inner → inside_of view (object_of view t c) ≡ t
object-inside view t c below = joint-inside view.inner t c below

pub object-closed : (view : View) (t c : ℕ) → t < 2 ^ view.inner → closed_of view (object_of view t c) ≡ c
object-closed view t c below = joint-outside view.inner t c below

pub object-parts : (view : View) (object : ℕ) → object ≡ object_of view (inside_of view object) (closed_of view object)
object-parts view object = joint-parts view.inner object

pub object-from : (view : View) (object : ℕ) → Contains (view_objects view) object
    → closed_of view object < 2 ^ length (view.closed (inside_of view object))
object-from view object has =
    let by_state = Contains-flattened (objects_at view) (range_with_len 0 (2 ^ view.inner)) object has in
    let t = by_state.0 in
    let t_below = range-contains (2 ^ view.inner) t by_state.1 in
    let by_label = Contains-made (object_of view t) (range_with_len 0 (2 ^ length (view.closed t))) object by_state.2 in
    let c = by_label.0 in
    let c_below = range-contains (2 ^ length (view.closed t)) c by_label.1 in
    let inside : inside_of view object ≡ t = ap (inside_of view) (sym by_label.2) ∙ object-inside view t c t_below in
    let closes : closed_of view object ≡ c = ap (closed_of view) (sym by_label.2) ∙ object-closed view t c t_below in
    subst (λ (n : ℕ). n < 2 ^ length (view.closed (inside_of view object))) (sym closes)
    (subst (λ (n : ℕ). c < 2 ^ length (view.closed n)) (sym inside) c_below)

pub object-has : (view : View) (t c : ℕ) → t < 2 ^ view.inner → c < 2 ^ length (view.closed t)
    → Contains (view_objects view) (object_of view t c)
object-has view t c t_below c_below =
    Contains-flat_map (objects_at view) (range_with_len 0 (2 ^ view.inner)) t (object_of view t c)
    (Contains-range (2 ^ view.inner) t t_below)
    (Contains-map (object_of view t) (range_with_len 0 (2 ^ length (view.closed t))) c
    (Contains-range (2 ^ length (view.closed t)) c c_below))

object-at : (view : View) (t object : ℕ) → t < 2 ^ view.inner → Contains (objects_at view t) object → inside_of view object ≡ t
object-at view t object below has =
    let made = Contains-made (object_of view t) (range_with_len 0 (2 ^ length (view.closed t))) object has in
    ap (inside_of view) (sym made.2) ∙ object-inside view t made.0 below

pub objects-once : (view : View) → HasNoDoubles (view_objects view)
objects-once view =
    once-flat_on (objects_at view) (range_with_len 0 (2 ^ view.inner)) (once-range 0 (2 ^ view.inner))
    (λ t.
    once-map (object_of view t) (range_with_len 0 (2 ^ length (view.closed t)))
    (λ c d same. cancelled view.inner c d t same)
    (once-range 0 (2 ^ length (view.closed t))))
    (λ t u object has_t has_u at_t at_u.
    sym (object-at view t object (range-contains (2 ^ view.inner) t has_t) at_t)
    ∙ object-at view u object (range-contains (2 ^ view.inner) u has_u) at_u)
  where
    cancelled : (k c d t : ℕ) → t + 2 ^ k * c ≡ t + 2 ^ k * d → c ≡ d
    cancelled k c d t same =
        let e : 0 + 2 ^ k * c ≡ 0 + 2 ^ k * d = omega (arith, same) in
        (parts-known k 0 c 0 d (pow_pos k) (pow_pos k) e).1

-- states
module _ (code : Code) (view : View) (is : IsView code view) where
  crossings-split : view.inner + outer_count code view ≡ length code.crossings
  crossings-split = omega (arith, is.fits)

  pub state-below : (t s : ℕ) → t < 2 ^ view.inner → s < 2 ^ outer_count code view → joint_state view t s < 2 ^ length code.crossings
  state-below t s t_below s_below =
      subst (λ (n : ℕ). joint_state view t s < 2 ^ n) crossings-split (joint-below view.inner (outer_count code view) t s t_below s_below)

  pub rest-below : (state : ℕ) → state < 2 ^ length code.crossings → state / 2 ^ view.inner < 2 ^ outer_count code view
  rest-below state below =
      outside-below view.inner (outer_count code view) state (subst (λ (n : ℕ). state < 2 ^ n) (sym crossings-split) below)

  pub ones-split : (t s : ℕ) → t < 2 ^ view.inner
      → ones (length code.crossings) (joint_state view t s) ≡ ones view.inner t + ones (outer_count code view) s
  ones-split t s below =
      ap (λ n. ones n (joint_state view t s)) (sym crossings-split) ∙ ones-joint view.inner t s (outer_count code view) below

-- generators by the parts of cells
abbrev pub made_at : Code → View → ℕ → ℕ → ℕ → ℕ → Generator
made_at code view t c s l =
    generator_of (joint_state view t s) (label_of_all code view (joint_state view t s) (c + 2 ^ length (view.closed t) * l))

abbrev pub arcs_at : Code → View → ℕ → List ℕ
arcs_at code view state = map view.arc (seen (together code view state) view.names)

abbrev pub closed_label : Code → View → Generator → ℕ
closed_label code view x = part (circle_names code x.state) (circle_at code x.state) (closed_at view x.state) x.label

abbrev pub seen_label : Code → View → Generator → ℕ
seen_label code view x = part (circle_names code x.state) (circle_at code x.state) (arcs_at code view x.state) x.label

abbrev pub cell_of : Code → View → Generator → Layer
cell_of code view x =
    layer_of (object_of view (x.state % 2 ^ view.inner) (closed_label code view x)) (x.state / 2 ^ view.inner) (seen_label code view x)

abbrev pub generator_from : Code → View → Layer → Generator
generator_from code view y = generator_at code view y.object y.state y.label

module _ (code : Code) (view : View) (is : IsView code view) (circles : HasCircles code) where
  -- a generator is that of its cell
  pub made-home : (x : Generator) → IsMember code x
      → made_at code view (x.state % 2 ^ view.inner) (closed_label code view x) (x.state / 2 ^ view.inner) (seen_label code view x) ≡ x
  made-home x member =
      let t = x.state % 2 ^ view.inner in
      let c = closed_label code view x in
      let l = seen_label code view x in
      ap (λ (n : ℕ). generator_of n (label_of_all code view n (c + 2 ^ length (view.closed t) * l))) (sym (joint-parts view.inner x.state))
      ∙ ap (λ (n : ℕ). generator_of x.state n)
      (number-same _ ∙ whole-parts (parts code view is circles x.state member.state) x.label member.label)

  pub generator-home : (x : Generator) → IsMember code x → generator_from code view (cell_of code view x) ≡ x
  generator-home x member =
      let t = x.state % 2 ^ view.inner in
      let c = closed_label code view x in
      let t_below = inside-below view.inner x.state in
      ap₂ (λ (a b : ℕ). made_at code view a b (x.state / 2 ^ view.inner) (seen_label code view x))
      (object-inside view t c t_below) (object-closed view t c t_below)
      ∙ made-home x member

  -- the parts of a cell
  pub record IsPart (t c s l : ℕ) : Type 0 where
    pub inside : t < 2 ^ view.inner
    pub closes : c < 2 ^ length (view.closed t)
    pub outside : s < 2 ^ outer_count code view
    pub sees : l < 2 ^ seen_count (together code view (joint_state view t s)) view.names

  pub record HasParts (t c s l : ℕ) : Type 0 where
    pub closes : closed_label code view (made_at code view t c s l) ≡ c
    pub sees : seen_label code view (made_at code view t c s l) ≡ l
    pub label : (made_at code view t c s l).label < 2 ^ circle_count code (joint_state view t s)

  pub made-parts : (t c s l : ℕ) → IsPart t c s l → HasParts t c s l
  made-parts t c s l part_is =
      let state = joint_state view t s in
      let below = state-below code view is t s part_is.inside part_is.outside in
      let names = circle_names code state in
      let class = circle_at code state in
      let two = parts code view is circles state below in
      let there : state % 2 ^ view.inner ≡ t = joint-inside view.inner t s part_is.inside in
      let first = closed_at view state in
      let second = arcs_at code view state in
      let c_below : c < 2 ^ length first = subst (λ (n : ℕ). c < 2 ^ length (view.closed n)) (sym there) part_is.closes in
      let l_below : l < 2 ^ length second =
      subst (λ (n : ℕ). l < 2 ^ n) (sym (length-map (seen (together code view state) view.names) view.arc)) part_is.sees in
      let number : (made_at code view t c s l).label ≡ whole names class first second c l =
      number-same _
      ∙ ap (λ (n : ℕ). relabelled (map class (first ++ second)) names (c + 2 ^ length (view.closed n) * l)) (sym there) in
      let both = parts-whole two c l c_below l_below in
      record {
        closes = ap (λ n. part names class first n) number ∙ both.0;
        sees = ap (λ n. part names class second n) number ∙ both.1;
        label = subst (λ (n : ℕ). n < 2 ^ circle_count code state) (sym number) (whole-below two c l);
      }

  -- a cell is that of its generator
  pub made-cell : (t c s l : ℕ) → IsPart t c s l → cell_of code view (made_at code view t c s l) ≡ layer_of (object_of view t c) s l
  made-cell t c s l part_is =
      let made = made-parts t c s l part_is in
      ap₂ (λ (a b : ℕ). layer_of (object_of view a (closed_label code view (made_at code view t c s l))) b
      (seen_label code view (made_at code view t c s l)))
      (joint-inside view.inner t s part_is.inside) (joint-outside view.inner t s part_is.inside)
      ∙ ap₂ (λ (a b : ℕ). layer_of (object_of view t a) s b) made.closes made.sees

  module _ (p h plus minus : ℕ) where
    abbrev layers : Layers
    layers = view_layers p h code plus minus view

    cell-parts : (y : Layer) → Contains (cells_of layers).list y → IsPart (inside_of view y.object) (closed_of view y.object) y.state
        y.label
    cell-parts y has =
        let cell = cell-from layers y has in
        record {
          inside = inside-below view.inner y.object;
          closes = object-from view y.object cell.object;
          outside = cell.state;
          sees = cell.label;
        }

    cell-has : (x : Generator) → IsMember code x → Contains (cells_of layers).list (cell_of code view x)
    cell-has x member =
        let t = x.state % 2 ^ view.inner in
        let c = closed_label code view x in
        let s = x.state / 2 ^ view.inner in
        let t_below = inside-below view.inner x.state in
        let same : joint_state view (inside_of view (object_of view t c)) s ≡ x.state =
        ap (λ a. joint_state view a s) (object-inside view t c t_below) ∙ sym (joint-parts view.inner x.state) in
        cell-of layers (cell_of code view x)
        (record {
          object = object-has view t c t_below
              (part-below (circle_names code x.state) (circle_at code x.state) (closed_at view x.state) x.label);
          state = rest-below code view is x.state member.state;
          label = subst (λ (n : ℕ). seen_label code view x < 2 ^ seen_count (together code view n) view.names) (sym same)
              (subst (λ (n : ℕ). seen_label code view x < 2 ^ n)
              (length-map (seen (together code view x.state) view.names) view.arc)
              (part-below (circle_names code x.state) (circle_at code x.state) (arcs_at code view x.state) x.label));
        })

    generator-has : (y : Layer) → Contains (cells_of layers).list y → Contains (generators code) (generator_from code view y)
    generator-has y has =
        let part_is = cell-parts y has in
        let t = inside_of view y.object in
        member-of code (generator_from code view y)
        (record {
          state = state-below code view is t y.state part_is.inside part_is.outside;
          label = (made-parts t (closed_of view y.object) y.state y.label part_is).label;
        })

    cell-home : (y : Layer) → Contains (cells_of layers).list y → cell_of code view (generator_from code view y) ≡ y
    cell-home y has =
        made-cell (inside_of view y.object) (closed_of view y.object) y.state y.label (cell-parts y has)
        ∙ ap (λ (o : ℕ). layer_of o y.state y.label) (sym (object-parts view y.object))

    pub cells-listed : AreListed (cell_of code view) (deformed_cube_of p h code plus minus).list (cells_of layers).list
    cells-listed =
        AreListed-matched (cell_of code view) (generator_from code view) (deformed_cube_of p h code plus minus).list (cells_of layers).list
        (record {
          first_once = once-generators code;
          second_once = cells-once layers (objects-once view);
          there = λ x has. cell-has x (member-from code x has);
          back_there = generator-has;
          to_back = cell-home;
          back_to = λ x has. generator-home x (member-from code x has);
        })

    -- degrees
    ones-same : (x : Generator) → ones_of code view (cell_of code view x).object (cell_of code view x).state
        ≡ ones (length code.crossings) x.state
    ones-same x =
        let t = x.state % 2 ^ view.inner in
        let s = x.state / 2 ^ view.inner in
        ap (λ a. ones view.inner a + ones (outer_count code view) s)
        (object-inside view t (closed_label code view x) (inside-below view.inner x.state))
        ∙ sym (ones-split code view is t s (inside-below view.inner x.state))
        ∙ ap (λ n. ones (length code.crossings) n) (sym (joint-parts view.inner x.state))

    pub homological-same : (x : Generator)
        → (cells_of layers).homological (cell_of code view x) ≡ (deformed_cube_of p h code plus minus).homological x
    homological-same x = ap (λ n. pos n -ℤ pos minus) (ones-same x)

    pub quantum-same : (x : Generator) → IsMember code x
        → (cells_of layers).quantum (cell_of code view x) ≡ (deformed_cube_of p h code plus minus).quantum x
    quantum-same x member =
        let t = x.state % 2 ^ view.inner in
        let s = x.state / 2 ^ view.inner in
        let c = closed_label code view x in
        let l = seen_label code view x in
        let t_below = inside-below view.inner x.state in
        let first = closed_at view x.state in
        let second = seen (together code view x.state) view.names in
        let two = parts code view is circles x.state member.state in
        let same : joint_state view (inside_of view (object_of view t c)) s ≡ x.state =
        ap (λ a. joint_state view a s) (object-inside view t c t_below) ∙ sym (joint-parts view.inner x.state) in
        let sum = ap (λ n. ones (length first) c + ones n l) (sym (length-map second view.arc)) ∙ ones-parts two x.label in
        ap₂ (λ (a b : ℕ). (degree_of_labels (length (view.closed a)) b
        +ℤ degree_of_labels (seen_count (together code view (joint_state view (inside_of view (object_of view t c)) s)) view.names) l)
        +ℤ (pos (ones_of code view (object_of view t c) s + plus) -ℤ pos (2 * minus)))
        (object-inside view t c t_below) (object-closed view t c t_below)
        ∙ ap₂ (λ (a n : ℕ). (degree_of_labels (length first) c +ℤ degree_of_labels (seen_count (together code view a) view.names) l)
        +ℤ (pos (n + plus) -ℤ pos (2 * minus))) same (ones-same x)
        ∙ ap (λ d. d +ℤ (pos (ones (length code.crossings) x.state + plus) -ℤ pos (2 * minus)))
        (labels_add (length first) (length second) (circle_count code x.state) (ones (length first) c) (ones (length second) l)
        (ones (circle_count code x.state) x.label) (sym (count-parts code view is circles x.state member.state)) sum)
      where
        labels_add : (a b c x y z : ℕ) → a + b ≡ c → x + y ≡ z
            → (pos a -ℤ pos (2 * x)) +ℤ (pos b -ℤ pos (2 * y)) ≡ pos c -ℤ pos (2 * z)
        labels_add a b c x y z counts_add ones_add = omega (arith, ints, counts_add, ones_add)
