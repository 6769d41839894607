-- A code under other numbers has a deformed cube with the same survivors, and a cube with the same dimensions.
use Rattle.std.proofs.Common.{◌≡◌, ◌≢◌, ℕ, zero, suc, ◌⊎◌, inl, inr, ◌+◌, ◌-◌, ◌*◌, ◌/◌, ◌%◌, ◌<◌, ◌≤◌, ◌∙◌, ℤ, List, [], ◌∷◌, get_or, length, refl, sym, subst, ap, ap₂, arith, Bool, cond, IsTrue}
use Rattle.std.specs.Prelude.{nat_eq, slice_index}
use Rattle.std.specs.List.{Contains, position_or_len, range_with_len, sum_by}
use Rattle.std.proofs.lemmas.Bool.{cases_eq, eq-eqb, eqb-true, ne_eqb}
use Rattle.std.proofs.lemmas.List.FromFn.{get_or-range_with_len, length-range_with_len}
use Rattle.std.proofs.lemmas.List.Sums.{sum_by-cons}
use Rattle.kh_types.specs.Acceptance.{accepted}
use Rattle.kh_types.specs.Circles.{circles_of, smoothings_of}
use Rattle.kh_types.specs.Classes.{AreBelow, Respects, classes_of}
use Rattle.kh_types.specs.Code.{Code, IsArc, arc_count, arcs_and_loops}
use Rattle.kh_types.specs.Darts.{HasArcsTwice}
use Rattle.kh_types.specs.Directions.{minus_count, plus_count}
use Rattle.kh_types.specs.Residues.{HasInverses}
use Rattle.kh_types.specs.Table.{dimension}
use Rattle.kh_types.proofs.AcceptedLemmas.{HasArcsTwice-accepted}
use Rattle.kh_types.proofs.ClassLemmas.{classes-finest, classes-together}
use Rattle.kh_types.proofs.Lists.{Contains-range, range-within, within-range}
use Rattle.kh_types.proofs.ListSums.{sum_by-plus, sum_by-range_alike, sum_by-single, sum_by-some, sum_by-turned}
use Rattle.kh_types.proofs.Tests.{agree}
use Rattle.gluing_laws.specs.Arcs.{arc_by_place}
use Rattle.gluing_laws.specs.Codes.{HoldsArcs, IsRenumbered, arc_of_dart, name_count}
use Rattle.gluing_laws.specs.Glue.{renamed}
use Rattle.gluing_laws.proofs.CodeCircles.{dart_smoothings-below, smoothings_of-darts}
use Rattle.gluing_laws.proofs.DartPairs.{dart_smoothings}
use Rattle.gluing_laws.proofs.Renamed.{AreBelow-renamed}
use Rattle.gluing_laws.proofs.SlidCodes.{smoothings-hold}
use Rattle.gluing_laws.proofs.Stubs.{renamed-twice, Respects-from_renamed}
use Rattle.cell_laws.specs.Cells.{dimension_at}
use Rattle.cell_laws.specs.Cubes.{cube_of}
use Rattle.cell_laws.specs.DeformedCubes.{deformed_cube_of}
use Rattle.cell_laws.specs.Filtered.{survivors}
use Rattle.cell_laws.proofs.NoDoubles.{once-range}
use Rattle.view_laws.specs.Views.{HasCircles, IsPlain, SeeAlike, circle_at, plain_view}
use Rattle.view_laws.proofs.CircleNames.{HasCircles-accepted}
use Rattle.view_laws.proofs.PlainViews.{dimension-plain, survivors-plain}
use Rattle.view_laws.proofs.Seen.{found-first}

-- a function from the numbers below n to themselves that takes no value twice takes each
module _ (n : ℕ) (f : ℕ → ℕ) (below : (x : ℕ) → x < n → f x < n) (apart : (x y : ℕ) → x < n → y < n → f x ≡ f y → x ≡ y) where
  abbrev one : Bool → ℕ
  one b = cond b 1 0

  abbrev hit : ℕ → ℕ → ℕ
  hit x z = one (nat_eq (f x) z)

  abbrev hits : ℕ → ℕ
  hits z = sum_by (λ x. hit x z) (range_with_len 0 n)

  hit-there : (x z : ℕ) → hit x z ≢ 0 → f x ≡ z
  hit-there x z some = elim (cases_eq (f x) z) [
    | inl same ↦ same
    | inr other ↦ absurd (some (ap one (ne_eqb (f x) z other)))
  ]

  hits-one : (z : ℕ) → (hits z ≡ 0) ⊎ ((x : ℕ) × (x < n) × (f x ≡ z) × (hits z ≡ 1))
  hits-one z = elim (cases_eq (hits z) 0) [
    | inl none ↦ inl none
    | inr some ↦
        let found = sum_by-some (λ x. hit x z) 0 n some in
        let x = found.0 in
        let x_below : x < n = omega (arith, found.2) in
        let there = hit-there x z found.3 in
        inr (
          x,
          x_below,
          there,
          sum_by-single (λ y. hit y z) 0 n x found.1 found.2
              (λ y from y_below differ.
              ap one (ne_eqb (f y) z (λ same. differ (apart y x (omega (arith, y_below)) x_below (same ∙ sym there)))))
              ∙ ap one (eq-eqb (f x) z there),
        )
  ]

  all-hits : sum_by hits (range_with_len 0 n) ≡ n
  all-hits =
      sum_by-turned (λ z x. hit x z) (range_with_len 0 n) (range_with_len 0 n)
      ∙ sum_by-range_alike (λ x. sum_by (λ z. hit x z) (range_with_len 0 n)) (λ x. 1) 0 n
      (λ x from x_below.
      sum_by-single (λ z. hit x z) 0 n (f x) (omega arith) (omega (arith, below x (omega (arith, x_below))))
      (λ z z_from z_below differ. ap one (ne_eqb (f x) z (λ same. differ (sym same))))
      ∙ ap one (eq-eqb (f x) (f x) refl))
      ∙ ones-range 0 n
    where
      ones-range : (a n : ℕ) → sum_by (λ x. 1) (range_with_len a n) ≡ n
      ones-range a zero = refl
      ones-range a (suc n) = sum_by-cons (λ x. 1) a (range_with_len (a + 1) n) ∙ omega (arith, ones-range (a + 1) n)

  few-sum : (g : ℕ → ℕ) (a m : ℕ) → ((x : ℕ) → a ≤ x → x < a + m → g x ≤ 1) → sum_by g (range_with_len a m) ≤ m
  few-sum g a zero small = omega arith
  few-sum g a (suc m) small =
      omega (
        arith,
        sum_by-cons g a (range_with_len (a + 1) m),
        small a (omega arith) (omega arith),
        few-sum g (a + 1) m (λ x from x_below. small x (omega (arith, from)) (omega (arith, x_below))),
      )

  pub onto : (z : ℕ) → z < n → (x : ℕ) × (x < n) × (f x ≡ z)
  onto z z_below = elim (hits-one z) [
    | inr (x, x_below, there, once) ↦ (x, x_below, there)
    | inl none ↦
        let at = λ (y : ℕ). one (nat_eq y z) in
        let single : sum_by at (range_with_len 0 n) ≡ 1 =
        sum_by-single at 0 n z (omega arith) (omega (arith, z_below)) (λ y from y_below differ. ap one (ne_eqb y z differ))
        ∙ ap one (eq-eqb z z refl) in
        let few = few-sum (λ y. hits y + at y) 0 n
        (λ y from y_below. elim (cases_eq y z) [
          | inl same ↦ omega (arith, ap hits same ∙ none, ap one (eq-eqb y z same))
          | inr other ↦ elim (hits-one y) [
            | inl none_too ↦ omega (arith, none_too, ap one (ne_eqb y z other))
            | inr (x, x_below, there, once) ↦ omega (arith, once, ap one (ne_eqb y z other))
          ]
        ]) in
        absurd (omega (arith, few, single, all-hits, sum_by-plus hits at (range_with_len 0 n)))
  ]

  -- the number with a value
  abbrev inverse_of : ℕ → ℕ
  inverse_of z = position_or_len (λ x. nat_eq (f x) z) (range_with_len 0 n)

  pub inverse-of : (x : ℕ) → x < n → inverse_of (f x) ≡ x
  inverse-of x x_below =
      let test = λ (y : ℕ). nat_eq (f y) (f x) in
      let found = found-first test (range_with_len 0 n) x (Contains-range n x x_below) (eq-eqb (f x) (f x) refl) in
      let k = position_or_len test (range_with_len 0 n) in
      let k_below : k < n = omega (arith, found.within, length-range_with_len 0 n) in
      let here : get_or (range_with_len 0 n) k 0 ≡ k = get_or-range_with_len 0 n k 0 k_below ∙ omega arith in
      apart k x k_below x_below (ap f (sym here) ∙ eqb-true (f (get_or (range_with_len 0 n) k 0)) (f x) found.passes)

respects-back : (g f inverse : ℕ → ℕ) (n : ℕ) (pairs : List (ℕ × ℕ)) → AreBelow n pairs → ((x : ℕ) → x < n → inverse (f x) ≡ x)
    → Respects g pairs → Respects (λ z. g (inverse z)) (renamed f pairs)
respects-back g f inverse n [] below home respects = tt
respects-back g f inverse n (pair ∷ pairs) below home respects = (
  ap g (home pair.0 below.0.0) ∙ respects.0 ∙ ap g (sym (home pair.1 below.0.1)),
  respects-back g f inverse n pairs below.1 home respects.1,
)

module _ (f : ℕ → ℕ) (old new : Code) (same : IsRenumbered f old new) (holds : HoldsArcs old) where
  names-same : name_count new ≡ name_count old
  names-same = omega (arith, same.size, same.loops)

  new-pairs : (state : ℕ) → smoothings_of new.crossings state ≡ renamed f (smoothings_of old.crossings state)
  new-pairs state =
      let n = length old.crossings in
      let darts = dart_smoothings n state in
      let twice : renamed f (renamed (arc_of_dart old.crossings) darts) ≡ renamed (arc_of_dart new.crossings) darts =
      renamed-twice (4 * n) f (arc_of_dart old.crossings) (arc_of_dart new.crossings) darts
      (λ x below. sym (same.arcs (x / 4) (x % 4) (omega arith) (omega arith))) (dart_smoothings-below n state) in
      smoothings_of-darts new.crossings state ∙ ap (λ k. renamed (arc_of_dart new.crossings) (dart_smoothings k state)) same.size
      ∙ sym twice ∙ ap (λ ps. renamed f ps) (sym (smoothings_of-darts old.crossings state))

  circles-new : (state : ℕ) → circles_of new state ≡ classes_of (name_count old) (renamed f (smoothings_of old.crossings state))
  circles-new state = ap₂ (λ (n : ℕ) (ps : List (ℕ × ℕ)). classes_of n ps) names-same (new-pairs state)

  old-below : (state : ℕ) → AreBelow (name_count old) (smoothings_of old.crossings state)
  old-below state = smoothings-hold old state holds

  new-below : (state : ℕ) → AreBelow (name_count old) (renamed f (smoothings_of old.crossings state))
  new-below state =
      AreBelow-renamed (name_count old) (name_count old) f (smoothings_of old.crossings state) same.below (old-below state)

  -- circles are the same
  pub circles-forth : (state x y : ℕ) → x < name_count old → y < name_count old → circle_at old state x ≡ circle_at old state y
      → circle_at new state (f x) ≡ circle_at new state (f y)
  circles-forth state x y x_below y_below one_circle =
      let pairs = smoothings_of old.crossings state in
      let class = λ (z : ℕ). slice_index (classes_of (name_count old) (renamed f pairs)) z in
      ap (λ cs. slice_index cs (f x)) (circles-new state)
      ∙ classes-finest (λ z. class (f z)) (name_count old) pairs
      (Respects-from_renamed class f pairs (classes-together (name_count old) (renamed f pairs) (new-below state))) (old-below state)
      x y x_below y_below one_circle
      ∙ ap (λ cs. slice_index cs (f y)) (sym (circles-new state))

  pub circles-back : (state x y : ℕ) → x < name_count old → y < name_count old
      → circle_at new state (f x) ≡ circle_at new state (f y) → circle_at old state x ≡ circle_at old state y
  circles-back state x y x_below y_below one_circle =
      let pairs = smoothings_of old.crossings state in
      let inverse = inverse_of (name_count old) f same.below same.apart in
      let home = inverse-of (name_count old) f same.below same.apart in
      let class = λ (z : ℕ). slice_index (classes_of (name_count old) pairs) z in
      let together = classes-finest (λ z. class (inverse z)) (name_count old) (renamed f pairs)
      (respects-back class f inverse (name_count old) pairs (old-below state) home
      (classes-together (name_count old) pairs (old-below state))) (new-below state) (f x) (f y) (same.below x x_below)
      (same.below y y_below)
      (sym (ap (λ cs. slice_index cs (f x)) (circles-new state)) ∙ one_circle ∙ ap (λ cs. slice_index cs (f y)) (circles-new state)) in
      ap class (sym (home x x_below)) ∙ together ∙ ap class (home y y_below)

  -- where the number 0 stays, the names of the old code are a view of both
  module _ (zero_kept : f 0 ≡ 0) where
    name-below : (x : ℕ) → Contains (arcs_and_loops old) x → x < name_count old
    name-below x has = let within = range-within 1 (arc_count old.crossings + old.loops) x has in omega (arith, within.below)

    pub old-plain : IsPlain old (arcs_and_loops old) (λ x. x)
    old-plain =
        record {
          once = once-range 1 (arc_count old.crossings + old.loops);
          arcs = λ x has.
              let within = range-within 1 (arc_count old.crossings + old.loops) x has in
              record { positive = within.above; within = omega (arith, within.below) };
          shows = λ state other below name. (
            other,
            within-range 1 (arc_count old.crossings + old.loops) other name.positive (omega (arith, name.within)),
            refl,
          );
        }

    pub new-plain : IsPlain new (arcs_and_loops old) f
    new-plain =
        record {
          once = once-range 1 (arc_count old.crossings + old.loops);
          arcs = λ x has.
              let within = range-within 1 (arc_count old.crossings + old.loops) x has in
              let below = name-below x has in
              let some : f x ≢ 0 =
              λ none. omega (arith, within.above, same.apart x 0 below (omega arith) (none ∙ sym zero_kept)) in
              record { positive = omega (arith, some); within = omega (arith, same.below x below, same.size, same.loops) };
          shows = λ state other below name.
              let found = onto (name_count old) f same.below same.apart other (omega (arith, name.within, same.size, same.loops)) in
              let some : found.0 ≢ 0 = λ none. omega (arith, name.positive, sym found.2 ∙ ap f none ∙ zero_kept) in (
                found.0,
                within-range 1 (arc_count old.crossings + old.loops) found.0 (omega (arith, some)) (omega (arith, found.1)),
                ap (circle_at new state) found.2,
              );
        }

    pub see-alike : (state : ℕ)
        → SeeAlike old (plain_view (arcs_and_loops old) (λ x. x)) state new (plain_view (arcs_and_loops old) f) state
    see-alike state x y has_x has_y =
        agree (nat_eq (circle_at old state x) (circle_at old state y)) (nat_eq (circle_at new state (f x)) (circle_at new state (f y)))
        (λ passes.
        eq-eqb (circle_at new state (f x)) (circle_at new state (f y))
        (circles-forth state x y (name-below x has_x) (name-below y has_y)
        (eqb-true (circle_at old state x) (circle_at old state y) passes)))
        (λ passes.
        eq-eqb (circle_at old state x) (circle_at old state y)
        (circles-back state x y (name-below x has_x) (name-below y has_y)
        (eqb-true (circle_at new state (f x)) (circle_at new state (f y)) passes)))

    pub survivors-renumbered : (p h plus minus : ℕ) → HasInverses p → HasCircles old → HasCircles new → (i t : ℤ)
        → survivors p (deformed_cube_of p h new plus minus) i t ≡ survivors p (deformed_cube_of p h old plus minus) i t
    survivors-renumbered p h plus minus field circles new_circles i t =
        survivors-plain p h old new plus minus (arcs_and_loops old) (λ x. x) f field circles new_circles old-plain new-plain same.size
        (λ state below. see-alike state) i t

    pub dimension-renumbered : (p plus minus : ℕ) → HasInverses p → HasCircles old → HasCircles new → (i j : ℤ)
        → dimension_at p (cube_of p new plus minus) i j ≡ dimension_at p (cube_of p old plus minus) i j
    dimension-renumbered p plus minus field circles new_circles i j =
        dimension-plain p old new plus minus (arcs_and_loops old) (λ x. x) f field circles new_circles old-plain new-plain same.size
        (λ state below. see-alike state) i j

-- the same renumbering, where the number 0 stays: it is no arc, before and behind
module _ (f : ℕ → ℕ) (old new : Code) (same : IsRenumbered f old new) (twice : HasArcsTwice old.crossings)
    (new_twice : HasArcsTwice new.crossings) where
  abbrev pub fixed : ℕ → ℕ
  fixed x = cond (nat_eq x 0) 0 (cond (nat_eq (f x) 0) (f 0) (f x))

  slot-arc : (crossings : List (List ℕ)) → HasArcsTwice crossings → (place slot : ℕ) → place < length crossings → slot < 4
      → IsArc crossings (arc_by_place crossings place slot)
  slot-arc crossings is place slot below slot_below =
      let e : place + 1 - 1 ≡ place = omega arith in
      subst (λ (m : ℕ). IsArc crossings (arc_by_place crossings m slot)) e
      (is.slots (record { crossing = place + 1; slot = slot })
      (record {
        crossing = record { positive = omega arith; within = omega (arith, below) };
        slot = slot_below;
      }))

  pub holds-arcs : (code : Code) → HasArcsTwice code.crossings → HoldsArcs code
  holds-arcs code is place slot below slot_below = omega (arith, (slot-arc code.crossings is place slot below slot_below).within)

  fixed-cases : (x : ℕ) → x < name_count old
      → ((x ≡ 0) × (fixed x ≡ 0)) ⊎ (((x ≢ 0) × (f x ≡ 0) × (fixed x ≡ f 0)) ⊎ ((x ≢ 0) × (f x ≢ 0) × (fixed x ≡ f x)))
  fixed-cases x below = elim (cases_eq x 0) [
    | inl is ↦ inl (is, ap (λ b. cond b 0 (cond (nat_eq (f x) 0) (f 0) (f x))) (eq-eqb x 0 is))
    | inr some ↦ elim (cases_eq (f x) 0) [
      | inl gone ↦ inr (inl (
        some,
        gone,
        ap₂ (λ a b. cond a 0 (cond b (f 0) (f x))) (ne_eqb x 0 some) (eq-eqb (f x) 0 gone),
      ))
      | inr there ↦ inr (inr (
        some,
        there,
        ap₂ (λ a b. cond a 0 (cond b (f 0) (f x))) (ne_eqb x 0 some) (ne_eqb (f x) 0 there),
      ))
    ]
  ]

  pub fixed-below : (x : ℕ) → x < name_count old → fixed x < name_count old
  fixed-below x below = elim (fixed-cases x below) [
    | inl zero_case ↦ omega (arith, zero_case.1, below)
    | inr (inl gone) ↦ omega (arith, gone.2, same.below 0 (omega arith))
    | inr (inr there) ↦ omega (arith, there.2, same.below x below)
  ]

  -- the number 0 comes back only from itself
  fixed-some : (x : ℕ) → x < name_count old → x ≢ 0 → fixed x ≢ 0
  fixed-some x below some none = elim (fixed-cases x below) [
    | inl zero_case ↦ some zero_case.0
    | inr (inl gone) ↦ some (same.apart x 0 below (omega arith) (gone.1 ∙ sym none ∙ gone.2))
    | inr (inr there) ↦ there.1 (sym there.2 ∙ none)
  ]

  fixed-apart : (x y : ℕ) → x < name_count old → y < name_count old → fixed x ≡ fixed y → x ≡ y
  fixed-apart x y x_below y_below one_value = elim (fixed-cases x x_below) [
    | inl x_zero ↦ elim (cases_eq y 0) [
      | inl y_zero ↦ x_zero.0 ∙ sym y_zero
      | inr some ↦ absurd (fixed-some y y_below some (sym one_value ∙ x_zero.1))
    ]
    | inr (inl x_gone) ↦ elim (fixed-cases y y_below) [
      | inl y_zero ↦ absurd (fixed-some x x_below x_gone.0 (one_value ∙ y_zero.1))
      | inr (inl y_gone) ↦ same.apart x y x_below y_below (x_gone.1 ∙ sym y_gone.1)
      | inr (inr y_there) ↦
          absurd (y_there.0 (sym (same.apart 0 y (omega arith) y_below (sym x_gone.2 ∙ one_value ∙ y_there.2))))
    ]
    | inr (inr x_there) ↦ elim (fixed-cases y y_below) [
      | inl y_zero ↦ absurd (fixed-some x x_below x_there.0 (one_value ∙ y_zero.1))
      | inr (inl y_gone) ↦
          absurd (x_there.0 (same.apart x 0 x_below (omega arith) (sym x_there.2 ∙ one_value ∙ y_gone.2)))
      | inr (inr y_there) ↦ same.apart x y x_below y_below (sym x_there.2 ∙ one_value ∙ y_there.2)
    ]
  ]

  pub renumbered-fixed : IsRenumbered fixed old new
  renumbered-fixed =
      record {
        size = same.size;
        loops = same.loops;
        below = fixed-below;
        apart = fixed-apart;
        arcs = λ place slot below slot_below.
            let x = arc_by_place old.crossings place slot in
            let old_arc = slot-arc old.crossings twice place slot below slot_below in
            let new_arc = slot-arc new.crossings new_twice place slot (omega (arith, below, same.size)) slot_below in
            let is = same.arcs place slot below slot_below in
            elim (fixed-cases x (omega (arith, old_arc.within))) [
              | inl zero_case ↦ absurd (omega (arith, zero_case.0, old_arc.positive))
              | inr (inl gone) ↦ absurd (omega (arith, gone.1, is, new_arc.positive))
              | inr (inr there) ↦ is ∙ sym there.2
            ];
      }

  pub survivors-any : (p h plus minus : ℕ) → HasInverses p → HasCircles old → HasCircles new → (i t : ℤ)
      → survivors p (deformed_cube_of p h new plus minus) i t ≡ survivors p (deformed_cube_of p h old plus minus) i t
  survivors-any p h plus minus field circles new_circles i t =
      survivors-renumbered fixed old new renumbered-fixed (holds-arcs old twice) refl p h plus minus field circles new_circles i t

  pub dimension-any : (p plus minus : ℕ) → HasInverses p → HasCircles old → HasCircles new → (i j : ℤ)
      → dimension_at p (cube_of p new plus minus) i j ≡ dimension_at p (cube_of p old plus minus) i j
  dimension-any p plus minus field circles new_circles i j =
      dimension-renumbered fixed old new renumbered-fixed (holds-arcs old twice) refl p plus minus field circles
      new_circles i j

-- so codes under other numbers have the same survivors, and one table, where crossings keep their signs
pub survivors-renumbered_code : (p h : ℕ) (f : ℕ → ℕ) (old new : Code) → HasInverses p → IsTrue (accepted old) → IsTrue (accepted new)
    → IsRenumbered f old new → plus_count new.crossings ≡ plus_count old.crossings
    → minus_count new.crossings ≡ minus_count old.crossings → (i t : ℤ)
    → survivors p (deformed_cube_of p h new (plus_count new.crossings) (minus_count new.crossings)) i t
    ≡ survivors p (deformed_cube_of p h old (plus_count old.crossings) (minus_count old.crossings)) i t
survivors-renumbered_code p h f old new field is new_is same plus minus i t =
    ap₂ (λ a b. survivors p (deformed_cube_of p h new a b) i t) plus minus
    ∙ survivors-any f old new same (HasArcsTwice-accepted old is) (HasArcsTwice-accepted new new_is) p h (plus_count old.crossings)
    (minus_count old.crossings) field (HasCircles-accepted old is) (HasCircles-accepted new new_is) i t

pub dimension-renumbered_code : (p : ℕ) (f : ℕ → ℕ) (old new : Code) → HasInverses p → IsTrue (accepted old) → IsTrue (accepted new)
    → IsRenumbered f old new → plus_count new.crossings ≡ plus_count old.crossings
    → minus_count new.crossings ≡ minus_count old.crossings → (i j : ℤ) → dimension p new i j ≡ dimension p old i j
dimension-renumbered_code p f old new field is new_is same plus minus i j =
    ap₂ (λ a b. dimension_at p (cube_of p new a b) i j) plus minus
    ∙ dimension-any f old new same (HasArcsTwice-accepted old is) (HasArcsTwice-accepted new new_is) p (plus_count old.crossings)
    (minus_count old.crossings) field (HasCircles-accepted old is) (HasCircles-accepted new new_is) i j
