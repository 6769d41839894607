-- Components that are numbered one after another, each along its direction. Given is a function that leads each number to the
-- first of its run: both arcs of a pass have the same first number, and each number but the first of a run is in one component
-- with the number before it. Then each number is in one component with the first of its run, by induction downwards; and numbers
-- of different runs are not joined, as passes keep the function. So the components are the runs, each named by its first number.
-- A component is an interval: if some number of the interval were of another run, the whole run would stand before that number,
-- and so be too short. And the next arc is the next number, or after the last of a run its first.
use Rattle.std.proofs.lemmas.Bool.Decides.{nat_tests}
use Rattle.std.proofs.Common.{◌≡◌, ℕ, zero, suc, inl, inr, ◌+◌, ◌-◌, ◌<◌, ◌≤◌, ◌∙◌, List, [], ◌∷◌, length, map, refl, sym, ap, subst, arith, true, eqb-true}
use Rattle.std.specs.Prelude.{nat_eq, if◌then◌else◌}
use Rattle.std.specs.List.{AllByRecursion, flat_map, count_by, range_with_len}
use Rattle.std.proofs.lemmas.Bool.{cases_eq, cases_lt}
use Rattle.std.proofs.lemmas.List.{get_or_past, ext_get_or, get_or-map, length-map}
use Rattle.std.proofs.lemmas.List.FromFn.{length-range_with_len, get_or-range_with_len}
use Rattle.std.proofs.lemmas.List.Sums.{count_by-le-length}
use Rattle.kh_types.specs.Code.{arc_count}
use Rattle.kh_types.specs.Classes.{Respects, AreBelow}
use Rattle.kh_types.specs.Components.{passes_of, components_of, component_of, arcs_in, next}
use Rattle.kh_types.specs.Accepted.{IsInterval}
use Rattle.kh_types.proofs.Lists.{count_by-map}
use Rattle.kh_types.proofs.ClassLemmas.{classes-finest}
use Rattle.kh_types.proofs.JoinedClasses.{IsNamed-classes_of}
use Rattle.kh_types.proofs.DartColours.{arc_at}
use Rattle.face_walk.proofs.PlainCounts.{count_by-one_to_one}

-- what holds of all passes holds of both passes of each crossing
pub passes-at : (P : ℕ × ℕ → Type 0) (crossings : List (List ℕ)) (place : ℕ) → AllByRecursion P (flat_map passes_of crossings)
    → place < length crossings
    → P (arc_at crossings place 0, arc_at crossings place 2) × P (arc_at crossings place 1, arc_at crossings place 3)
passes-at P [] place holds below = absurd (omega (arith, below))
passes-at P (slots ∷ rest) zero holds below = (holds.0, holds.1.0)
passes-at P (slots ∷ rest) (suc place) holds below = passes-at P rest place holds.1.1 (omega (arith, below))

-- the first number of the component of each arc, where components are runs of numbers: and each number of a run but the last is
-- joined with the next by a pass
pub record IsNumbering (crossings : List (List ℕ)) (first : ℕ → ℕ) : Type 0 where
  pub below : AreBelow (arc_count crossings + 1) (flat_map passes_of crossings)
  pub respects : Respects first (flat_map passes_of crossings)
  pub least : (x : ℕ) → x ≤ arc_count crossings → first x ≤ x
  pub own : (x : ℕ) → x ≤ arc_count crossings → first (first x) ≡ first x
  pub past : (x : ℕ) → arc_count crossings < x → first x ≡ 0
  pub run : (x : ℕ) → x + 1 ≤ arc_count crossings → first (x + 1) < x + 1 → first x ≡ first (x + 1)
  pub joined : (x : ℕ) → x + 1 ≤ arc_count crossings → first (x + 1) < x + 1
      → component_of (components_of crossings) x ≡ component_of (components_of crossings) (x + 1)

-- a number is joined with the first of its run
down : (crossings : List (List ℕ)) (first : ℕ → ℕ) → IsNumbering crossings first → (x : ℕ) → x ≤ arc_count crossings
    → component_of (components_of crossings) x ≡ component_of (components_of crossings) (first x)
down crossings first is zero within = grind (arith, nat_tests)
down crossings first is (suc x) within =
    grind (arith, nat_tests, cases_lt (first (suc x)) (suc x), down crossings first is x (omega (arith, within)))

-- so these are the components
pub components-numbered : (crossings : List (List ℕ)) (first : ℕ → ℕ) → IsNumbering crossings first → (x : ℕ)
    → component_of (components_of crossings) x ≡ first x
components-numbered crossings first is x = elim (cases_lt (arc_count crossings) x) [
  | inl past ↦
      get_or_past (components_of crossings) x 0
      (omega (arith, past, (IsNamed-classes_of (arc_count crossings + 1) (flat_map passes_of crossings) is.below).size))
      ∙ sym (is.past x past)
  | inr within ↦
      let named = IsNamed-classes_of (arc_count crossings + 1) (flat_map passes_of crossings) is.below in
      let class = component_of (components_of crossings) x in
      let class_within : class ≤ arc_count crossings = omega (arith, named.least x (omega (arith, within)), within) in
      let first_within : first x ≤ arc_count crossings = omega (arith, is.least x within, within) in
      let same : first class ≡ first x =
      classes-finest first (arc_count crossings + 1) (flat_map passes_of crossings) is.respects is.below class x
      (omega (arith, class_within)) (omega (arith, within)) (named.own x (omega (arith, within))) in
      omega (
        arith,
        down crossings first is x within,
        named.least (first x) (omega (arith, first_within)),
        same,
        is.least class class_within,
      )
]

-- between the first number of a run and one of its numbers all are of it
run-between : (crossings : List (List ℕ)) (first : ℕ → ℕ) → IsNumbering crossings first → (x k : ℕ) → x + k ≤ arc_count crossings
    → first (x + k) ≤ x → first x ≡ first (x + k)
run-between crossings first is x zero within from = let e : x ≡ x + zero = omega arith in ap first e
run-between crossings first is x (suc k) within from =
    let e : x + suc k ≡ x + k + 1 = omega arith in
    let from_there : first (x + k + 1) ≤ x = subst (λ (z : ℕ). first z ≤ x) e from in
    let one = is.run (x + k) (omega (arith, within)) (omega (arith, from_there)) in
    run-between crossings first is x k (omega (arith, within)) (omega (arith, one, from_there)) ∙ one ∙ ap first (sym e)

-- the number of arcs in a component, counted over places
pub arcs_in-places : (crossings : List (List ℕ)) (first : ℕ → ℕ) → IsNumbering crossings first → (f : ℕ)
    → arcs_in (components_of crossings) f ≡ count_by (λ x. nat_eq f (first x)) (range_with_len 0 (arc_count crossings + 1))
arcs_in-places crossings first is f =
    let size = (IsNamed-classes_of (arc_count crossings + 1) (flat_map passes_of crossings) is.below).size in
    let listed : components_of crossings ≡ map first (range_with_len 0 (arc_count crossings + 1)) =
    ext_get_or 0 (components_of crossings) (map first (range_with_len 0 (arc_count crossings + 1)))
    (size ∙ sym (length-range_with_len 0 (arc_count crossings + 1)) ∙ sym (length-map (range_with_len 0 (arc_count crossings + 1)) first))
    (λ x below.
    let small : x < arc_count crossings + 1 = omega (arith, below, size) in
    components-numbered crossings first is x
    ∙ ap first (sym (get_or-range_with_len 0 (arc_count crossings + 1) x 0 small ∙ omega arith))
    ∙ sym (get_or-map first (range_with_len 0 (arc_count crossings + 1)) x 0 0 (omega (arith, small, length-range_with_len 0 (arc_count crossings + 1))))) in
    ap (λ cs. count_by (nat_eq f) cs) listed ∙ count_by-map (nat_eq f) first (range_with_len 0 (arc_count crossings + 1))

count_by-true : (n : ℕ) → count_by (λ (x : ℕ). true) (range_with_len 0 n) ≤ n
count_by-true n = omega (arith, count_by-le-length (λ (x : ℕ). true) (range_with_len 0 n), length-range_with_len 0 n)

-- components are intervals
pub IsInterval-numbered : (crossings : List (List ℕ)) (first : ℕ → ℕ) → IsNumbering crossings first → (f : ℕ) → 1 ≤ f
    → f ≤ arc_count crossings → first f ≡ f → IsInterval (components_of crossings) f
IsInterval-numbered crossings first is f positive within own arc from below =
    elim (cases_eq (first arc) f) [
      | inl same ↦ components-numbered crossings first is arc ∙ same
      | inr other ↦
          let few = count_by-one_to_one (λ x. nat_eq f (first x)) (λ (x : ℕ). true) (λ x. x - f) (arc_count crossings + 1) (arc - f)
          (record {
            below = λ x x_below holds.
                let x_is = eqb-true f (first x) holds in
                let x_from : f ≤ x = omega (arith, is.least x (omega (arith, x_below)), x_is) in
                elim (cases_lt x arc) [
                  | inl before ↦ omega (arith, before, x_from)
                  | inr behind ↦
                      let k_is : arc + (x - arc) ≡ x = omega (arith, behind) in
                      absurd (other
                      (run-between crossings first is arc (x - arc) (omega (arith, k_is, x_below))
                      (omega (arith, ap first k_is, x_is, from))
                      ∙ ap first k_is ∙ sym x_is))
                ];
            passes = λ x x_below holds. refl;
            apart = λ x y x_below y_below x_holds y_holds same.
                omega (
                  arith,
                  same,
                  is.least x (omega (arith, x_below)),
                  is.least y (omega (arith, y_below)),
                  eqb-true f (first x) x_holds,
                  eqb-true f (first y) y_holds,
                );
          }) in
          absurd (omega (arith, few, count_by-true (arc - f), arcs_in-places crossings first is f, below, from))
    ]

-- the arc that follows
pub next-numbered : (crossings : List (List ℕ)) (first : ℕ → ℕ) → IsNumbering crossings first → (x : ℕ)
    → next crossings x ≡ (if nat_eq (first (x + 1)) (first x) then x + 1 else first x)
next-numbered crossings first is x =
    grind (arith, nat_tests, components-numbered crossings first is (x + 1), components-numbered crossings first is x)
