-- Views through all arcs and loops but two sides.
use Rattle.std.proofs.lemmas.Bool.Decides.{nat_tests}
use Rattle.std.proofs.Common.{◌≡◌, ◌≢◌, ℕ, inl, inr, ◌+◌, ◌-◌, ◌*◌, ◌%◌, ◌^◌, ◌<◌, ◌≤◌, ◌∙◌, [], ◌∷◌, length, refl, sym, ap, ap₂, subst, arith, true, not, ◌||◌}
use Rattle.std.specs.Prelude.{nat_eq}
use Rattle.std.specs.List.{Contains}
use Rattle.std.proofs.lemmas.Bool.{cases_eq}
use Rattle.kh_types.specs.Circles.{circle_of, circles_of}
use Rattle.kh_types.specs.Code.{Code, arcs_and_loops, arc_count}
use Rattle.kh_types.specs.CircleNumbers.{IsName}
use Rattle.kh_types.proofs.Lists.{Contains-filter, range-within, within-range}
use Rattle.kh_types.proofs.Tests.{nat_eq-iff}
use Rattle.cell_laws.proofs.Members.{Contains-kept}
use Rattle.cell_laws.proofs.NoDoubles.{once-range, once-filter}
use Rattle.view_laws.specs.Views.{IsView, SeeAlike, circle_at, AreTogether}
use Rattle.drop_view_laws.specs.DropViews.{AllShow, AreAlikeBut, AreNumbered, AreSeenAlike, IsCircleOf, IsOfTwo}
use Rattle.drop_view_laws.specs.DroppedFirst.{names_but, view_but, view_left}
use Rattle.drop_view_laws.proofs.OffSides.{of_two}
use Rattle.view_laws.proofs.ClosedOne.{closed-is, closed-there, closed-few}
use Rattle.view_laws.proofs.Tests.{none-in}

-- names

name-in : (code : Code) (a b x : ℕ) → Contains (names_but code a b) x → IsName code x × (IsOfTwo a b x → ⊥)
name-in code a b x has =
    let kept = Contains-kept (λ z. not (nat_eq z a || nat_eq z b)) (arcs_and_loops code) x has in
    let within = range-within 1 (arc_count code.crossings + code.loops) x kept.0 in
    let apart = two x a b kept.1 in (
      record { positive = within.above; within = omega (arith, within.below) },
      λ side. elim side [ inl first ↦ apart.0 first | inr second ↦ apart.1 second ],
    )
  where
    two : (x a b : ℕ) → not (nat_eq x a || nat_eq x b) ≡ true → (x ≢ a) × (x ≢ b)
    two x a b passes = grind (arith, nat_tests)

in-names : (code : Code) (a b x : ℕ) → IsName code x → (IsOfTwo a b x → ⊥) → Contains (names_but code a b) x
in-names code a b x is off =
    Contains-filter (λ z. not (nat_eq z a || nat_eq z b)) (arcs_and_loops code) x (two x a b (λ e. off (inl e)) (λ e. off (inr e)))
    (within-range 1 (arc_count code.crossings + code.loops) x is.positive (omega (arith, is.within)))
  where
    two : (x a b : ℕ) → x ≢ a → x ≢ b → not (nat_eq x a || nat_eq x b) ≡ true
    two x a b not_a not_b = grind (arith, nat_tests)

-- a code whose states have the circles of another code's states, of the same arcs and loops
module _ (code front : Code) (a b : ℕ) (size : length front.crossings ≡ length code.crossings) (loops : front.loops ≡ code.loops)
    (home : ℕ → ℕ)
    (circles : (state : ℕ) → state < 2 ^ length code.crossings → circles_of front state ≡ circles_of code (home state)) where
  counts : arc_count front.crossings + front.loops ≡ arc_count code.crossings + code.loops
  counts = ap₂ (λ n l. 2 * n + l) size loops

  to-front : (x : ℕ) → IsName code x → IsName front x
  to-front x is = record { positive = is.positive; within = omega (arith, is.within, counts) }

  from-front : (x : ℕ) → IsName front x → IsName code x
  from-front x is = record { positive = is.positive; within = omega (arith, is.within, counts) }

  at_home : (state x : ℕ) → state < 2 ^ length code.crossings → circle_at front state x ≡ circle_at code (home state) x
  at_home state x below = ap (λ cs. circle_of cs x) (circles state below)

  together-front : (state x y : ℕ) → state < 2 ^ length code.crossings → AreTogether code (home state) x y → circle_at front state x
      ≡ circle_at front state y
  together-front state x y below same = at_home state x below ∙ same ∙ sym (at_home state y below)

  front-together : (state x y : ℕ) → state < 2 ^ length code.crossings → circle_at front state x ≡ circle_at front state y
      → AreTogether code (home state) x y
  front-together state x y below same = sym (at_home state x below) ∙ same ∙ at_home state y below

  powers : 2 ^ length front.crossings ≡ 2 ^ length code.crossings
  powers = ap (λ n. 2 ^ n) size

  pub IsView-front : (inner closed : ℕ) → inner ≤ length code.crossings → IsName code a
      → ((state : ℕ) → state < 2 ^ length code.crossings → state % 2 ^ inner ≡ closed → IsCircleOf code (IsOfTwo a b) (home state) a)
      → ((state : ℕ) → state < 2 ^ length code.crossings → state % 2 ^ inner ≢ closed → AllShow code (IsOfTwo a b) (home state))
      → IsView front (view_but front inner a b closed)
  IsView-front inner closed fits a_is closes shows = record {
    fits = omega (arith, fits, size);
    once = once-filter (λ x. not (nat_eq x a || nat_eq x b)) (arcs_and_loops front)
        (once-range 1 (arc_count front.crossings + front.loops));
    arcs = λ x has_x. (name-in front a b x has_x).0;
    closed_arcs = λ inside z below has_z. subst (λ (k : ℕ). IsName front k) (sym (closed-is a closed inside z has_z).1) (to-front a a_is);
    few = λ inside below. closed-few a closed inside;
    shows = λ state arc below is_name.
        let small : state < 2 ^ length code.crossings = omega (arith, below, powers) in
        elim (cases_eq (state % 2 ^ inner) closed) [
          | inl at_closed ↦
              let circle = closes state small at_closed in
              elim (of_two a b arc) [
                | inl first ↦ inr (a, closed-there a closed (state % 2 ^ inner) at_closed, ap (circle_at front state) (sym first))
                | inr rest ↦ elim rest [
                  | inl second ↦ inr (
                    a,
                    closed-there a closed (state % 2 ^ inner) at_closed,
                    sym (together-front state arc a small (circle.all arc (inr second))),
                  )
                  | inr off ↦ inl (arc, in-names front a b arc is_name off, refl)
                ]
              ]
          | inr other ↦
              let shown = shows state small other arc (from-front arc is_name) in
              inl (
                shown.0,
                in-names front a b shown.0 (to-front shown.0 shown.1) shown.2,
                together-front state shown.0 arc small shown.3,
              )
        ];
    apart = λ state z x below has_z has_x same.
        let small : state < 2 ^ length code.crossings = omega (arith, below, powers) in
        let at = closed-is a closed (state % 2 ^ inner) z has_z in
        let name = name-in front a b x has_x in
        name.1
        ((closes state small at.0).alone x (from-front x name.0)
        (front-together state x a small (sym same ∙ ap (circle_at front state) at.1)));
  }

  pub IsView-left : (new : Code) (number : ℕ → ℕ) → AreNumbered code new (IsOfTwo a b) number → IsView new (view_left front a b number)
  IsView-left new number numbered = record {
    fits = omega arith;
    once = once-filter (λ x. not (nat_eq x a || nat_eq x b)) (arcs_and_loops front)
        (once-range 1 (arc_count front.crossings + front.loops));
    arcs = λ x has_x. numbered.within x (from-front x (name-in front a b x has_x).0);
    closed_arcs = λ inside z below has_z. absurd (none-in z has_z);
    few = λ inside below. omega arith;
    shows = λ state arc below is_name.
        let old = numbered.onto arc is_name in
        inl (old.0, in-names front a b old.0 (to-front old.0 old.1) old.2, ap (circle_at new state) old.3);
    apart = λ state z x below has_z has_x same. none-in z has_z;
  }

  pub SeeAlike-left : (new : Code) (number : ℕ → ℕ) (inner closed state new_state : ℕ) → state < 2 ^ length code.crossings
      → AreSeenAlike code new (IsOfTwo a b) number (home state) new_state
      → SeeAlike front (view_but front inner a b closed) state new (view_left front a b number) new_state
  SeeAlike-left new number inner closed state new_state below alike x y has_x has_y =
      let x_in = name-in front a b x has_x in
      let y_in = name-in front a b y has_y in
      let both = alike x y (from-front x x_in.0) (from-front y y_in.0) x_in.1 y_in.1 in
      nat_eq-iff (circle_at front state x) (circle_at front state y) (circle_at new new_state (number x))
      (circle_at new new_state (number y))
      (λ same. both.0 (front-together state x y below same)) (λ same. together-front state x y below (both.1 same))

  pub SeeAlike-front : (inner closed state other : ℕ) → state < 2 ^ length code.crossings → other < 2 ^ length code.crossings
      → AreAlikeBut code (IsOfTwo a b) (home state) (home other)
      → SeeAlike front (view_but front inner a b closed) state front (view_but front inner a b closed) other
  SeeAlike-front inner closed state other below other_below alike x y has_x has_y =
      let x_in = name-in front a b x has_x in
      let y_in = name-in front a b y has_y in
      let both = alike x y (from-front x x_in.0) (from-front y y_in.0) x_in.1 y_in.1 in
      nat_eq-iff (circle_at front state x) (circle_at front state y) (circle_at front other x) (circle_at front other y)
      (λ same. together-front other x y other_below (both.0 (front-together state x y below same)))
      (λ same. together-front state x y below (both.1 (front-together other x y other_below same)))
