-- One side or two are moved off, and what the circles of two states of one code have to do with one another.
use Rattle.std.proofs.lemmas.Bool.Decides.{nat_tests}
use Rattle.std.proofs.Common.{◌≡◌, ◌≢◌, ℕ, ◌⊎◌, inl, inr, ◌<◌, ◌∙◌, length, refl, sym, ap, subst, arith, Bool, true, false, cond, eq-eqb}
use Rattle.std.specs.Prelude.{nat_eq, if◌then◌else◌, ◌||◌}
use Rattle.std.proofs.lemmas.Bool.{cases_eq, ne_eqb}
use Rattle.kh_types.specs.Bits.{bit, one_if}
use Rattle.kh_types.specs.Circles.{circle_of, circles_of, smoothing_of}
use Rattle.kh_types.specs.Classes.{Respects}
use Rattle.kh_types.specs.CircleNumbers.{IsName}
use Rattle.kh_types.specs.Code.{Code}
use Rattle.kh_types.specs.Darts.{HasArcsTwice}
use Rattle.code_passes.specs.Parts.{slots_in}
use Rattle.gluing_laws.specs.Arcs.{arc_by_place}
use Rattle.kink_and_finger_laws.specs.DropCircles.{joined_at}
use Rattle.drop_view_laws.specs.DropViews.{AllShow, DifferAt, IsOfTwo}
use Rattle.view_laws.specs.Views.{AreTogether}
use Rattle.drop_view_laws.specs.NamesLeft.{straight_name}
use Rattle.drop_view_laws.proofs.CircleMaps.{carried, joined-there, smoothing-onto}
use Rattle.drop_view_laws.proofs.DropMaps.{MovesOff}

-- one side goes to an arc
abbrev pub moved_one : ℕ → ℕ → ℕ → ℕ
moved_one a x z = if nat_eq z a then x else z

pub moved_one-side : (a x : ℕ) → moved_one a x a ≡ x
moved_one-side a x = ap (λ t. cond t x a) (eq-eqb a a refl)

pub moved_one-off : (a x z : ℕ) → z ≢ a → moved_one a x z ≡ z
moved_one-off a x z other = ap (λ t. cond t x z) (ne_eqb z a other)

-- two sides go to two arcs
abbrev pub moved_two : ℕ → ℕ → ℕ → ℕ → ℕ → ℕ
moved_two a b x y z = if nat_eq z a then x else if nat_eq z b then y else z

pub moved_two-first : (a b x y : ℕ) → moved_two a b x y a ≡ x
moved_two-first a b x y = ap (λ t. cond t x (if nat_eq a b then y else a)) (eq-eqb a a refl)

pub moved_two-second : (a b x y : ℕ) → a ≢ b → moved_two a b x y b ≡ y
moved_two-second a b x y apart = grind (arith, nat_tests)

pub moved_two-off : (a b x y z : ℕ) → (IsOfTwo a b z → ⊥) → moved_two a b x y z ≡ z
moved_two-off a b x y z off = off_at a b x y z (λ same. off (inl same)) (λ same. off (inr same))
  where
    off_at : (a b x y z : ℕ) → z ≢ a → z ≢ b → moved_two a b x y z ≡ z
    off_at a b x y z not_a not_b = grind (arith, nat_tests)

pub MovesOff-one : (code : Code) (gone : ℕ → Bool) (a x : ℕ) → x ≢ a → IsName code x → straight_name code gone x ≡ straight_name code gone a
    → MovesOff code gone (λ z. z ≡ a) (moved_one a x)
MovesOff-one code gone a x x_a x_is x_class = record {
  same = λ z off. moved_one-off a x z off;
  none = λ z is. elim (cases_eq z a) [
    | inl same ↦ x_a (sym (moved_one-side a x) ∙ ap (moved_one a x) (sym same) ∙ is)
    | inr other ↦ other (sym (moved_one-off a x z other) ∙ is)
  ];
  is_name = λ z z_is. elim (cases_eq z a) [
    | inl same ↦ subst (λ (w : ℕ). IsName code w) (sym (ap (moved_one a x) same ∙ moved_one-side a x)) x_is
    | inr other ↦ subst (λ (w : ℕ). IsName code w) (sym (moved_one-off a x z other)) z_is
  ];
  class = λ z z_is. elim (cases_eq z a) [
    | inl same ↦
        ap (straight_name code gone) (ap (moved_one a x) same ∙ moved_one-side a x) ∙ x_class ∙ ap (straight_name code gone) (sym same)
    | inr other ↦ ap (straight_name code gone) (moved_one-off a x z other)
  ];
}

-- a number is the first of two, the second, or neither
pub of_two : (a b z : ℕ) → (z ≡ a) ⊎ ((z ≡ b) ⊎ (IsOfTwo a b z → ⊥))
of_two a b z = elim (cases_eq z a) [
  | inl first ↦ inl first
  | inr not_a ↦ elim (cases_eq z b) [
    | inl second ↦ inr (inl second)
    | inr not_b ↦ inr (inr (λ is. elim is [ inl first ↦ not_a first | inr second ↦ not_b second ]))
  ]
]

pub neither : (a b z : ℕ) → z ≢ a → z ≢ b → IsOfTwo a b z → ⊥
neither a b z not_a not_b is = elim is [ inl first ↦ not_a first | inr second ↦ not_b second ]

pub MovesOff-two : (code : Code) (gone : ℕ → Bool) (a b x y : ℕ) → a ≢ b → (IsOfTwo a b x → ⊥) → (IsOfTwo a b y → ⊥) → IsName code x
    → IsName code y → straight_name code gone x ≡ straight_name code gone a → straight_name code gone y ≡ straight_name code gone b
    → MovesOff code gone (IsOfTwo a b) (moved_two a b x y)
MovesOff-two code gone a b x y apart x_off y_off x_is y_is x_class y_class =
    let at_a : (z : ℕ) → z ≡ a → moved_two a b x y z ≡ x = λ z same. ap (moved_two a b x y) same ∙ moved_two-first a b x y in
    let at_b : (z : ℕ) → z ≡ b → moved_two a b x y z ≡ y = λ z same. ap (moved_two a b x y) same ∙ moved_two-second a b x y apart in
    record {
      same = λ z off. moved_two-off a b x y z off;
      none = λ z is. elim (of_two a b z) [
        | inl first ↦ x_off (subst (λ (w : ℕ). IsOfTwo a b w) (at_a z first) is)
        | inr rest ↦ elim rest [
          | inl second ↦ y_off (subst (λ (w : ℕ). IsOfTwo a b w) (at_b z second) is)
          | inr off ↦ off (subst (λ (w : ℕ). IsOfTwo a b w) (moved_two-off a b x y z off) is)
        ]
      ];
      is_name = λ z z_is. elim (of_two a b z) [
        | inl first ↦ subst (λ (w : ℕ). IsName code w) (sym (at_a z first)) x_is
        | inr rest ↦ elim rest [
          | inl second ↦ subst (λ (w : ℕ). IsName code w) (sym (at_b z second)) y_is
          | inr off ↦ subst (λ (w : ℕ). IsName code w) (sym (moved_two-off a b x y z off)) z_is
        ]
      ];
      class = λ z z_is. elim (of_two a b z) [
        | inl first ↦ ap (straight_name code gone) (at_a z first) ∙ x_class ∙ ap (straight_name code gone) (sym first)
        | inr rest ↦ elim rest [
          | inl second ↦ ap (straight_name code gone) (at_b z second) ∙ y_class ∙ ap (straight_name code gone) (sym second)
          | inr off ↦ ap (straight_name code gone) (moved_two-off a b x y z off)
        ]
      ];
    }

-- each circle shows, where those of two sides do
pub AllShow-two : (code : Code) (state a b u w : ℕ) → IsName code u → IsName code w → (IsOfTwo a b u → ⊥) → (IsOfTwo a b w → ⊥)
    → AreTogether code state u a → AreTogether code state w b → AllShow code (IsOfTwo a b) state
AllShow-two code state a b u w u_is w_is u_off w_off u_a w_b x x_is = elim (of_two a b x) [
  | inl first ↦ (u, u_is, u_off, u_a ∙ ap (circle_of (circles_of code state)) (sym first))
  | inr rest ↦ elim rest [
    | inl second ↦ (w, w_is, w_off, w_b ∙ ap (circle_of (circles_of code state)) (sym second))
    | inr off ↦ (x, x_is, off, refl)
  ]
]

-- two states of one code with one bit at each crossing but two: what is on one circle in the first is so in the second, where the
-- smoothings of the two crossings join what is so, the sides moved off
pub alike-onward : (code : Code) (c d a b s t state other : ℕ) → HasArcsTwice code.crossings → DifferAt code c d state other
    → ((place slot : ℕ) → place < length code.crossings → slot < 4 → place ≢ c → place ≢ d
    → IsOfTwo a b (arc_by_place code.crossings place slot) → ⊥)
    → Respects (λ z. circle_of (circles_of code other) (moved_two a b s t z)) (joined_at code.crossings state c)
    → Respects (λ z. circle_of (circles_of code other) (moved_two a b s t z)) (joined_at code.crossings state d)
    → (x y : ℕ) → IsName code x → IsName code y → (IsOfTwo a b x → ⊥) → (IsOfTwo a b y → ⊥)
    → AreTogether code state x y → AreTogether code other x y
alike-onward code c d a b s t state other twice differ apart at_c at_d x y x_is y_is x_off y_off same =
    let f : ℕ → ℕ = λ z. circle_of (circles_of code other) (moved_two a b s t z) in
    sym (ap (circle_of (circles_of code other)) (moved_two-off a b s t x x_off))
    ∙ carried code state f twice
    (λ place below.
    elim (cases_eq place c) [
      | inl is_c ↦ subst (λ (q : ℕ). Respects f (joined_at code.crossings state q)) (sym is_c) at_c
      | inr not_c ↦ elim (cases_eq place d) [
        | inl is_d ↦ subst (λ (q : ℕ). Respects f (joined_at code.crossings state q)) (sym is_d) at_d
        | inr not_d ↦
            smoothing-onto f (circle_of (circles_of code other)) (bit state place) (slots_in code.crossings place)
            (slots_in code.crossings place)
            (λ slot slot_below.
            ap (circle_of (circles_of code other))
            (moved_two-off a b s t (arc_by_place code.crossings place slot) (apart place slot below slot_below not_c not_d)))
            (subst (λ (e : ℕ). Respects (circle_of (circles_of code other)) (smoothing_of e (slots_in code.crossings place)))
            (differ place below not_c not_d) (joined-there code other place twice below))
      ]
    ]) x y (omega (arith, x_is.within)) (omega (arith, y_is.within)) same
    ∙ ap (circle_of (circles_of code other)) (moved_two-off a b s t y y_off)

-- 1 for two names, else 0
abbrev pub mark_two : ℕ → ℕ → ℕ → ℕ
mark_two a b z = one_if (nat_eq z a || nat_eq z b)

pub mark_two-first : (a b : ℕ) → mark_two a b a ≡ 1
mark_two-first a b = ap (λ t. one_if (t || nat_eq a b)) (eq-eqb a a refl)

pub mark_two-second : (a b : ℕ) → mark_two a b b ≡ 1
mark_two-second a b = at (nat_eq b a) (nat_eq b b) (eq-eqb b b refl)
  where
    at : (s t : Bool) → t ≡ true → one_if (s || t) ≡ 1
    at s t is = grind (arith, nat_tests)

pub mark_two-off : (a b z : ℕ) → z ≢ a → z ≢ b → mark_two a b z ≡ 0
mark_two-off a b z not_a not_b = at (nat_eq z a) (nat_eq z b) (ne_eqb z a not_a) (ne_eqb z b not_b)
  where
    at : (s t : Bool) → s ≡ false → t ≡ false → one_if (s || t) ≡ 0
    at s t s_is t_is = grind (arith, nat_tests)
