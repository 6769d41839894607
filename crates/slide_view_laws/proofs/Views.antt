-- The views of both codes of a slide.
use Rattle.std.proofs.lemmas.Bool.Decides.{nat_tests}
use Rattle.std.proofs.Common.{◌≡◌, ◌≢◌, ℕ, zero, suc, ◌⊎◌, inl, inr, ◌+◌, ◌*◌, ◌/◌, ◌%◌, ◌<◌, ◌≤◌, ◌∙◌, List, refl, sym, ap, subst, arith, true, not, ◌||◌}
use Rattle.std.specs.Prelude.{nat_eq}
use Rattle.std.specs.List.{Contains}
use Rattle.std.proofs.lemmas.Bool.{cases_eq}
use Rattle.std.proofs.lemmas.Nat.Bits.{bit_at-suc, bit_at_lowest}
use Rattle.kh_types.specs.Bits.{bit}
use Rattle.kh_types.specs.Code.{Code, arcs_and_loops, arc_count}
use Rattle.kh_types.specs.CircleNumbers.{IsName}
use Rattle.kh_types.proofs.Lists.{Contains-filter, range-within, within-range}
use Rattle.kh_types.proofs.Tests.{nat_eq-iff}
use Rattle.cell_laws.proofs.Members.{Contains-kept}
use Rattle.cell_laws.proofs.NoDoubles.{once-range, once-filter}
use Rattle.gluing_laws.specs.Codes.{name_count}
use Rattle.gluing_laws.specs.Slides.{IsPlacedTriangle, IsNoSide}
use Rattle.gluing_laws.proofs.InsideCircles.{side_is}
use Rattle.view_laws.specs.Views.{IsView, SeeAlike, circle_at, AreTogether}
use Rattle.slide_view_laws.specs.Together.{IsSeen, AreJoinedAlike}
use Rattle.slide_view_laws.specs.Triangles.{IsStateAt, SidesClose, SidesShow}
use Rattle.slide_view_laws.specs.SlideViews.{is_side, names_but_sides, slide_view}
use Rattle.slide_view_laws.proofs.SeenCircles.{HasClosing, SidesClose-code, SidesShow-code}
use Rattle.view_laws.proofs.ClosedOne.{closed-is, closed-there, closed-few}

-- sides

no_side-test : (arcs : ℕ → ℕ) (x : ℕ) → IsNoSide arcs x → not (is_side arcs x) ≡ true
no_side-test arcs x out = three x (arcs 7) (arcs 8) (arcs 9) (out 7 (omega arith) (omega arith)) (out 8 (omega arith) (omega arith))
    (out 9 (omega arith) (omega arith))
  where
    three : (x a b c : ℕ) → x ≢ a → x ≢ b → x ≢ c → not (nat_eq x a || (nat_eq x b || nat_eq x c)) ≡ true
    three x a b c not_a not_b not_c = grind (arith, nat_tests)

test-no_side : (arcs : ℕ → ℕ) (x : ℕ) → not (is_side arcs x) ≡ true → IsNoSide arcs x
test-no_side arcs x passes side from below =
    let apart = three x (arcs 7) (arcs 8) (arcs 9) passes in
    elim (side_is side from below) [
      | inl is ↦ λ same. apart.0 (same ∙ ap arcs is)
      | inr other ↦ elim other [
        | inl is ↦ λ same. apart.1 (same ∙ ap arcs is)
        | inr is ↦ λ same. apart.2 (same ∙ ap arcs is)
      ]
    ]
  where
    three : (x a b c : ℕ) → not (nat_eq x a || (nat_eq x b || nat_eq x c)) ≡ true → (x ≢ a) × (x ≢ b) × (x ≢ c)
    three x a b c passes = grind (arith, nat_tests)

no_side_or_side : (arcs : ℕ → ℕ) (x : ℕ) → (IsNoSide arcs x) ⊎ ((side : ℕ) × (7 ≤ side) × (side < 10) × (x ≡ arcs side))
no_side_or_side arcs x = elim (cases_eq x (arcs 7)) [
  | inl is ↦ inr (7, omega arith, omega arith, is)
  | inr not_7 ↦ elim (cases_eq x (arcs 8)) [
    | inl is ↦ inr (8, omega arith, omega arith, is)
    | inr not_8 ↦ elim (cases_eq x (arcs 9)) [
      | inl is ↦ inr (9, omega arith, omega arith, is)
      | inr not_9 ↦ inl (λ side from below same. elim (side_is side from below) [
        | inl is ↦ not_7 (same ∙ ap arcs is)
        | inr other ↦ elim other [
          | inl is ↦ not_8 (same ∙ ap arcs is)
          | inr is ↦ not_9 (same ∙ ap arcs is)
        ]
      ])
    ]
  ]
]

-- names

name-seen : (code : Code) (arcs : ℕ → ℕ) (x : ℕ) → Contains (names_but_sides code arcs) x → IsName code x × IsSeen code arcs x
name-seen code arcs x has =
    let kept = Contains-kept (λ z. not (is_side arcs z)) (arcs_and_loops code) x has in
    let within = range-within 1 (arc_count code.crossings + code.loops) x kept.0 in (
      record { positive = within.above; within = omega (arith, within.below) },
      record { below = omega (arith, within.below); no_side = test-no_side arcs x kept.1 },
    )

seen-name : (code : Code) (arcs : ℕ → ℕ) (x : ℕ) → IsName code x → IsNoSide arcs x → Contains (names_but_sides code arcs) x
seen-name code arcs x is out =
    Contains-filter (λ z. not (is_side arcs z)) (arcs_and_loops code) x (no_side-test arcs x out)
    (within-range 1 (arc_count code.crossings + code.loops) x is.positive (omega (arith, is.within)))

-- the states of the first three crossings

bits-high : (inner outside k : ℕ) → inner < 8 → bit (inner + 8 * outside) (suc (suc (suc k))) ≡ bit outside k
bits-high inner outside k below =
    let s = inner + 8 * outside in
    let e : (inner + 8 * outside) / 2 / 2 / 2 ≡ outside = omega (arith, below) in
    bit_at-suc s (suc (suc k)) ∙ bit_at-suc (s / 2) (suc k) ∙ bit_at-suc (s / 2 / 2) k ∙ ap (λ z. bit z k) e

bit-1 : (s : ℕ) → bit s 1 ≡ s / 2 % 2
bit-1 s = bit_at-suc s 0 ∙ bit_at_lowest (s / 2)

bit-2 : (s : ℕ) → bit s 2 ≡ s / 2 / 2 % 2
bit-2 s = bit_at-suc s 1 ∙ bit-1 (s / 2)

pub IsStateAt-first : (inner outside : ℕ) → inner < 8 → IsStateAt 3 0 1 2 (8 * outside) (inner + 8 * outside) inner
IsStateAt-first inner outside below =
    let s = inner + 8 * outside in
    let base = 8 * outside in
    let low : (inner + 8 * outside) % 2 ≡ inner % 2 = omega (arith, below) in
    let next : (inner + 8 * outside) / 2 % 2 ≡ inner / 2 % 2 = omega (arith, below) in
    let last : (inner + 8 * outside) / 2 / 2 % 2 ≡ inner / 2 / 2 % 2 = omega (arith, below) in
    let s_0 = bit_at_lowest s ∙ low ∙ sym (bit_at_lowest inner) in
    let s_1 = bit-1 s ∙ next ∙ sym (bit-1 inner) in
    let s_2 = bit-2 s ∙ last ∙ sym (bit-2 inner) in
    let base_0 : bit (8 * outside) 0 ≡ 0 = bit_at_lowest base ∙ omega arith in
    let base_1 : bit (8 * outside) 1 ≡ 0 = bit-1 base ∙ omega arith in
    let base_2 : bit (8 * outside) 2 ≡ 0 = bit-2 base ∙ omega arith in
    record {
      others = high;
      at_c = s_0;
      at_d = s_1;
      at_e = s_2;
      ones = omega (arith, s_0, s_1, s_2, base_0, base_1, base_2);
    }
  where
    high : (k : ℕ) → k ≢ 0 → k ≢ 1 → k ≢ 2 → bit (inner + 8 * outside) k ≡ bit (8 * outside) k
    high zero not_0 not_1 not_2 = absurd (not_0 refl)
    high (suc zero) not_0 not_1 not_2 = absurd (not_1 refl)
    high (suc (suc zero)) not_0 not_1 not_2 = absurd (not_2 refl)
    high (suc (suc (suc k))) not_0 not_1 not_2 =
        let zero_plus : 8 * outside ≡ 0 + 8 * outside = omega arith in
        bits-high inner outside k below ∙ sym (ap (λ z. bit z (suc (suc (suc k)))) zero_plus ∙ bits-high 0 outside k (omega arith))

state-whole : (state : ℕ) → state % 8 + 8 * (state / 8) ≡ state
state-whole state = omega arith

-- a code whose triangle stands at its first three crossings
module _ (code : Code) (t0 t1 t2 : List ℕ) (arcs : ℕ → ℕ) (closed : ℕ) (has : HasClosing code t0 t1 t2 arcs 0 1 2 closed)
    (ends : (i : ℕ) → 1 ≤ i → i < 7 → 1 ≤ arcs i) where
  placed : IsPlacedTriangle (name_count code) arcs
  placed = has.triangle.placed

  at_state : (state : ℕ) → IsStateAt 3 0 1 2 (8 * (state / 8)) state (state % 8)
  at_state state =
      subst (λ (s : ℕ). IsStateAt 3 0 1 2 (8 * (state / 8)) s (state % 8)) (state-whole state)
      (IsStateAt-first (state % 8) (state / 8) (omega arith))

  closes-at : (state : ℕ) → state % 8 ≡ closed → SidesClose code arcs state
  closes-at state is =
      SidesClose-code code t0 t1 t2 arcs 3 0 1 2 closed has (8 * (state / 8)) state (state % 8) (omega arith) (at_state state) is

  shows-at : (state : ℕ) → state % 8 ≢ closed → SidesShow code arcs state
  shows-at state differs =
      SidesShow-code code t0 t1 t2 arcs 3 0 1 2 closed has (8 * (state / 8)) state (state % 8) (omega arith) (at_state state) differs

  side-together : (state : ℕ) → SidesClose code arcs state → (side : ℕ) → 7 ≤ side → side < 10 → AreTogether code state (arcs 7) (arcs side)
  side-together state closes side from below = elim (side_is side from below) [
    | inl is ↦ ap (λ k. circle_at code state (arcs k)) (sym is)
    | inr other ↦ elim other [
      | inl is ↦ sym closes.second ∙ ap (λ k. circle_at code state (arcs k)) (sym is)
      | inr is ↦ sym closes.third ∙ ap (λ k. circle_at code state (arcs k)) (sym is)
    ]
  ]

  end-name : (i : ℕ) → 1 ≤ i → i < 7 → Contains (names_but_sides code arcs) (arcs i)
  end-name i from below =
      seen-name code arcs (arcs i)
      (record { positive = ends i from below; within = omega (arith, placed.below i (omega (arith, below))) })
      (λ side side_from side_below. placed.apart i side (omega (arith, below, side_from)) side_from side_below)

  side-name : IsName code (arcs 7)
  side-name =
      record {
        positive = positive (arcs 7) (λ is. placed.apart 0 7 (omega arith) (omega arith) (omega arith) (placed.zero_kept ∙ sym is));
        within = omega (arith, placed.below 7 (omega arith));
      }
    where
      positive : (x : ℕ) → x ≢ 0 → 1 ≤ x
      positive x some = grind (arith, some)

  pub IsView-triangle : IsView code (slide_view code arcs closed)
  IsView-triangle = record {
    fits = has.e_below;
    once = once-filter (λ x. not (is_side arcs x)) (arcs_and_loops code) (once-range 1 (arc_count code.crossings + code.loops));
    arcs = λ x has_x. (name-seen code arcs x has_x).0;
    closed_arcs = λ inner z below has_z.
        subst (λ (k : ℕ). IsName code k) (sym (closed-is (arcs 7) closed inner z has_z).1) side-name;
    few = λ inner below. closed-few (arcs 7) closed inner;
    shows = λ state arc below is_name. elim (no_side_or_side arcs arc) [
      | inl out ↦ inl (arc, seen-name code arcs arc is_name out, refl)
      | inr (side, from, side_below, is) ↦ elim (cases_eq (state % 8) closed) [
        | inl closes ↦ inr (
          arcs 7,
          closed-there (arcs 7) closed (state % 8) closes,
          side-together state (closes-at state closes) side from side_below ∙ ap (circle_at code state) (sym is),
        )
        | inr differs ↦
            let shows = shows-at state differs in
            inl (
              arcs (shows.end side),
              end-name (shows.end side) (shows.first_end side from side_below) (shows.last_end side from side_below),
              sym (shows.together side from side_below) ∙ ap (circle_at code state) (sym is),
            )
      ]
    ];
    apart = λ state z x below has_z has_x same.
        let at = closed-is (arcs 7) closed (state % 8) z has_z in
        (closes-at state at.0).alone x (name-seen code arcs x has_x).1 (sym same ∙ ap (circle_at code state) at.1);
  }

-- states that are seen alike
pub SeeAlike-seen : (first second : Code) (arcs : ℕ → ℕ) (closed other_closed state other : ℕ)
    → AreJoinedAlike arcs first state second other
    → SeeAlike first (slide_view first arcs closed) state second (slide_view second arcs other_closed) other
SeeAlike-seen first second arcs closed other_closed state other alike x y has_x has_y =
    let x_seen = (name-seen first arcs x has_x).1 in
    let y_seen = (name-seen first arcs y has_y).1 in
    nat_eq-iff (circle_at first state x) (circle_at first state y) (circle_at second other x) (circle_at second other y)
    (alike.onward x y x_seen y_seen) (alike.back x y x_seen y_seen)
