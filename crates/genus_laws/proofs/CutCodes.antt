-- Behind the first k crossings of an accepted code, the smoothings of a state lead from arcs that do not end there to arcs that do not
-- start there.
--
-- Each arc has a dart of either colour, its end and its start. Cut after the first k crossings, each of them is inside or outside, and an
-- arc with one inside alone is open. A smoothing joins darts of different colours, so at an outer crossing it leads from arcs that end at
-- the crossing to arcs that start there; all outer smoothings together lead from the arcs that end outside to those that start outside.
use Rattle.std.proofs.Common.{◌≡◌, ◌≢◌, ℕ, inl, inr, ◌+◌, ◌*◌, ◌/◌, ◌%◌, ◌<◌, ◌≤◌, ◌∙◌, List, drop, refl, sym, ap, ap₂, subst, length, arith, IsTrue, Bool, true, false, not, ◌&&◌, cond, eq-eqb}
use Rattle.std.specs.Prelude.{nat_eq}
use Rattle.std.proofs.lemmas.Bool.{cases_Bool, cases_eq, eqb-true, and_parts, cases_lt}
use Rattle.kh_types.specs.Bits.{bit}
use Rattle.kh_types.specs.Acceptance.{accepted}
use Rattle.kh_types.specs.Code.{Code, IsArc, arc_count}
use Rattle.kh_types.specs.Classes.{AreBelow, Respects}
use Rattle.kh_types.specs.Colours.{IsColoured}
use Rattle.kh_types.specs.CircleSteps.{arc_at, across}
use Rattle.kh_types.proofs.AcceptedLemmas.{HasArcsTwice-accepted}
use Rattle.kh_types.proofs.RangeCounts.{list_any-at, list_any-one}
use Rattle.kh_types.proofs.JoinedSlots.{smoothings_from, across-across, across-below, across-colour, across-crossing}
use Rattle.kh_types.proofs.CircleCycles.{arc-at_place, one_place, sided, IsSided-sided, arc_or_not, follower, follower-arc, follower-other, follower-place, smoothings-below, AreCycles-circles}
use Rattle.genus_laws.specs.Surfaces.{Lead, other_than}
use Rattle.genus_laws.specs.CutCodes.{colour_at, is_dart_of, is_inside, opens, ends_there, starts_there, outer_smoothings}
use Rattle.genus_laws.proofs.LaterSlots.{all-later, across-later, later-across}

-- whether the dart of a colour is inside

no_both : {P : Type 0} (b : Bool) → b ≡ true → b ≡ false → P
no_both b is other = absurd (false_true (sym other ∙ is))
  where
    false_true : false ≡ true → ⊥
    false_true same = cc same

pub is_inside-at : (crossings : List (List ℕ)) (choice k side name place : ℕ) → place < 4 * k → arc_at crossings place ≡ name
    → colour_at choice place ≡ side → is_inside crossings choice k side name ≡ true
is_inside-at crossings choice k side name place below on is_side =
    list_any-at (is_dart_of crossings choice side name) 0 (4 * k) place (omega arith) (omega (arith, below))
    (ap₂ (λ s t. s && t) (eq-eqb (arc_at crossings place) name on) (eq-eqb (colour_at choice place) side is_side))

pub inside-found : (crossings : List (List ℕ)) (choice k side name : ℕ) → is_inside crossings choice k side name ≡ true
    → (place : ℕ) × (place < 4 * k) × (arc_at crossings place ≡ name) × (colour_at choice place ≡ side)
inside-found crossings choice k side name is =
    let found = list_any-one (is_dart_of crossings choice side name) 0 (4 * k) is in
    let passes = and_parts (nat_eq (arc_at crossings found.0) name) (nat_eq (colour_at choice found.0) side) found.3 in (
      found.0,
      omega (arith, found.2),
      eqb-true (arc_at crossings found.0) name passes.0,
      eqb-true (colour_at choice found.0) side passes.1,
    )

-- the arc of a dart at a crossing still to come after the first k
pub behind-outside : (crossings : List (List ℕ)) (choice k place : ℕ) → IsColoured crossings choice → k ≤ length crossings
    → 4 * k ≤ place → place < 4 * length crossings
    → is_inside crossings choice k (colour_at choice place) (arc_at crossings place) ≡ false
behind-outside crossings choice k place coloured enough from below =
    elim (cases_Bool (is_inside crossings choice k (colour_at choice place) (arc_at crossings place))) [
      | inr outside ↦ outside
      | inl inside ↦
          let found = inside-found crossings choice k (colour_at choice place) (arc_at crossings place) inside in
          let same = one_place crossings choice found.0 place coloured (omega (arith, found.1, enough)) below found.2 found.3 in
          absurd (omega (arith, same, found.1, from))
    ]

-- what is no arc has no dart
no_arc-outside : (crossings : List (List ℕ)) (choice k side name : ℕ) → IsColoured crossings choice → k ≤ length crossings
    → (IsArc crossings name → ⊥) → is_inside crossings choice k side name ≡ false
no_arc-outside crossings choice k side name coloured enough none =
    elim (cases_Bool (is_inside crossings choice k side name)) [
      | inr outside ↦ outside
      | inl inside ↦
          let found = inside-found crossings choice k side name inside in
          absurd (none
          (subst (λ (arc : ℕ). IsArc crossings arc) found.2
          (arc-at_place crossings choice found.0 coloured (omega (arith, found.1, enough)))))
    ]

-- what is known of a code that is cut
record IsCut (code : Code) (choice k side other : ℕ) : Type 0 where
  is : IsTrue (accepted code)
  coloured : IsColoured code.crossings choice
  enough : k ≤ length code.crossings
  sum : side + other ≡ 1

-- the steps outside: an arc whose dart of the colour is inside stays
abbrev outer_step : List (List ℕ) → ℕ → ℕ → ℕ → ℕ → ℕ → ℕ
outer_step crossings choice k state side name =
    cond (is_inside crossings choice k side name) name (follower crossings choice state side name)

step-inside : (crossings : List (List ℕ)) (choice k state side name : ℕ) → is_inside crossings choice k side name ≡ true
    → outer_step crossings choice k state side name ≡ name
step-inside crossings choice k state side name is = ap (λ b. cond b name (follower crossings choice state side name)) is

step-outside : (crossings : List (List ℕ)) (choice k state side name : ℕ) → is_inside crossings choice k side name ≡ false
    → outer_step crossings choice k state side name ≡ follower crossings choice state side name
step-outside crossings choice k state side name is = ap (λ b. cond b name (follower crossings choice state side name)) is

-- an arc whose dart of a colour is outside has that dart at a crossing still to come
record IsBehind (crossings : List (List ℕ)) (choice k side name place : ℕ) : Type 0 where
  from : 4 * k ≤ place
  below : place < 4 * length crossings
  on_arc : arc_at crossings place ≡ name
  has_side : colour_at choice place ≡ side

IsBehind-sided : (code : Code) (choice k side other name : ℕ) → IsCut code choice k side other → IsArc code.crossings name
    → is_inside code.crossings choice k side name ≡ false
    → IsBehind code.crossings choice k side name (sided code.crossings choice side name)
IsBehind-sided code choice k side other name cut arc outside =
    let crossings = code.crossings in
    let place = sided crossings choice side name in
    let there = IsSided-sided crossings choice side name (HasArcsTwice-accepted code cut.is) cut.coloured arc (omega (arith, cut.sum)) in
    record {
      from = elim (cases_lt place (4 * k)) [
        | inr from ↦ from
        | inl before ↦
            no_both (is_inside crossings choice k side name)
            (is_inside-at crossings choice k side name place before there.on_arc there.has_side) outside
      ];
      below = there.below;
      on_arc = there.on_arc;
      has_side = there.has_side;
    }

-- the next arc has its dart of the other colour outside
next-outside : (code : Code) (choice k state side other name : ℕ) → IsCut code choice k side other
    → is_inside code.crossings choice k side name ≡ false
    → is_inside code.crossings choice k other (follower code.crossings choice state side name) ≡ false
next-outside code choice k state side other name cut outside =
    let crossings = code.crossings in
    elim (arc_or_not crossings name) [
      | inr none ↦
          ap (is_inside crossings choice k other) (follower-other crossings choice state side name none.0)
          ∙ no_arc-outside crossings choice k other name cut.coloured cut.enough none.0
      | inl arc ↦
          let place = sided crossings choice side name in
          let behind = IsBehind-sided code choice k side other name cut arc.0 outside in
          let next = across state place in
          let is_other : colour_at choice next ≡ other = across-colour choice state place side other cut.sum behind.has_side in
          ap (is_inside crossings choice k other) (follower-arc crossings choice state side name arc.0)
          ∙ ap (λ s. is_inside crossings choice k s (arc_at crossings next)) (sym is_other)
          ∙ behind-outside crossings choice k next cut.coloured cut.enough
          (omega (arith, across-crossing state place, behind.from)) (across-below (length crossings) state place behind.below)
    ]

-- the steps in the two directions
step-below : (code : Code) (choice k state side other x : ℕ) → IsCut code choice k side other
    → x < arc_count code.crossings + code.loops + 1
    → outer_step code.crossings choice k state side x < arc_count code.crossings + code.loops + 1
step-below code choice k state side other x cut below = elim (cases_Bool (is_inside code.crossings choice k side x)) [
  | inl inside ↦
      subst (λ (z : ℕ). z < arc_count code.crossings + code.loops + 1)
      (sym (step-inside code.crossings choice k state side x inside)) below
  | inr outside ↦
      subst (λ (z : ℕ). z < arc_count code.crossings + code.loops + 1)
      (sym (step-outside code.crossings choice k state side x outside))
      ((AreCycles-circles code choice state side other cut.is cut.coloured cut.sum).below x below)
]

-- an arc that is not open with its dart of the colour inside: the other dart is inside too, where that one is
both-inside : (i o : Bool) → not (i && not o) ≡ true → i ≡ true → o ≡ true
both-inside true true holds inside = refl
both-inside true false holds inside = holds
both-inside false o holds inside = absurd (no inside)
  where
    no : false ≡ true → ⊥
    no same = cc same

not_open : (o i : Bool) → i ≡ true → not (o && not i) ≡ true
not_open true i inside = ap (λ b. not (not b)) inside
not_open false i inside = refl

pub not_open-outside : (o i : Bool) → o ≡ false → not (o && not i) ≡ true
not_open-outside o i outside = ap (λ b. not (b && not i)) outside

step-to : (code : Code) (choice k state side other x : ℕ) → IsCut code choice k side other
    → other_than (opens code.crossings choice k side other) x ≡ true
    → other_than (opens code.crossings choice k other side) (outer_step code.crossings choice k state side x) ≡ true
step-to code choice k state side other x cut from =
    let crossings = code.crossings in
    elim (cases_Bool (is_inside crossings choice k side x)) [
      | inl inside ↦
          ap (other_than (opens crossings choice k other side)) (step-inside crossings choice k state side x inside)
          ∙ not_open (is_inside crossings choice k other x) (is_inside crossings choice k side x) inside
      | inr outside ↦
          let next = follower crossings choice state side x in
          ap (other_than (opens crossings choice k other side)) (step-outside crossings choice k state side x outside)
          ∙ not_open-outside (is_inside crossings choice k other next) (is_inside crossings choice k side next)
          (next-outside code choice k state side other x cut outside)
    ]

step-back : (code : Code) (choice k state side other x : ℕ) → IsCut code choice k side other
    → x < arc_count code.crossings + code.loops + 1 → other_than (opens code.crossings choice k side other) x ≡ true
    → outer_step code.crossings choice k state other (outer_step code.crossings choice k state side x) ≡ x
step-back code choice k state side other x cut below from =
    let crossings = code.crossings in
    elim (cases_Bool (is_inside crossings choice k side x)) [
      | inl inside ↦
          ap (outer_step crossings choice k state other) (step-inside crossings choice k state side x inside)
          ∙ step-inside crossings choice k state other x
          (both-inside (is_inside crossings choice k side x) (is_inside crossings choice k other x) from inside)
      | inr outside ↦
          ap (outer_step crossings choice k state other) (step-outside crossings choice k state side x outside)
          ∙ step-outside crossings choice k state other (follower crossings choice state side x)
          (next-outside code choice k state side other x cut outside)
          ∙ (AreCycles-circles code choice state side other cut.is cut.coloured cut.sum).back_f x below
    ]

-- the smoothings of the crossings still to come join what the steps do
step-joins : (code : Code) (choice k state side other : ℕ) (g : ℕ → ℕ) → IsCut code choice k side other
    → Respects g (outer_smoothings code.crossings state k) → (x : ℕ)
    → g x ≡ g (outer_step code.crossings choice k state side x)
step-joins code choice k state side other g cut respects x =
    let crossings = code.crossings in
    elim (cases_Bool (is_inside crossings choice k side x)) [
      | inl inside ↦ ap g (sym (step-inside crossings choice k state side x inside))
      | inr outside ↦ elim (arc_or_not crossings x) [
        | inr none ↦
            ap g (sym (step-outside crossings choice k state side x outside ∙ follower-other crossings choice state side x none.0))
        | inl arc ↦
            let place = sided crossings choice side x in
            let behind = IsBehind-sided code choice k side other x cut arc.0 outside in
            ap g (sym behind.on_arc) ∙ sym (across-later g crossings state k respects place behind.from behind.below)
            ∙ ap g (sym (step-outside crossings choice k state side x outside ∙ follower-arc crossings choice state side x arc.0))
      ]
    ]

step-only : (code : Code) (choice k state side other : ℕ) (g : ℕ → ℕ) → IsCut code choice k side other
    → ((x : ℕ) → x < arc_count code.crossings + code.loops + 1 → other_than (opens code.crossings choice k side other) x ≡ true
    → g x ≡ g (outer_step code.crossings choice k state side x))
    → Respects g (outer_smoothings code.crossings state k)
step-only code choice k state side other g cut keeps =
    let crossings = code.crossings in
    let twice = HasArcsTwice-accepted code cut.is in
    let side_below : side < 2 = omega (arith, cut.sum) in
    let at : (place : ℕ) → 4 * k ≤ place → place < 4 * length crossings → colour_at choice place ≡ side
    → g (arc_at crossings place) ≡ g (arc_at crossings (across state place)) =
    λ place from below is_side.
    let x = arc_at crossings place in
    let outside : is_inside crossings choice k side x ≡ false =
    ap (λ s. is_inside crossings choice k s x) (sym is_side) ∙ behind-outside crossings choice k place cut.coloured cut.enough from below in
    let arc = arc-at_place crossings choice place cut.coloured below in
    keeps x (omega (arith, arc.within))
    (not_open-outside (is_inside crossings choice k side x) (is_inside crossings choice k other x) outside)
    ∙ ap g (step-outside crossings choice k state side x outside
    ∙ follower-place crossings choice state side place twice cut.coloured side_below below is_side) in
    later-across g crossings state k
    (λ place from below.
    elim (cases_eq (colour_at choice place) side) [
      | inl is_side ↦ sym (at place from below is_side)
      | inr differs ↦
          let next = across state place in
          let is_other : colour_at choice place ≡ other = the_other (bit choice (place / 4) + place % 4) side other cut.sum differs in
          at next (omega (arith, across-crossing state place, from)) (across-below (length crossings) state place below)
          (across-colour choice state place other side (omega (arith, cut.sum)) is_other)
          ∙ ap (λ p. g (arc_at crossings p)) (across-across state place)
    ])
  where
    the_other : (x side other : ℕ) → side + other ≡ 1 → x % 2 ≢ side → x % 2 ≡ other
    the_other x side other sum differs = let small : x % 2 < 2 = omega arith in grind (arith, sum)

pub Lead-outside : (code : Code) (choice k state : ℕ) → IsTrue (accepted code) → IsColoured code.crossings choice
    → k ≤ length code.crossings
    → Lead (arc_count code.crossings + code.loops + 1) (other_than (ends_there code.crossings choice k))
    (other_than (starts_there code.crossings choice k)) (outer_smoothings code.crossings state k)
Lead-outside code choice k state is coloured enough =
    let crossings = code.crossings in
    let n = arc_count crossings + code.loops + 1 in
    let onward : IsCut code choice k 1 0 = record { is = is; coloured = coloured; enough = enough; sum = refl } in
    let backward : IsCut code choice k 0 1 = record { is = is; coloured = coloured; enough = enough; sum = refl } in
    record {
      next = outer_step crossings choice k state 1;
      back = outer_step crossings choice k state 0;
      below = subst (λ (p : ℕ). AreBelow n (smoothings_from state p (drop k crossings))) (omega arith)
          (all-later (λ (pair : ℕ × ℕ). (pair.0 < n) × (pair.1 < n)) state 0 k crossings (smoothings-below code state is));
      next_below = λ x below from. step-below code choice k state 1 0 x onward below;
      next_to = λ x below from. step-to code choice k state 1 0 x onward from;
      back_below = λ y below to. step-below code choice k state 0 1 y backward below;
      back_from = λ y below to. step-to code choice k state 0 1 y backward to;
      back_next = λ x below from. step-back code choice k state 1 0 x onward below from;
      next_back = λ y below to. step-back code choice k state 0 1 y backward below to;
      joins = λ g respects x below from. step-joins code choice k state 1 0 g onward respects x;
      only = λ g keeps. step-only code choice k state 1 0 g onward keeps;
    }

-- no arc is open at both
pub ends-starts : (crossings : List (List ℕ)) (choice k x : ℕ) → ends_there crossings choice k x ≡ true
    → starts_there crossings choice k x ≡ false
ends-starts crossings choice k x is = not_both_open (is_inside crossings choice k 1 x) (is_inside crossings choice k 0 x) is
  where
    not_both_open : (e s : Bool) → (e && not s) ≡ true → (s && not e) ≡ false
    not_both_open true true is = refl
    not_both_open true false is = refl
    not_both_open false true is = absurd (no is)
      where
        no : false ≡ true → ⊥
        no same = cc same
    not_both_open false false is = refl

pub starts-ends : (crossings : List (List ℕ)) (choice k x : ℕ) → starts_there crossings choice k x ≡ true
    → ends_there crossings choice k x ≡ false
starts-ends crossings choice k x is = elim (cases_Bool (ends_there crossings choice k x)) [
  | inr other ↦ other
  | inl end ↦ no_both (starts_there crossings choice k x) is (ends-starts crossings choice k x end)
]
