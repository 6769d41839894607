-- One crossing more: a pairing of the open points and what a smoothing of the crossing joins make a pairing of the new open points.
--
-- The pairing of the open points leads from starts to ends. A smoothing of the next crossing closes some of these points and opens others,
-- and what it joins leads the same way (CutTests counts the cases). Paths of both that go from new open point to new open point are a
-- pairing again (Paths), and the circles that are left are closed.
use Rattle.std.proofs.Common.{◌≡◌, ◌≢◌, ℕ, zero, suc, ◌⊎◌, inl, inr, ◌+◌, ◌*◌, ◌/◌, ◌%◌, ◌<◌, ◌≤◌, ◌∙◌, List, [], ◌++◌, refl, sym, ap, ap₂, subst, length, arith, Bool, true, false, not, ◌&&◌, ◌||◌, cond, eq-eqb}
use Rattle.std.specs.Prelude.{nat_eq, slice_index_or}
use Rattle.std.specs.List.{fold, range_with_len}
use Rattle.std.proofs.Math.Path.{fun_ext}
use Rattle.std.proofs.lemmas.Bool.{eqb-true, or_cases, or_left, or_right, cases_lt}
use Rattle.std.proofs.lemmas.List.Sums.{fold-append}
use Rattle.kh_types.specs.Bits.{bit}
use Rattle.kh_types.specs.Code.{Code, arc_in, arc_count}
use Rattle.kh_types.specs.Classes.{classes_of, joined}
use Rattle.kh_types.specs.Circles.{smoothing_of}
use Rattle.kh_types.specs.Colours.{IsColoured}
use Rattle.kh_types.specs.CircleSteps.{arc_at}
use Rattle.kh_types.proofs.ClassLemmas.{length-joined}
use Rattle.kh_types.proofs.JoinedClasses.{joined-swapped, IsNamed-classes_of}
use Rattle.kh_types.proofs.JoinedSlots.{arc_at-slot, pairs_by}
use Rattle.kh_types.proofs.CircleCycles.{arc-at_place, one_place}
use Rattle.kh_types.proofs.RangeCounts.{but}
use Rattle.kh_types.proofs.BitLemmas.{bit-cases}
use Rattle.genus_laws.specs.Surfaces.{Lead, other_than, ends_or_starts}
use Rattle.genus_laws.specs.CutCodes.{colour_at, is_inside, opens, ends_there, starts_there}
use Rattle.genus_laws.specs.Pairings.{JoinOpen}
use Rattle.genus_laws.proofs.Paths.{ArePaths, ArePaths-joined, ArePaths-lead, Lead-turned, Lead-paths, but-passes, only_one}
use Rattle.genus_laws.proofs.CutCodes.{is_inside-at, inside-found, behind-outside, not_open-outside, ends-starts, starts-ends}
use Rattle.kh_types.proofs.Tests.{agree}

-- paths in both directions
record HavePaths (n : ℕ) (classes : List ℕ) (free other : ℕ → Bool) : Type 0 where
  size : length classes ≡ n
  onward : ArePaths n classes free other
  back : ArePaths n classes other free

-- a pair, or the same turned round
abbrev turned_pair : Bool → ℕ → ℕ → ℕ × ℕ
turned_pair true a b = (b, a)
turned_pair false a b = (a, b)

HavePaths-pair : (n : ℕ) (classes : List ℕ) (free other : ℕ → Bool) (a b : ℕ) → a < n → b < n → free a ≡ true → other b ≡ true
    → HavePaths n classes free other → HavePaths n (joined classes (a, b)) (but free a) (but other b)
HavePaths-pair n classes free other a b a_below b_below a_free b_free have = record {
  size = length-joined classes (a, b) ∙ have.size;
  onward = ArePaths-joined n classes free other a b have.size a_below b_below a_free have.onward;
  back = subst (λ (cs : List ℕ). ArePaths n cs (but other b) (but free a)) (joined-swapped classes a b)
      (ArePaths-joined n classes other free b a have.size b_below a_below b_free have.back);
}

HavePaths-joined : (turned : Bool) (n : ℕ) (classes : List ℕ) (free other : ℕ → Bool) (a b : ℕ) → a < n → b < n → free a ≡ true
    → other b ≡ true → HavePaths n classes free other
    → HavePaths n (joined classes (turned_pair turned a b)) (but free a) (but other b)
HavePaths-joined false n classes free other a b a_below b_below a_free b_free have =
    HavePaths-pair n classes free other a b a_below b_below a_free b_free have
HavePaths-joined true n classes free other a b a_below b_below a_free b_free have =
    subst (λ (cs : List ℕ). HavePaths n cs (but free a) (but other b)) (sym (joined-swapped classes a b))
    (HavePaths-pair n classes free other a b a_below b_below a_free b_free have)

-- the two darts of one colour at the crossing that comes after the first k
pub record IsPairAt (choice k side u v : ℕ) : Type 0 where
  pub u_from : 4 * k ≤ u
  pub u_below : u < 4 * (k + 1)
  pub u_side : colour_at choice u ≡ side
  pub v_from : 4 * k ≤ v
  pub v_below : v < 4 * (k + 1)
  pub v_side : colour_at choice v ≡ side
  pub apart : u ≢ v
  pub only : (p : ℕ) → 4 * k ≤ p → p < 4 * (k + 1) → colour_at choice p ≡ side → (p ≡ u) ⊎ (p ≡ v)

pub IsPairAt-turned : (choice k side u v : ℕ) → IsPairAt choice k side u v → IsPairAt choice k side v u
IsPairAt-turned choice k side u v is = record {
  u_from = is.v_from;
  u_below = is.v_below;
  u_side = is.v_side;
  v_from = is.u_from;
  v_below = is.u_below;
  v_side = is.u_side;
  apart = λ same. is.apart (sym same);
  only = λ p from below is_side. elim (is.only p from below is_side) [ inl first ↦ inr first | inr second ↦ inl second ];
}

colour-slot : (choice k slot : ℕ) → slot < 4 → colour_at choice (4 * k + slot) ≡ (bit choice k + slot) % 2
colour-slot choice k slot below =
    let here : (4 * k + slot) / 4 ≡ k = omega (arith, below) in
    let there : (4 * k + slot) % 4 ≡ slot = omega (arith, below) in
    ap (λ c. (bit choice c + (4 * k + slot) % 4) % 2) here ∙ ap (λ s. (bit choice k + s) % 2) there

pub IsPairAt-slots : (choice k side d : ℕ) → d < 2 → (bit choice k + d) % 2 ≡ side → IsPairAt choice k side (4 * k + d) (4 * k + (d + 2))
IsPairAt-slots choice k side d d_below is = record {
  u_from = omega arith;
  u_below = omega (arith, d_below);
  u_side = colour-slot choice k d (omega (arith, d_below)) ∙ is;
  v_from = omega arith;
  v_below = omega (arith, d_below);
  v_side = colour-slot choice k (d + 2) (omega (arith, d_below)) ∙ later (bit choice k) d ∙ is;
  apart = λ same. absurd (omega (arith, same));
  only = λ p from below is_side.
      let slot = p % 4 in
      let slot_below : slot < 4 = omega arith in
      let whole : p ≡ 4 * k + slot = omega (arith, from, below) in
      elim (same_parity (bit choice k) slot d slot_below d_below
      (sym (colour-slot choice k slot slot_below) ∙ ap (colour_at choice) (sym whole) ∙ is_side ∙ sym is)) [
        | inl first ↦ inl (whole ∙ ap (λ s. 4 * k + s) first)
        | inr second ↦ inr (whole ∙ ap (λ s. 4 * k + s) second)
      ];
}
  where
    later : (b d : ℕ) → (b + (d + 2)) % 2 ≡ (b + d) % 2
    later b d = omega arith

    same_parity : (b s d : ℕ) → s < 4 → d < 2 → (b + s) % 2 ≡ (b + d) % 2 → (s ≡ d) ⊎ (s ≡ d + 2)
    same_parity b zero zero s_below d_below same = inl refl
    same_parity b (suc zero) zero s_below d_below same = absurd (omega (arith, same))
    same_parity b (suc (suc zero)) zero s_below d_below same = inr refl
    same_parity b (suc (suc (suc zero))) zero s_below d_below same = absurd (omega (arith, same))
    same_parity b (suc (suc (suc (suc s)))) zero s_below d_below same = absurd (omega (arith, s_below))
    same_parity b zero (suc zero) s_below d_below same = absurd (omega (arith, same))
    same_parity b (suc zero) (suc zero) s_below d_below same = inl refl
    same_parity b (suc (suc zero)) (suc zero) s_below d_below same = absurd (omega (arith, same))
    same_parity b (suc (suc (suc zero))) (suc zero) s_below d_below same = inr refl
    same_parity b (suc (suc (suc (suc s)))) (suc zero) s_below d_below same = absurd (omega (arith, s_below))
    same_parity b s (suc (suc d)) s_below d_below same = absurd (omega (arith, d_below))

-- what is known of the crossing
pub record IsNext (code : Code) (choice k : ℕ) : Type 0 where
  pub coloured : IsColoured code.crossings choice
  pub within : k < length code.crossings

-- an arc of a dart of the crossing has that dart outside
pub pair-outside : (code : Code) (choice k side u v : ℕ) → IsNext code choice k → IsPairAt choice k side u v
    → is_inside code.crossings choice k side (arc_at code.crossings u) ≡ false
pair-outside code choice k side u v next is =
    ap (λ s. is_inside code.crossings choice k s (arc_at code.crossings u)) (sym is.u_side)
    ∙ behind-outside code.crossings choice k u next.coloured (omega (arith, next.within)) is.u_from
    (omega (arith, is.u_below, next.within))

pub pair-apart : (code : Code) (choice k side u v : ℕ) → IsNext code choice k → IsPairAt choice k side u v
    → arc_at code.crossings v ≢ arc_at code.crossings u
pair-apart code choice k side u v next is same =
    is.apart
    (sym (one_place code.crossings choice v u next.coloured (omega (arith, is.v_below, next.within))
    (omega (arith, is.u_below, next.within)) same (is.v_side ∙ sym is.u_side)))

pub pair-below : (code : Code) (choice k side u v : ℕ) → IsNext code choice k → IsPairAt choice k side u v
    → arc_at code.crossings u < arc_count code.crossings + code.loops + 1
pair-below code choice k side u v next is =
    let arc = arc-at_place code.crossings choice u next.coloured (omega (arith, is.u_below, next.within)) in
    omega (arith, arc.within)

-- the two pairs of a smoothing
HavePaths-two : (first second : Bool) (code : Code) (choice k u v r t : ℕ) (classes : List ℕ) → IsNext code choice k
    → IsPairAt choice k 1 u v → IsPairAt choice k 0 r t
    → HavePaths (arc_count code.crossings + code.loops + 1) classes (other_than (ends_there code.crossings choice k))
    (other_than (starts_there code.crossings choice k))
    → HavePaths (arc_count code.crossings + code.loops + 1)
    (joined (joined classes (turned_pair first (arc_at code.crossings u) (arc_at code.crossings r)))
    (turned_pair second (arc_at code.crossings v) (arc_at code.crossings t)))
    (but (but (other_than (ends_there code.crossings choice k)) (arc_at code.crossings u)) (arc_at code.crossings v))
    (but (but (other_than (starts_there code.crossings choice k)) (arc_at code.crossings r)) (arc_at code.crossings t))
HavePaths-two first second code choice k u v r t classes next ends starts have =
    let crossings = code.crossings in
    let n = arc_count crossings + code.loops + 1 in
    let a = arc_at crossings u in
    let a_too = arc_at crossings v in
    let b = arc_at crossings r in
    let b_too = arc_at crossings t in
    let free = other_than (ends_there crossings choice k) in
    let other = other_than (starts_there crossings choice k) in
    let ends_turned = IsPairAt-turned choice k 1 u v ends in
    let starts_turned = IsPairAt-turned choice k 0 r t starts in
    let free_at : (x : ℕ) → is_inside crossings choice k 1 x ≡ false → free x ≡ true =
    λ x outside. not_open-outside (is_inside crossings choice k 1 x) (is_inside crossings choice k 0 x) outside in
    let other_at : (x : ℕ) → is_inside crossings choice k 0 x ≡ false → other x ≡ true =
    λ x outside. not_open-outside (is_inside crossings choice k 0 x) (is_inside crossings choice k 1 x) outside in
    HavePaths-joined second n (joined classes (turned_pair first a b)) (but free a) (but other b) a_too b_too
    (pair-below code choice k 1 v u next ends_turned) (pair-below code choice k 0 t r next starts_turned)
    (but-passes (free a_too) a_too a (free_at a_too (pair-outside code choice k 1 v u next ends_turned))
    (pair-apart code choice k 1 u v next ends))
    (but-passes (other b_too) b_too b (other_at b_too (pair-outside code choice k 0 t r next starts_turned))
    (pair-apart code choice k 0 r t next starts))
    (HavePaths-joined first n classes free other a b (pair-below code choice k 1 u v next ends) (pair-below code choice k 0 r t next starts)
    (free_at a (pair-outside code choice k 1 u v next ends)) (other_at b (pair-outside code choice k 0 r t next starts)) have)

pub inside-more : (code : Code) (choice k side u v x : ℕ) → IsNext code choice k → IsPairAt choice k side u v
    → is_inside code.crossings choice (k + 1) side x
    ≡ (is_inside code.crossings choice k side x || (nat_eq x (arc_at code.crossings u) || nat_eq x (arc_at code.crossings v)))
inside-more code choice k side u v x next is =
    let crossings = code.crossings in
    let old = is_inside crossings choice k side x in
    let at_u = nat_eq x (arc_at crossings u) in
    let at_v = nat_eq x (arc_at crossings v) in
    agree (is_inside crossings choice (k + 1) side x) (old || (at_u || at_v))
    (λ inside.
    let found = inside-found crossings choice (k + 1) side x inside in
    elim (cases_lt found.0 (4 * k)) [
      | inl before ↦ or_left old (at_u || at_v) (is_inside-at crossings choice k side x found.0 before found.2 found.3)
      | inr from ↦
          or_right old (at_u || at_v)
          (elim (is.only found.0 from found.1 found.3) [
            | inl first ↦
                or_left at_u at_v (eq-eqb x (arc_at crossings u) (sym found.2 ∙ ap (arc_at crossings) first))
            | inr second ↦
                or_right at_u at_v (eq-eqb x (arc_at crossings v) (sym found.2 ∙ ap (arc_at crossings) second))
          ])
    ])
    (λ either. elim (or_cases old (at_u || at_v) either) [
      | inl inside ↦
          let found = inside-found crossings choice k side x inside in
          is_inside-at crossings choice (k + 1) side x found.0 (omega (arith, found.1)) found.2 found.3
      | inr new ↦ elim (or_cases at_u at_v new) [
        | inl first ↦
            is_inside-at crossings choice (k + 1) side x u is.u_below (sym (eqb-true x (arc_at crossings u) first)) is.u_side
        | inr second ↦
            is_inside-at crossings choice (k + 1) side x v is.v_below (sym (eqb-true x (arc_at crossings v) second)) is.v_side
      ]
    ])

pub new-outside : (code : Code) (choice k side u v x : ℕ) → IsNext code choice k → IsPairAt choice k side u v
    → (nat_eq x (arc_at code.crossings u) || nat_eq x (arc_at code.crossings v)) ≡ true
    → is_inside code.crossings choice k side x ≡ false
new-outside code choice k side u v x next is new =
    let crossings = code.crossings in
    elim (or_cases (nat_eq x (arc_at crossings u)) (nat_eq x (arc_at crossings v)) new) [
      | inl first ↦
          ap (is_inside crossings choice k side) (eqb-true x (arc_at crossings u) first) ∙ pair-outside code choice k side u v next is
      | inr second ↦
          ap (is_inside crossings choice k side) (eqb-true x (arc_at crossings v) second)
          ∙ pair-outside code choice k side v u next (IsPairAt-turned choice k side u v is)
    ]

-- so what is open then: by its end or start that is inside before, or new
two_buts : (p s t : Bool) → ((p && not s) && not t) ≡ (p && not (s || t))
two_buts false s t = refl
two_buts true true t = refl
two_buts true false t = refl

opened : (i o a b : Bool) → (a ≡ true → i ≡ false) → (b ≡ true → o ≡ false)
    → ((i || a) && not (o || b)) ≡ ((not (o && not i) && not b) && not (not (i && not o) && not a))
opened true o true b in_a out_b = absurd (no (in_a refl))
  where
    no : true ≡ false → ⊥
    no same = cc same
opened i true a true in_a out_b = absurd (no (out_b refl))
  where
    no : true ≡ false → ⊥
    no same = cc same
opened true true false false in_a out_b = refl
opened true false false false in_a out_b = refl
opened true false false true in_a out_b = refl
opened false true false false in_a out_b = refl
opened false true true false in_a out_b = refl
opened false false false false in_a out_b = refl
opened false false false true in_a out_b = refl
opened false false true false in_a out_b = refl
opened false false true true in_a out_b = refl

opens-more : (code : Code) (choice k side other u v r t x : ℕ) → IsNext code choice k → IsPairAt choice k side u v
    → IsPairAt choice k other r t
    → opens code.crossings choice (k + 1) side other x
    ≡ only_one (but (but (other_than (opens code.crossings choice k other side)) (arc_at code.crossings r)) (arc_at code.crossings t))
    (but (but (other_than (opens code.crossings choice k side other)) (arc_at code.crossings u)) (arc_at code.crossings v)) x
opens-more code choice k side other u v r t x next first second =
    let crossings = code.crossings in
    let i = is_inside crossings choice k side x in
    let o = is_inside crossings choice k other x in
    let s = nat_eq x (arc_at crossings u) in
    let s_too = nat_eq x (arc_at crossings v) in
    let z = nat_eq x (arc_at crossings r) in
    let z_too = nat_eq x (arc_at crossings t) in
    ap₂ (λ b c. b && not c) (inside-more code choice k side u v x next first) (inside-more code choice k other r t x next second)
    ∙ opened i o (s || s_too) (z || z_too) (new-outside code choice k side u v x next first)
    (new-outside code choice k other r t x next second)
    ∙ ap₂ (λ b c. b && not c) (sym (two_buts (not (o && not i)) z z_too)) (sym (two_buts (not (i && not o)) s s_too))

-- the new pairing leads from the arcs that end inside alone to those that start there alone
Lead-joined : (code : Code) (choice k u v r t : ℕ) (classes : List ℕ) (pairs : List (ℕ × ℕ)) → IsNext code choice k
    → IsPairAt choice k 1 u v → IsPairAt choice k 0 r t
    → HavePaths (arc_count code.crossings + code.loops + 1) classes
    (but (but (other_than (ends_there code.crossings choice k)) (arc_at code.crossings u)) (arc_at code.crossings v))
    (but (but (other_than (starts_there code.crossings choice k)) (arc_at code.crossings r)) (arc_at code.crossings t))
    → JoinOpen (arc_count code.crossings + code.loops + 1)
    (ends_or_starts (ends_there code.crossings choice (k + 1)) (starts_there code.crossings choice (k + 1))) classes pairs
    → Lead (arc_count code.crossings + code.loops + 1) (ends_there code.crossings choice (k + 1))
    (starts_there code.crossings choice (k + 1)) pairs
Lead-joined code choice k u v r t classes pairs next ends starts have join =
    let crossings = code.crossings in
    let n = arc_count crossings + code.loops + 1 in
    let free = but (but (other_than (ends_there crossings choice k)) (arc_at crossings u)) (arc_at crossings v) in
    let other = but (but (other_than (starts_there crossings choice k)) (arc_at crossings r)) (arc_at crossings t) in
    let ends_are : ends_there crossings choice (k + 1) ≡ only_one other free =
    fun_ext (λ x. opens-more code choice k 1 0 u v r t x next ends starts) in
    let starts_are : starts_there crossings choice (k + 1) ≡ only_one free other =
    fun_ext (λ x. opens-more code choice k 0 1 r t u v x next starts ends) in
    subst (λ (e : ℕ → Bool). Lead n e (starts_there crossings choice (k + 1)) pairs) (sym ends_are)
    (subst (λ (s : ℕ → Bool). Lead n (only_one other free) s pairs) (sym starts_are)
    (Lead-paths n classes free other pairs have.onward have.back
    (subst (λ (s : ℕ → Bool). JoinOpen n (ends_or_starts (only_one other free) s) classes pairs) starts_are
    (subst (λ (e : ℕ → Bool). JoinOpen n (ends_or_starts e (starts_there crossings choice (k + 1))) classes pairs) ends_are join))))

-- the four ways that colours and smoothing have

abbrev pub size_of : Code → ℕ
size_of code = arc_count code.crossings + code.loops + 1

abbrev HaveCut : Code → ℕ → ℕ → List ℕ → Type 0
HaveCut code choice k classes =
    HavePaths (size_of code) classes (other_than (ends_there code.crossings choice k)) (other_than (starts_there code.crossings choice k))

abbrev JoinNext : Code → ℕ → ℕ → List ℕ → List (ℕ × ℕ) → Type 0
JoinNext code choice k classes pairs =
    JoinOpen (size_of code) (ends_or_starts (ends_there code.crossings choice (k + 1)) (starts_there code.crossings choice (k + 1))) classes pairs

abbrev LeadNext : Code → ℕ → ℕ → List (ℕ × ℕ) → Type 0
LeadNext code choice k pairs =
    Lead (size_of code) (ends_there code.crossings choice (k + 1)) (starts_there code.crossings choice (k + 1)) pairs

-- the classes after a smoothing whose four arcs are given
abbrev joined_by : Bool → List ℕ → ℕ → ℕ → ℕ → ℕ → List ℕ
joined_by is_zero classes a b c d =
    cond is_zero (joined (joined classes (a, b)) (c, d)) (joined (joined classes (a, d)) (b, c))

abbrev joined_at : Bool → Code → ℕ → List ℕ → List ℕ
joined_at is_zero code k classes =
    joined_by is_zero classes (arc_at code.crossings (4 * k + 0)) (arc_at code.crossings (4 * k + 1)) (arc_at code.crossings (4 * k + 2))
    (arc_at code.crossings (4 * k + 3))

-- slot 0 is a start
Lead-start : (is_zero : Bool) (code : Code) (choice k : ℕ) (classes : List ℕ) (pairs : List (ℕ × ℕ)) → IsNext code choice k
    → IsPairAt choice k 1 (4 * k + 1) (4 * k + 3) → IsPairAt choice k 0 (4 * k + 0) (4 * k + 2) → HaveCut code choice k classes
    → JoinNext code choice k (joined_at is_zero code k classes) pairs → LeadNext code choice k pairs
Lead-start true code choice k classes pairs next ends starts have join =
    Lead-joined code choice k (4 * k + 1) (4 * k + 3) (4 * k + 0) (4 * k + 2) (joined_at true code k classes) pairs next ends starts
    (HavePaths-two true true code choice k (4 * k + 1) (4 * k + 3) (4 * k + 0) (4 * k + 2) classes next ends starts have) join
Lead-start false code choice k classes pairs next ends starts have join =
    let turned = IsPairAt-turned choice k 1 (4 * k + 1) (4 * k + 3) ends in
    Lead-joined code choice k (4 * k + 3) (4 * k + 1) (4 * k + 0) (4 * k + 2) (joined_at false code k classes) pairs next turned starts
    (HavePaths-two true false code choice k (4 * k + 3) (4 * k + 1) (4 * k + 0) (4 * k + 2) classes next turned starts have) join

-- slot 0 is an end
Lead-end : (is_zero : Bool) (code : Code) (choice k : ℕ) (classes : List ℕ) (pairs : List (ℕ × ℕ)) → IsNext code choice k
    → IsPairAt choice k 1 (4 * k + 0) (4 * k + 2) → IsPairAt choice k 0 (4 * k + 1) (4 * k + 3) → HaveCut code choice k classes
    → JoinNext code choice k (joined_at is_zero code k classes) pairs → LeadNext code choice k pairs
Lead-end true code choice k classes pairs next ends starts have join =
    Lead-joined code choice k (4 * k + 0) (4 * k + 2) (4 * k + 1) (4 * k + 3) (joined_at true code k classes) pairs next ends starts
    (HavePaths-two false false code choice k (4 * k + 0) (4 * k + 2) (4 * k + 1) (4 * k + 3) classes next ends starts have) join
Lead-end false code choice k classes pairs next ends starts have join =
    let turned = IsPairAt-turned choice k 0 (4 * k + 1) (4 * k + 3) starts in
    Lead-joined code choice k (4 * k + 0) (4 * k + 2) (4 * k + 3) (4 * k + 1) (joined_at false code k classes) pairs next ends turned
    (HavePaths-two false true code choice k (4 * k + 0) (4 * k + 2) (4 * k + 3) (4 * k + 1) classes next ends turned have) join

-- the classes of the pairing and the smoothing
fold-smoothing : (is_zero : Bool) (classes : List ℕ) (slots : List ℕ)
    → fold joined classes (pairs_by is_zero slots)
    ≡ joined_by is_zero classes (arc_in slots 0) (arc_in slots 1) (arc_in slots 2) (arc_in slots 3)
fold-smoothing true classes slots = refl
fold-smoothing false classes slots = refl

classes-smoothed : (code : Code) (k smoothing : ℕ) (m : List (ℕ × ℕ))
    → classes_of (size_of code) (m ++ smoothing_of smoothing (slice_index_or code.crossings k []))
    ≡ joined_at (nat_eq smoothing 0) code k (classes_of (size_of code) m)
classes-smoothed code k smoothing m =
    let slots = slice_index_or code.crossings k [] in
    let is_zero = nat_eq smoothing 0 in
    let classes = classes_of (size_of code) m in
    let at = λ (slot : ℕ) (below : slot < 4). sym (arc_at-slot code.crossings k slot below) in
    fold-append joined (range_with_len 0 (size_of code)) m (pairs_by is_zero slots)
    ∙ fold-smoothing is_zero classes slots
    ∙ ap₂ (λ a b. joined_by is_zero classes a b (arc_in slots 2) (arc_in slots 3)) (at 0 (omega arith)) (at 1 (omega arith))
    ∙ ap₂ (λ c d. joined_by is_zero classes (arc_at code.crossings (4 * k + 0)) (arc_at code.crossings (4 * k + 1)) c d)
    (at 2 (omega arith)) (at 3 (omega arith))

HaveCut-lead : (code : Code) (choice k : ℕ) (m : List (ℕ × ℕ))
    → Lead (size_of code) (ends_there code.crossings choice k) (starts_there code.crossings choice k) m
    → HaveCut code choice k (classes_of (size_of code) m)
HaveCut-lead code choice k m lead =
    let crossings = code.crossings in
    let ends = ends_there crossings choice k in
    let starts = starts_there crossings choice k in
    let apart = λ (x : ℕ) (below : x < size_of code) (is : ends x ≡ true). ends-starts crossings choice k x is in
    let apart_too = λ (x : ℕ) (below : x < size_of code) (is : starts x ≡ true). starts-ends crossings choice k x is in
    record {
      size = (IsNamed-classes_of (size_of code) m lead.below).size;
      onward = ArePaths-lead (size_of code) ends starts m lead apart apart_too;
      back = ArePaths-lead (size_of code) starts ends m (Lead-turned (size_of code) ends starts m lead) apart_too apart;
    }

pub Lead-more : (code : Code) (choice k smoothing : ℕ) (m pairs : List (ℕ × ℕ)) → IsColoured code.crossings choice
    → k < length code.crossings
    → Lead (arc_count code.crossings + code.loops + 1) (ends_there code.crossings choice k) (starts_there code.crossings choice k) m
    → JoinOpen (arc_count code.crossings + code.loops + 1)
    (ends_or_starts (ends_there code.crossings choice (k + 1)) (starts_there code.crossings choice (k + 1)))
    (classes_of (arc_count code.crossings + code.loops + 1)
    (m ++ smoothing_of smoothing (slice_index_or code.crossings k []))) pairs
    → Lead (arc_count code.crossings + code.loops + 1) (ends_there code.crossings choice (k + 1))
    (starts_there code.crossings choice (k + 1)) pairs
Lead-more code choice k smoothing m pairs coloured within lead join =
    let is_zero = nat_eq smoothing 0 in
    let classes = classes_of (size_of code) m in
    let next : IsNext code choice k = record { coloured = coloured; within = within } in
    let have = HaveCut-lead code choice k m lead in
    let joined_join : JoinNext code choice k (joined_at is_zero code k classes) pairs =
    subst (λ (cs : List ℕ). JoinNext code choice k cs pairs) (classes-smoothed code k smoothing m) join in
    elim (bit-cases choice k) [
      | inl is ↦
          Lead-start is_zero code choice k classes pairs next
          (IsPairAt-slots choice k 1 1 (omega arith) (ap (λ b. (b + 1) % 2) is))
          (IsPairAt-slots choice k 0 0 (omega arith) (ap (λ b. (b + 0) % 2) is)) have joined_join
      | inr is ↦
          Lead-end is_zero code choice k classes pairs next
          (IsPairAt-slots choice k 1 0 (omega arith) (ap (λ b. (b + 0) % 2) is))
          (IsPairAt-slots choice k 0 1 (omega arith) (ap (λ b. (b + 1) % 2) is)) have joined_join
    ]
