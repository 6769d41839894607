-- The numbers of circles along an edge: the two that become one keep the lesser number, and the numbers above the greater go down
-- by one. The number of a circle counts the least names of circles below its own. Where two circles become one, the greater of
-- their two names is gone from these and all others stay: so as many are lesser than a name up to it, and one fewer than a name
-- above it. From this follow the number of the circle that is kept, those of the others, and that of the circle of each arc and
-- loop. An edge is such a join, forwards in a merge and backwards in a split; it is not both, as two touched circles are not one.
-- So each edge does exactly one thing, and the circles are renumbered by what it does.
use Rattle.std.proofs.Common.{◌≡◌, ◌≢◌, ℕ, inl, inr, ◌+◌, ◌-◌, ◌<◌, ◌≤◌, ◌∙◌, [], ◌∷◌, refl, sym, ap, subst, length, map, arith, Bool, false, ◌&&◌, not, IsTrue}
use Rattle.std.specs.Prelude.{nat_eq, min, max, slice_index}
use Rattle.std.specs.List.{filter, range_with_len}
use Rattle.std.proofs.lemmas.Bool.{cases_eq, eq-eqb}
use Rattle.std.proofs.lemmas.Bool.Decides.{nat_tests}
use Rattle.kh_types.specs.Acceptance.{accepted}
use Rattle.kh_types.specs.Bits.{bit}
use Rattle.kh_types.specs.Classes.{is_least, merged}
use Rattle.kh_types.specs.Code.{Code, IsCrossing, arc_count, place_of}
use Rattle.kh_types.specs.Circles.{circles_of}
use Rattle.kh_types.proofs.ClassLemmas.{slice_index-joined}
use Rattle.kh_types.proofs.Lists.{HasMore-filter_range, filter-range_agree, length-HasMore}
use Rattle.kh_types.specs.CircleNumbers.{number_of}
use Rattle.circle_smoothing.specs.Edges.{AreRenumbered, HaveMerged, IsEdge, Renumbers, renumbered}
use Rattle.kh_types.specs.Edges.{state_behind}
use Rattle.circle_smoothing.specs.declared.change.Edge.{Edge}
use Rattle.circle_smoothing.specs.declared.change.Edge.TheVariants.{Merge, Split}
use Rattle.kh_types.proofs.CircleCycles.{IsNamed-circles}
use Rattle.kh_types.proofs.EdgeNames.{IsArc-slot, IsJoin, IsJoin-edge, circle_at, stays_least}
use Rattle.kh_types.proofs.CircleNumbers.{IsName-arc, IsCircle, IsCircle-max, IsCircle-min, IsCircle-of, lesser, number_of-counted, number_of-order}
use Rattle.kh_types.proofs.EdgeBits.{lower_or_higher}

-- the circle of the arc at a slot
pub IsCircle-slot : (code : Code) (state crossing slot : ℕ) → IsTrue (accepted code) → IsCrossing code.crossings crossing → slot < 4
    → IsCircle code state (circle_at code state crossing slot)
IsCircle-slot code state crossing slot is is_crossing below = grind (arith, nat_tests, IsCircle-of, IsName-arc, IsArc-slot)

-- the two circles that become one: which is kept and which is gone
abbrev pub kept_of : Code → ℕ → ℕ → ℕ
kept_of code state crossing = min (circle_at code state crossing 0) (circle_at code state crossing 2)

abbrev pub gone_of : Code → ℕ → ℕ → ℕ
gone_of code state crossing = max (circle_at code state crossing 0) (circle_at code state crossing 2)

IsCircle-kept : (code : Code) (state crossing : ℕ) → IsTrue (accepted code) → IsCrossing code.crossings crossing
    → IsCircle code state (kept_of code state crossing)
IsCircle-kept code state crossing is is_crossing = grind (arith, nat_tests, IsCircle-min, circle_at, IsCircle-slot)

IsCircle-gone : (code : Code) (state crossing : ℕ) → IsTrue (accepted code) → IsCrossing code.crossings crossing
    → IsCircle code state (gone_of code state crossing)
IsCircle-gone code state crossing is is_crossing = grind (arith, nat_tests, IsCircle-max, circle_at, IsCircle-slot)

-- whether a name is still the least of its circle afterwards
is_least-after : (code : Code) (before after crossing z : ℕ) → IsTrue (accepted code) → IsCrossing code.crossings crossing
    → IsJoin code before after crossing → z < arc_count code.crossings + code.loops + 1
    → is_least (circles_of code after) z ≡ (is_least (circles_of code before) z && not (nat_eq z (gone_of code before crossing)))
is_least-after code before after crossing z is is_crossing join below =
    grind (arith, nat_tests, circle_at, IsNamed-circles, slice_index-joined, stays_least, IsCircle-gone, IsCircle-kept)

and_other : (b : Bool) (z gone : ℕ) → z ≢ gone → (b && not (nat_eq z gone)) ≡ b
and_other b z gone other = grind (arith, nat_tests)

and_same : (b : Bool) (z gone : ℕ) → z ≡ gone → (b && not (nat_eq z gone)) ≡ false
and_same b z gone same = grind (arith, nat_tests)

-- as many names are lesser than one that is not above the name that is gone
lesser-low : (code : Code) (before after crossing x : ℕ) → IsTrue (accepted code) → IsCrossing code.crossings crossing
    → IsJoin code before after crossing → x ≤ gone_of code before crossing → 1 ≤ x → lesser code after x ≡ lesser code before x
lesser-low code before after crossing x is is_crossing join within positive =
    let gone = gone_of code before crossing in
    let most = (IsCircle-gone code before crossing is is_crossing).within in
    ap length
    (filter-range_agree (is_least (circles_of code after)) (is_least (circles_of code before)) 1 (x - 1)
    (λ z from below.
    is_least-after code before after crossing z is is_crossing join (omega (arith, below, within, positive, most))
    ∙ and_other (is_least (circles_of code before) z) z gone (omega (arith, below, within, positive))))

-- and one fewer than one that is above
lesser-high : (code : Code) (before after crossing x : ℕ) → IsTrue (accepted code) → IsCrossing code.crossings crossing
    → IsJoin code before after crossing → gone_of code before crossing < x → x ≤ arc_count code.crossings + code.loops
    → lesser code before x ≡ lesser code after x + 1
lesser-high code before after crossing x is is_crossing join above within =
    let gone = gone_of code before crossing in
    let gone_is = IsCircle-gone code before crossing is is_crossing in
    let most = gone_is.within in
    let p = is_least (circles_of code before) in
    let q = is_least (circles_of code after) in
    length-HasMore gone (filter p (range_with_len 1 (x - 1))) (filter q (range_with_len 1 (x - 1)))
    (HasMore-filter_range p q 1 (x - 1) gone gone_is.positive (omega (arith, above, gone_is.positive))
    (eq-eqb (slice_index (circles_of code before) gone) gone gone_is.own)
    (is_least-after code before after crossing gone is is_crossing join (omega (arith, most)) ∙ and_same (p gone) gone gone refl)
    (λ z from below other.
    sym (is_least-after code before after crossing z is is_crossing join (omega (arith, below, within))
    ∙ and_other (p z) z gone other)))

-- the numbers of the circles afterwards

pub number-kept : (code : Code) (before after crossing : ℕ) → IsTrue (accepted code) → IsCrossing code.crossings crossing
    → IsJoin code before after crossing
    → number_of code after (kept_of code before crossing) ≡ number_of code before (kept_of code before crossing)
number-kept code before after crossing is is_crossing join =
    let kept = kept_of code before crossing in
    let kept_is = IsCircle-kept code before crossing is is_crossing in
    let order = join.circles.order in
    number_of-counted code after kept
    (record {
      positive = kept_is.positive;
      within = kept_is.within;
      own = join.circles.others kept (omega (arith, kept_is.own, order)) ∙ kept_is.own;
    })
    ∙ lesser-low code before after crossing kept is is_crossing join (omega (arith, order)) kept_is.positive
    ∙ sym (number_of-counted code before kept kept_is)

renumbered-gone : (a b n : ℕ) → n ≡ b → renumbered a b n ≡ a
renumbered-gone a b n same = grind (arith, nat_tests)

pub renumbered-low : (a b n : ℕ) → n < b → renumbered a b n ≡ n
renumbered-low a b n below = grind (arith, nat_tests)

renumbered-high : (a b n m : ℕ) → b < n → n ≡ m + 1 → renumbered a b n ≡ m
renumbered-high a b n m above next = grind (arith, nat_tests)

number-other : (code : Code) (before after crossing c : ℕ) → IsTrue (accepted code) → IsCrossing code.crossings crossing
    → IsJoin code before after crossing → IsCircle code before c → c ≢ gone_of code before crossing
    → number_of code after c
    ≡ renumbered (number_of code before (kept_of code before crossing)) (number_of code before (gone_of code before crossing))
    (number_of code before c)
number-other code before after crossing c is is_crossing join c_is other =
    let gone = gone_of code before crossing in
    let gone_is = IsCircle-gone code before crossing is is_crossing in
    let a = number_of code before (kept_of code before crossing) in
    let b = number_of code before gone in
    let own : slice_index (circles_of code after) c ≡ c =
    join.circles.others c (λ same. other (sym c_is.own ∙ same)) ∙ c_is.own in
    let now = number_of-counted code after c (record { positive = c_is.positive; within = c_is.within; own = own }) in
    let then = number_of-counted code before c c_is in
    elim (lower_or_higher c gone other) [
      | inl lower ↦
          now ∙ lesser-low code before after crossing c is is_crossing join (omega (arith, lower)) c_is.positive ∙ sym then
          ∙ sym (renumbered-low a b (number_of code before c) (number_of-order code before c gone c_is gone_is lower))
      | inr higher ↦
          now
          ∙ sym (renumbered-high a b (number_of code before c) (lesser code after c)
          (number_of-order code before gone c gone_is c_is higher)
          (then ∙ lesser-high code before after crossing c is is_crossing join higher c_is.within))
    ]

-- each arc and each loop is on the circle that its number says
pub AreRenumbered-join : (code : Code) (before after crossing : ℕ) → IsTrue (accepted code) → IsCrossing code.crossings crossing
    → IsJoin code before after crossing
    → AreRenumbered code before after (number_of code before (kept_of code before crossing))
    (number_of code before (gone_of code before crossing))
AreRenumbered-join code before after crossing is is_crossing join name is_name =
    let c = slice_index (circles_of code before) name in
    let gone = gone_of code before crossing in
    let a = number_of code before (kept_of code before crossing) in
    let b = number_of code before gone in
    elim (cases_eq c gone) [
      | inl same ↦
          ap (number_of code after) (join.circles.one name same) ∙ number-kept code before after crossing is is_crossing join
          ∙ sym (renumbered-gone a b (number_of code before c) (ap (number_of code before) same))
      | inr other ↦
          ap (number_of code after) (join.circles.others name other)
          ∙ number-other code before after crossing c is is_crossing join (IsCircle-of code before name is is_name) other
    ]

-- what the edge does, by numbers
pub HaveMerged-join : (code : Code) (before after crossing : ℕ) → IsTrue (accepted code) → IsCrossing code.crossings crossing
    → IsJoin code before after crossing
    → HaveMerged code before after crossing (number_of code before (kept_of code before crossing))
    (number_of code before (gone_of code before crossing)) (number_of code before (kept_of code before crossing))
HaveMerged-join code before after crossing is is_crossing join = record {
  two = ap (λ xs. map (number_of code before) xs) join.circles.touched_before;
  order = number_of-order code before (kept_of code before crossing) (gone_of code before crossing)
      (IsCircle-kept code before crossing is is_crossing) (IsCircle-gone code before crossing is is_crossing) join.circles.order;
  one = ap (λ xs. map (number_of code after) xs) join.circles.touched_after
      ∙ ap (λ n. n ∷ []) (number-kept code before after crossing is is_crossing join);
}

-- a merge has one answer
HaveMerged-same : (code : Code) (before after crossing a b to c d into : ℕ) → HaveMerged code before after crossing a b to
    → HaveMerged code before after crossing c d into → (a ≡ c) × (b ≡ d) × (to ≡ into)
HaveMerged-same code before after crossing a b to c d into is too = grind (arith, nat_tests)

-- a merge is no merge backwards
HaveMerged-once : (code : Code) (before after crossing a b to c d into : ℕ) → HaveMerged code before after crossing a b to
    → HaveMerged code after before crossing c d into → ⊥
HaveMerged-once code before after crossing a b to c d into is back = grind (arith, nat_tests)

-- so what an edge does renumbers the circles
renumbers-merge : (code : Code) (before after crossing a b to : ℕ) → IsTrue (accepted code) → IsCrossing code.crossings crossing
    → IsJoin code before after crossing → HaveMerged code before after crossing a b to
    → (to ≡ a) × AreRenumbered code before after a b
renumbers-merge code before after crossing a b to is is_crossing join merged =
    let kept = number_of code before (kept_of code before crossing) in
    let gone = number_of code before (gone_of code before crossing) in
    let same = HaveMerged-same code before after crossing a b to kept gone kept merged
    (HaveMerged-join code before after crossing is is_crossing join) in (
      same.2 ∙ sym same.0,
      subst (λ (x : ℕ). AreRenumbered code before after x b) (sym same.0)
          (subst (λ (y : ℕ). AreRenumbered code before after kept y) (sym same.1)
          (AreRenumbered-join code before after crossing is is_crossing join)),
    )

pub renumbers : (code : Code) (state crossing : ℕ) (change : Edge) → IsTrue (accepted code) → IsCrossing code.crossings crossing
    → bit state (place_of crossing) ≡ 0 → IsEdge code state crossing change → Renumbers code state crossing change
renumbers code state crossing (Merge a b to) is is_crossing zero does =
    let behind = state_behind state crossing in
    elim (IsJoin-edge code state crossing is is_crossing zero) [
      | inl forth ↦ renumbers-merge code state behind crossing a b to is is_crossing forth does
      | inr back ↦ absurd (HaveMerged-once code state behind crossing a b to
          (number_of code behind (kept_of code behind crossing)) (number_of code behind (gone_of code behind crossing))
          (number_of code behind (kept_of code behind crossing)) does (HaveMerged-join code behind state crossing is is_crossing back))
    ]
renumbers code state crossing (Split from a b) is is_crossing zero does =
    let behind = state_behind state crossing in
    elim (IsJoin-edge code state crossing is is_crossing zero) [
      | inl forth ↦ absurd (HaveMerged-once code behind state crossing a b from
          (number_of code state (kept_of code state crossing)) (number_of code state (gone_of code state crossing))
          (number_of code state (kept_of code state crossing)) does (HaveMerged-join code state behind crossing is is_crossing forth))
      | inr back ↦ renumbers-merge code behind state crossing a b from is is_crossing back does
    ]

-- each edge does one thing

pub some_edge : (code : Code) (state crossing : ℕ) → IsTrue (accepted code) → IsCrossing code.crossings crossing
    → bit state (place_of crossing) ≡ 0 → (change : Edge) × IsEdge code state crossing change
some_edge code state crossing is is_crossing zero =
    let behind = state_behind state crossing in
    let kept = λ (s : ℕ). number_of code s (kept_of code s crossing) in
    let gone = λ (s : ℕ). number_of code s (gone_of code s crossing) in
    elim (IsJoin-edge code state crossing is is_crossing zero) [
      | inl forth ↦ (Merge (kept state) (gone state) (kept state), HaveMerged-join code state behind crossing is is_crossing forth)
      | inr back ↦ (Split (kept behind) (kept behind) (gone behind), HaveMerged-join code behind state crossing is is_crossing back)
    ]

pub one_edge : (code : Code) (state crossing : ℕ) (change other : Edge) → IsEdge code state crossing change
    → IsEdge code state crossing other → change ≡ other
one_edge code state crossing change other does does_too = grind (arith, nat_tests)
