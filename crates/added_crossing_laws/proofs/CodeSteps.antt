-- The steps of a code, each of whose arcs has two ends.
--
-- An arc stands twice among all darts, so at any first crossings it has at most two ends (`few-ends`), and one crossing more adds those at
-- that crossing (`ends_before-more`). Open, alive and near are tests of these numbers: so what is alive before is alive after or near, and
-- what is both is open (`IsStep-at`). An arc at the crossing is near it (`slot-near`), and one at a later crossing is alive
-- (`later-alive`).
use Rattle.std.proofs.Common.{◌≡◌, ℕ, zero, suc, inl, inr, ◌+◌, ◌-◌, ◌*◌, ◌<◌, ◌≤◌, ◌∙◌, List, [], ◌∷◌, ◌++◌, length, drop, sym, ap, subst, arith, Bool, true, false, cond, ◌&&◌, ◌||◌}
use Rattle.std.specs.Prelude.{nat_eq, nat_lt, slice_index_or}
use Rattle.std.specs.List.{count_by, flat_map, enumerate_from, range_with_len, AllByRecursion, Contains}
use Rattle.std.proofs.lemmas.Bool.{cases_lt, eq-eqb, false_from_ne_true, eqb-true, or_right}
use Rattle.std.proofs.lemmas.Bool.Decides.{nat_tests}
use Rattle.std.proofs.lemmas.List.{drop_more, get_or-drop, length-drop, get_or_default}
use Rattle.std.proofs.lemmas.List.Sums.{sum_by-append, sum_by-cons}
use Rattle.kh_types.specs.Bits.{bit, one_if}
use Rattle.kh_types.specs.Code.{Code, arc_in, arc_count, IsArc}
use Rattle.kh_types.specs.Darts.{dart_at, dart_count, arc_of, times, HasArcsTwice}
use Rattle.kh_types.specs.Circles.{smoothing_of}
use Rattle.kh_types.specs.CircleSteps.{arc_at}
use Rattle.kh_types.proofs.Ranges.{range-append}
use Rattle.kh_types.proofs.ListSums.{sum_by-map, sum_by-none}
use Rattle.kh_types.proofs.Lists.{AllByRecursion-append}
use Rattle.kh_types.proofs.DartPairs.{IsDart-at}
use Rattle.kh_types.proofs.JoinedSlots.{arc_at-slot}
use Rattle.surface_laws.specs.Points.{AreAmong}
use Rattle.genus_laws.specs.CutCodes.{outer_smoothings}
use Rattle.added_crossing_laws.specs.Steps.{is_near, near}
use Rattle.added_crossing_laws.specs.Codes.{ends_among, ends_before, ends_at, is_open, is_alive, points_at, step_at, smoothing_at}
use Rattle.added_crossing_laws.proofs.Members.{are-those, All-contained}
use Rattle.added_crossing_laws.proofs.CutJoins.{IsStep}

-- how many arcs and loops there are
abbrev pub count_of : Code → ℕ
count_of code = arc_count code.crossings + code.loops

-- how the ends are counted

ends-append : (crossings : List (List ℕ)) (x a k m : ℕ)
    → ends_among crossings x (range_with_len a (k + m))
    ≡ ends_among crossings x (range_with_len a k) + ends_among crossings x (range_with_len (a + k) m)
ends-append crossings x a k m =
    ap (λ places. ends_among crossings x places) (range-append a k m)
    ∙ sum_by-append (λ place. cond (nat_eq (arc_at crossings place) x) 1 0) (range_with_len a k) (range_with_len (a + k) m)

pub ends_before-more : (crossings : List (List ℕ)) (k x : ℕ)
    → ends_before crossings (k + 1) x ≡ ends_before crossings k x + ends_at crossings k x
ends_before-more crossings k x =
    let size : 4 * (k + 1) ≡ 4 * k + 4 = omega arith in
    let start : 0 + 4 * k ≡ 4 * k = omega arith in
    ap (λ n. ends_among crossings x (range_with_len 0 n)) size ∙ ends-append crossings x 0 (4 * k) 4
    ∙ ap (λ a. ends_before crossings k x + ends_among crossings x (range_with_len a 4)) start

-- all of them

ends_before-arc : (crossings : List (List ℕ)) (x : ℕ) → ends_before crossings (length crossings) x ≡ times crossings x
ends_before-arc crossings x =
    sym (sum_by-map (λ dart. cond (nat_eq (arc_of crossings dart) x) 1 0) dart_at (range_with_len 0 (dart_count crossings)))

pub ends_before-loop : (crossings : List (List ℕ)) (x : ℕ) → HasArcsTwice crossings → arc_count crossings < x
    → ends_before crossings (length crossings) x ≡ 0
ends_before-loop crossings x twice past =
    sum_by-none (λ place. cond (nat_eq (arc_at crossings place) x) 1 0) 0 (4 * length crossings)
    (λ place above below.
    ap (λ b. cond b 1 0)
    (false_from_ne_true (nat_eq (arc_at crossings place) x)
    (λ is.
    let arc = twice.slots (dart_at place) (IsDart-at crossings place (omega (arith, below))) in
    omega (arith, arc.within, past, eqb-true (arc_at crossings place) x is))))

ends_before-all : (crossings : List (List ℕ)) (x : ℕ) → HasArcsTwice crossings → 1 ≤ x
    → ends_before crossings (length crossings) x ≤ 2
ends_before-all crossings x twice above = elim (cases_lt (arc_count crossings) x) [
  | inl past ↦ omega (arith, ends_before-loop crossings x twice past)
  | inr within ↦
      omega (arith, ends_before-arc crossings x, twice.twice x (record { positive = above; within = omega (arith, within) }))
]

ends_before-le : (crossings : List (List ℕ)) (k x : ℕ) → k ≤ length crossings
    → ends_before crossings k x ≤ ends_before crossings (length crossings) x
ends_before-le crossings k x within =
    let size : 4 * length crossings ≡ 4 * k + (4 * length crossings - 4 * k) = omega (arith, within) in
    let split = ends-append crossings x 0 (4 * k) (4 * length crossings - 4 * k) in
    let same = ap (λ n. ends_among crossings x (range_with_len 0 n)) size in
    omega (arith, split, same)

pub few-ends : (crossings : List (List ℕ)) (k x : ℕ) → HasArcsTwice crossings → 1 ≤ x → k ≤ length crossings
    → ends_before crossings k x ≤ 2
few-ends crossings k x twice above within =
    omega (arith, ends_before-le crossings k x within, ends_before-all crossings x twice above)

-- the tests of a step
alive-test : (e d next : ℕ) → next ≡ e + d → next ≤ 2 → nat_lt e 2 ≡ (nat_lt next 2 || (nat_eq e 1 || nat_lt 0 d))
alive-test e d next is few = grind (arith, nat_tests)

open-test : (e d next : ℕ) → next ≡ e + d → next ≤ 2 → nat_eq next 1 ≡ (nat_lt next 2 && (nat_eq e 1 || nat_lt 0 d))
open-test e d next is few = grind (arith, nat_tests)

pub IsStep-at : (code : Code) (k : ℕ) → HasArcsTwice code.crossings → k < length code.crossings → IsStep (step_at code k)
IsStep-at code k twice below =
    let crossings = code.crossings in
    record {
      alive = λ x above within.
          alive-test (ends_before crossings k x) (ends_at crossings k x) (ends_before crossings (k + 1) x)
          (ends_before-more crossings k x) (few-ends crossings (k + 1) x twice above (omega (arith, below)));
      opened = λ x above within.
          open-test (ends_before crossings k x) (ends_at crossings k x) (ends_before crossings (k + 1) x)
          (ends_before-more crossings k x) (few-ends crossings (k + 1) x twice above (omega (arith, below)));
    }

-- the arcs at a crossing

arc-there : (code : Code) (k slot : ℕ) → HasArcsTwice code.crossings → k < length code.crossings → slot < 4
    → IsArc code.crossings (arc_in (slice_index_or code.crossings k []) slot)
arc-there code k slot twice below slot_below =
    subst (λ x. IsArc code.crossings x) (arc_at-slot code.crossings k slot slot_below)
    (twice.slots (dart_at (4 * k + slot)) (IsDart-at code.crossings (4 * k + slot) (omega (arith, below, slot_below))))

counted-once : (p : ℕ → Bool) (a n x : ℕ) → a ≤ x → x < a + n → p x ≡ true → 0 < count_by p (range_with_len a n)
counted-once p a zero x above below is = absurd (omega (arith, above, below))
counted-once p a (suc n) x above below is = elim (cases_lt a x) [
  | inl later ↦
      omega (
        arith,
        sum_by-cons (λ y. cond (p y) 1 0) a (range_with_len (a + 1) n),
        counted-once p (a + 1) n x (omega (arith, later)) (omega (arith, below)) is,
      )
  | inr here ↦
      let same : a ≡ x = omega (arith, here, above) in
      omega (
        arith,
        sum_by-cons (λ y. cond (p y) 1 0) a (range_with_len (a + 1) n),
        ap (λ (b : Bool). one_if b) (ap p same ∙ is),
      )
]

ends-there : (code : Code) (k slot : ℕ) → slot < 4
    → 0 < ends_at code.crossings k (arc_in (slice_index_or code.crossings k []) slot)
ends-there code k slot below =
    let x = arc_in (slice_index_or code.crossings k []) slot in
    counted-once (λ place. nat_eq (arc_at code.crossings place) x) (4 * k) 4 (4 * k + slot) (omega arith) (omega (arith, below))
    (eq-eqb (arc_at code.crossings (4 * k + slot)) x (arc_at-slot code.crossings k slot below))

positive-test : (n : ℕ) → 0 < n → nat_lt 0 n ≡ true
positive-test n positive = grind (arith, nat_tests)

pub slot-near : (code : Code) (k slot : ℕ) → HasArcsTwice code.crossings → k < length code.crossings → slot < 4
    → Contains (near (step_at code k)) (arc_in (slice_index_or code.crossings k []) slot)
slot-near code k slot twice below slot_below =
    let x = arc_in (slice_index_or code.crossings k []) slot in
    let arc = arc-there code k slot twice below slot_below in
    are-those (arc_count code.crossings + code.loops) (is_near (step_at code k)) x arc.positive (omega (arith, arc.within))
    (or_right (is_open code k x) (nat_lt 0 (ends_at code.crossings k x))
    (positive-test (ends_at code.crossings k x) (ends-there code k slot slot_below)))

all_of_smoothing : (P : ℕ → Type 0) (is_zero : Bool) (w x y z : ℕ) → P w → P x → P y → P z
    → AllByRecursion (λ (pair : ℕ × ℕ). P pair.0 × P pair.1) (cond is_zero ((w, x) ∷ (y, z) ∷ []) ((w, z) ∷ (x, y) ∷ []))
all_of_smoothing P true w x y z at_w at_x at_y at_z = ((at_w, at_x), ((at_y, at_z), tt))
all_of_smoothing P false w x y z at_w at_x at_y at_z = ((at_w, at_z), ((at_x, at_y), tt))

all_of_slots : (P : ℕ → Type 0) (smoothing : ℕ) (slots : List ℕ) → ((slot : ℕ) → slot < 4 → P (arc_in slots slot))
    → AllByRecursion (λ pair. P pair.0 × P pair.1) (smoothing_of smoothing slots)
all_of_slots P smoothing slots each =
    all_of_smoothing P (nat_eq smoothing 0) (arc_in slots 0) (arc_in slots 1) (arc_in slots 2) (arc_in slots 3) (each 0 (omega arith))
    (each 1 (omega arith)) (each 2 (omega arith)) (each 3 (omega arith))

pub smoothing-among : (code : Code) (k smoothing : ℕ) → HasArcsTwice code.crossings → k < length code.crossings
    → AreAmong (near (step_at code k)) (smoothing_at code k smoothing)
smoothing-among code k smoothing twice below =
    all_of_slots (λ x. Contains (near (step_at code k)) x) smoothing (slice_index_or code.crossings k [])
    (λ slot slot_below. slot-near code k slot twice below slot_below)

-- the arcs at later crossings
later-few : (code : Code) (k later slot : ℕ) → HasArcsTwice code.crossings → k ≤ later → later < length code.crossings → slot < 4
    → ends_before code.crossings k (arc_in (slice_index_or code.crossings later []) slot) < 2
later-few code k later slot twice behind below slot_below =
    let x = arc_in (slice_index_or code.crossings later []) slot in
    let arc = arc-there code later slot twice below slot_below in
    let size : 4 * later ≡ 4 * k + (4 * later - 4 * k) = omega (arith, behind) in
    let split = ends-append code.crossings x 0 (4 * k) (4 * later - 4 * k) in
    let same = ap (λ n. ends_among code.crossings x (range_with_len 0 n)) size in
    omega (
      arith,
      split,
      same,
      ends_before-more code.crossings later x,
      ends-there code later slot slot_below,
      few-ends code.crossings (later + 1) x twice arc.positive (omega (arith, below)),
    )

few-test : (n : ℕ) → n < 2 → nat_lt n 2 ≡ true
few-test n few = grind (arith, nat_tests)

pub later-alive : (code : Code) (k later slot : ℕ) → HasArcsTwice code.crossings → k ≤ later → later < length code.crossings → slot < 4
    → Contains (points_at code k).alive (arc_in (slice_index_or code.crossings later []) slot)
later-alive code k later slot twice behind below slot_below =
    let x = arc_in (slice_index_or code.crossings later []) slot in
    let arc = arc-there code later slot twice below slot_below in
    are-those (arc_count code.crossings + code.loops) (is_alive code k) x arc.positive (omega (arith, arc.within))
    (few-test (ends_before code.crossings k x) (later-few code k later slot twice behind below slot_below))

smoothings-all : (P : ℕ → Type 0) (state at : ℕ) (xs : List (List ℕ))
    → AllByRecursion (λ slots. (slot : ℕ) → slot < 4 → P (arc_in slots slot)) xs
    → AllByRecursion (λ pair. P pair.0 × P pair.1) (flat_map (λ at. smoothing_of (bit state at.0) at.1) (enumerate_from at xs))
smoothings-all P state at [] all = tt
smoothings-all P state at (slots ∷ xs) all =
    AllByRecursion-append (λ pair. P pair.0 × P pair.1) (smoothing_of (bit state at) slots)
    (flat_map (λ at. smoothing_of (bit state at.0) at.1) (enumerate_from (at + 1) xs)) (all_of_slots P (bit state at) slots all.0)
    (smoothings-all P state (at + 1) xs all.1)

pub outer-among : (code : Code) (state k : ℕ) → HasArcsTwice code.crossings
    → AreAmong (points_at code k).alive (outer_smoothings code.crossings state k)
outer-among code state k twice =
    let P : ℕ → Type 0 = λ x. Contains (points_at code k).alive x in
    smoothings-all P state k (drop k code.crossings)
    (All-contained (λ slots. (slot : ℕ) → slot < 4 → P (arc_in slots slot)) (drop k code.crossings)
    (λ slots has slot slot_below.
    let i = has.0 in
    let within : k + i < length code.crossings = omega (arith, has.1, length-drop k code.crossings) in
    let same : slice_index_or code.crossings (k + i) [] ≡ slots =
    get_or_default code.crossings (k + i) [] slots within ∙ sym (get_or-drop k code.crossings i slots) ∙ has.2 in
    subst (λ xs. P (arc_in xs slot)) same
    (later-alive code k (k + i) slot twice (omega arith) within slot_below)))

-- and what they join, the next crossing first
pub outer-split : (code : Code) (state k : ℕ) → k < length code.crossings
    → outer_smoothings code.crossings state k ≡ smoothing_at code k (bit state k) ++ outer_smoothings code.crossings state (k + 1)
outer-split code state k below =
    ap (λ (xs : List (List ℕ)). flat_map (λ at. smoothing_of (bit state at.0) at.1) (enumerate_from k xs))
    (drop_more code.crossings k [] below)
