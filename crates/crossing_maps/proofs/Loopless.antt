-- A loop has no end: what is open, or near a crossing, is an arc.
use Rattle.std.proofs.Common.{◌≡◌, ℕ, inl, inr, ◌+◌, ◌-◌, ◌*◌, ◌/◌, ◌%◌, ◌<◌, ◌≤◌, ◌∙◌, List, [], ◌∷◌, ◌++◌, length, refl, ap, ap₂, arith, Bool, true, false, cond, ◌||◌}
use Rattle.std.specs.Prelude.{nat_eq, nat_lt, slice_index_or}
use Rattle.std.specs.List.{filter, range_with_len, AllByRecursion, Contains}
use Rattle.std.proofs.lemmas.Bool.{cases_lt, both_ways}
use Rattle.std.proofs.lemmas.Bool.Decides.{nat_tests}
use Rattle.std.proofs.lemmas.List.{get_or_past}
use Rattle.std.proofs.lemmas.List.Elements.{filter-append}
use Rattle.std.proofs.lemmas.List.Sums.{sum_by-cons}
use Rattle.kh_types.specs.Code.{Code, arc_count, arc_in}
use Rattle.kh_types.specs.CircleSteps.{arc_at}
use Rattle.kh_types.specs.Classes.{AreBelow}
use Rattle.kh_types.specs.Darts.{HasArcsTwice, dart_at}
use Rattle.kh_types.proofs.DartPairs.{IsDart-at}
use Rattle.kh_types.proofs.Ranges.{range-append}
use Rattle.surface_laws.specs.Points.{AreAmong}
use Rattle.dotted_maps.proofs.LeastPoints.{AreBelow-among}
use Rattle.added_crossing_laws.specs.Codes.{ends_among, is_open, points_at, smoothing_at, step_at}
use Rattle.added_crossing_laws.specs.Steps.{is_near, near, those}
use Rattle.added_crossing_laws.proofs.CodeSums.{joins-near}
use Rattle.added_crossing_laws.proofs.Members.{All-contained, range-within, those-are}

-- the arc at a place: behind all crossings there is none, and 0 stands for it
arc-few : (crossings : List (List ℕ)) (place : ℕ) → HasArcsTwice crossings → arc_at crossings place ≤ arc_count crossings
arc-few crossings place twice = elim (cases_lt place (4 * length crossings)) [
  | inl within ↦ (twice.slots (dart_at place) (IsDart-at crossings place within)).within
  | inr past ↦
      let none : slice_index_or crossings (place / 4 + 1 - 1) [] ≡ [] =
      get_or_past crossings (place / 4 + 1 - 1) [] (omega (arith, past)) in
      let zero : arc_at crossings place ≡ 0 = ap (λ slots. arc_in slots (place % 4)) none in
      omega (arith, zero)
]

apart-false : (x y : ℕ) → y < x → nat_eq y x ≡ false
apart-false x y less = grind (arith, nat_tests)

none-among : (crossings : List (List ℕ)) (x : ℕ) (places : List ℕ) → HasArcsTwice crossings → arc_count crossings < x
    → ends_among crossings x places ≡ 0
none-among crossings x [] twice past = refl
none-among crossings x (place ∷ places) twice past =
    sum_by-cons (λ p. cond (nat_eq (arc_at crossings p) x) 1 0) place places
    ∙ ap₂ (λ b n. cond b 1 0 + n)
    (apart-false x (arc_at crossings place) (omega (arith, arc-few crossings place twice, past)))
    (none-among crossings x places twice past)

pub never-open : (code : Code) (k x : ℕ) → HasArcsTwice code.crossings → arc_count code.crossings < x → is_open code k x ≡ false
never-open code k x twice past = ap (λ n. nat_eq n 1) (none-among code.crossings x (range_with_len 0 (4 * k)) twice past)

pub never-near : (code : Code) (k x : ℕ) → HasArcsTwice code.crossings → arc_count code.crossings < x
    → is_near (step_at code k) x ≡ false
never-near code k x twice past =
    ap₂ (λ b n. b || nat_lt 0 n) (never-open code k x twice past)
    (none-among code.crossings x (range_with_len (4 * k) 4) twice past)

-- what passes a test that fails above a limit
few : (test : ℕ → Bool) (limit x : ℕ) → (limit < x → test x ≡ false) → test x ≡ true → x < limit + 1
few test limit x fails passes = elim (cases_lt limit x) [
  | inl past ↦ absurd (both_ways (test x) (fails past) passes)
  | inr within ↦ omega (arith, within)
]

pub open-few : (code : Code) (k x : ℕ) → HasArcsTwice code.crossings → Contains (points_at code k).opened x
    → x < arc_count code.crossings + 1
open-few code k x twice has =
    few (is_open code k) (arc_count code.crossings) x (never-open code k x twice)
    (those-are (arc_count code.crossings + code.loops) (is_open code k) x has).passes

pub near-few : (code : Code) (k x : ℕ) → HasArcsTwice code.crossings → Contains (near (step_at code k)) x
    → x < arc_count code.crossings + 1
near-few code k x twice has =
    few (is_near (step_at code k)) (arc_count code.crossings) x (never-near code k x twice)
    (those-are (arc_count code.crossings + code.loops) (is_near (step_at code k)) x has).passes

-- a pairing and a smoothing join such arcs
pub joins-few : (code : Code) (k smoothing : ℕ) (m : List (ℕ × ℕ)) → HasArcsTwice code.crossings → k < length code.crossings
    → AreAmong (points_at code k).opened m → AreBelow (arc_count code.crossings + 1) (m ++ smoothing_at code k smoothing)
joins-few code k smoothing m twice below among =
    AreBelow-among (arc_count code.crossings + 1) (near (step_at code k)) (m ++ smoothing_at code k smoothing)
    (All-contained (λ x. x < arc_count code.crossings + 1) (near (step_at code k)) (λ x has. near-few code k x twice has))
    (joins-near code k smoothing m twice below among)

-- tests of arcs and loops that fail at loops

pub filter-none : (p : ℕ → Bool) (xs : List ℕ) → AllByRecursion (λ x. p x ≡ false) xs → filter p xs ≡ []
filter-none p [] all = refl
filter-none p (x ∷ xs) all = ap₂ (λ (b : Bool) (ys : List ℕ). cond b (x ∷ ys) ys) all.0 (filter-none p xs all.1)

pub append-none : (xs : List ℕ) → xs ++ [] ≡ xs
append-none [] = refl
append-none (x ∷ xs) = ap (λ (ys : List ℕ). x ∷ ys) (append-none xs)

those-fewer : (count more : ℕ) (test : ℕ → Bool) → ((x : ℕ) → count < x → test x ≡ false) → those (count + more) test ≡ those count test
those-fewer count more test fails =
    ap (filter test) (range-append 1 count more)
    ∙ filter-append test (range_with_len 1 count) (range_with_len (1 + count) more)
    ∙ ap (λ ys. those count test ++ ys)
    (filter-none test (range_with_len (1 + count) more)
    (All-contained (λ x. test x ≡ false) (range_with_len (1 + count) more)
    (λ x has. fails x (omega (arith, (range-within (1 + count) more x has).above)))))
    ∙ append-none (those count test)

pub open-are : (code : Code) (k : ℕ) → HasArcsTwice code.crossings
    → (points_at code k).opened ≡ those (arc_count code.crossings) (is_open code k)
open-are code k twice =
    those-fewer (arc_count code.crossings) code.loops (is_open code k) (λ x past. never-open code k x twice past)

pub near-are : (code : Code) (k : ℕ) → HasArcsTwice code.crossings
    → near (step_at code k) ≡ those (arc_count code.crossings) (is_near (step_at code k))
near-are code k twice =
    those-fewer (arc_count code.crossings) code.loops (is_near (step_at code k)) (λ x past. never-near code k x twice past)
