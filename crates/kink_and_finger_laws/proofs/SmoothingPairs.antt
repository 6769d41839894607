-- The pairs that smoothings join: at all crossings, at each, and at those that stay.
use Rattle.std.proofs.lemmas.Bool.Decides.{nat_tests}
use Rattle.std.proofs.Common.{◌≡◌, ℕ, zero, suc, ◌+◌, ◌<◌, ◌≤◌, List, [], ◌∷◌, ◌++◌, ap, subst, arith, Bool, true, false, not, length}
use Rattle.std.specs.Prelude.{slice_index_or}
use Rattle.std.specs.List.{flat_map, AllByRecursion, enumerate_from}
use Rattle.kh_types.specs.Bits.{bit}
use Rattle.kh_types.specs.Classes.{AreBelow}
use Rattle.kh_types.specs.Code.{arc_in, arc_count}
use Rattle.kh_types.specs.Components.{passes_of}
use Rattle.kh_types.specs.Circles.{smoothing_of, smoothings_of}
use Rattle.kh_types.specs.Darts.{HasArcsTwice}
use Rattle.kh_types.proofs.Lists.{AllByRecursion-append}
use Rattle.code_passes.specs.Parts.{slots_in}
use Rattle.kink_and_finger_laws.specs.DropCircles.{joined_at, outer_pairs}
use Rattle.kink_and_finger_laws.proofs.KeptCodes.{arc_by_place-below, all-gone, gone-all}

-- all smoothings are those of the crossings that stay and those of the crossings that are gone

smoothings-by_places : (P : ℕ × ℕ → Type 0) (state start : ℕ) (crossings : List (List ℕ))
    → ((place : ℕ) → place < length crossings
    → AllByRecursion P (smoothing_of (bit state (start + place)) (slice_index_or crossings place [])))
    → AllByRecursion P (flat_map (λ at. smoothing_of (bit state at.0) at.1) (enumerate_from start crossings))
smoothings-by_places P state start [] each = tt
smoothings-by_places P state start (slots ∷ rest) each =
    let z : start + 0 ≡ start = omega arith in
    AllByRecursion-append P (smoothing_of (bit state start) slots)
    (flat_map (λ at. smoothing_of (bit state at.0) at.1) (enumerate_from (start + 1) rest))
    (subst (λ (k : ℕ). AllByRecursion P (smoothing_of (bit state k) slots)) z (each 0 (omega arith)))
    (smoothings-by_places P state (start + 1) rest
    (λ place below.
    let e : start + suc place ≡ start + 1 + place = omega arith in
    subst (λ (k : ℕ). AllByRecursion P (smoothing_of (bit state k) (slice_index_or rest place []))) e (each (suc place) (omega (arith, below)))))

pub all_first : (P : ℕ × ℕ → Type 0) (xs ys : List (ℕ × ℕ)) → AllByRecursion P (xs ++ ys) → AllByRecursion P xs
all_first P [] ys holds = tt
all_first P (x ∷ xs) ys holds = (holds.0, all_first P xs ys holds.1)

pub all_second : (P : ℕ × ℕ → Type 0) (xs ys : List (ℕ × ℕ)) → AllByRecursion P (xs ++ ys) → AllByRecursion P ys
all_second P [] ys holds = holds
all_second P (x ∷ xs) ys holds = all_second P xs ys holds.1

smoothings-at_place : (P : ℕ × ℕ → Type 0) (state start : ℕ) (crossings : List (List ℕ)) (place : ℕ)
    → AllByRecursion P (flat_map (λ at. smoothing_of (bit state at.0) at.1) (enumerate_from start crossings))
    → place < length crossings → AllByRecursion P (smoothing_of (bit state (start + place)) (slice_index_or crossings place []))
smoothings-at_place P state start [] place holds below = absurd (omega (arith, below))
smoothings-at_place P state start (slots ∷ rest) zero holds below =
    let z : start ≡ start + 0 = omega arith in
    subst (λ (k : ℕ). AllByRecursion P (smoothing_of (bit state k) slots)) z
    (all_first P (smoothing_of (bit state start) slots)
    (flat_map (λ at. smoothing_of (bit state at.0) at.1) (enumerate_from (start + 1) rest)) holds)
smoothings-at_place P state start (slots ∷ rest) (suc place) holds below =
    let e : start + 1 + place ≡ start + suc place = omega arith in
    subst (λ (k : ℕ). AllByRecursion P (smoothing_of (bit state k) (slice_index_or rest place []))) e
    (smoothings-at_place P state (start + 1) rest place
    (all_second P (smoothing_of (bit state start) slots)
    (flat_map (λ at. smoothing_of (bit state at.0) at.1) (enumerate_from (start + 1) rest)) holds) (omega (arith, below)))

pub smoothings-all : (P : ℕ × ℕ → Type 0) (crossings : List (List ℕ)) (state : ℕ)
    → ((place : ℕ) → place < length crossings → AllByRecursion P (joined_at crossings state place))
    → AllByRecursion P (smoothings_of crossings state)
smoothings-all P crossings state each =
    smoothings-by_places P state 0 crossings
    (λ place below.
    let e : place ≡ 0 + place = omega arith in
    subst (λ (k : ℕ). AllByRecursion P (smoothing_of (bit state k) (slice_index_or crossings place []))) e (each place below))

pub smoothings-each : (P : ℕ × ℕ → Type 0) (crossings : List (List ℕ)) (state place : ℕ)
    → AllByRecursion P (smoothings_of crossings state) → place < length crossings → AllByRecursion P (joined_at crossings state place)
smoothings-each P crossings state place holds below = grind (arith, nat_tests, smoothings-at_place P state 0 crossings place holds below)

pub outer-all : (P : ℕ × ℕ → Type 0) (crossings : List (List ℕ)) (gone : ℕ → Bool) (state : ℕ)
    → ((place : ℕ) → place < length crossings → gone place ≡ false → AllByRecursion P (joined_at crossings state place))
    → AllByRecursion P (outer_pairs crossings gone state)
outer-all P crossings gone state each =
    all-gone P (joined_at crossings state) (λ place. not (gone place)) 0 (length crossings)
    (λ place from below stays. each place (omega (arith, below)) (not_true (gone place) stays))
  where
    not_true : (b : Bool) → not b ≡ true → b ≡ false
    not_true b stays = grind (arith, nat_tests)

pub outer-each : (P : ℕ × ℕ → Type 0) (crossings : List (List ℕ)) (gone : ℕ → Bool) (state place : ℕ)
    → AllByRecursion P (outer_pairs crossings gone state) → place < length crossings → gone place ≡ false
    → AllByRecursion P (joined_at crossings state place)
outer-each P crossings gone state place holds below stays =
    gone-all P (joined_at crossings state) (λ place. not (gone place)) 0 (length crossings) place holds (omega arith)
    (omega (arith, below)) (ap not stays)

-- the pairs are of arcs

pub smoothing-low : (n b : ℕ) (slots : List ℕ) → ((slot : ℕ) → slot < 4 → arc_in slots slot < n)
    → AreBelow n (smoothing_of b slots)
smoothing-low n b slots low = grind (arith, nat_tests)

pub joined-below : (crossings : List (List ℕ)) (n state place : ℕ) → HasArcsTwice crossings → arc_count crossings + 1 ≤ n
    → place < length crossings → AreBelow n (joined_at crossings state place)
joined-below crossings n state place twice large below =
    smoothing-low n (bit state place) (slots_in crossings place)
    (λ slot slot_below. omega (arith, large, arc_by_place-below crossings place slot twice below slot_below))

pub passes-low : (crossings : List (List ℕ)) (n place : ℕ) → HasArcsTwice crossings → arc_count crossings + 1 ≤ n
    → place < length crossings → AreBelow n (passes_of (slots_in crossings place))
passes-low crossings n place twice large below =
    let low = λ (slot : ℕ) (slot_below : slot < 4). arc_by_place-below crossings place slot twice below slot_below in (
      (omega (arith, large, low 0 (omega arith)), omega (arith, large, low 2 (omega arith))),
      ((omega (arith, large, low 1 (omega arith)), omega (arith, large, low 3 (omega arith))), tt),
    )
