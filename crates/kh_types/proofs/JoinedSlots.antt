-- What the smoothings of a state join, from dart to dart.
--
-- A smoothing pairs the four slots of its crossing. To cross it, from a slot to the one joined with it, is a map of the places of darts
-- that leads back when done twice, stays at its crossing, and changes the colour where each crossing has a bit. A function has one value on
-- all pairs that the smoothings of a state join exactly where it has one value at the arcs of each dart and of the dart across.
use Rattle.std.proofs.lemmas.Bool.Decides.{nat_tests}
use Rattle.std.proofs.Common.{◌≡◌, ℕ, zero, suc, ◌+◌, ◌-◌, ◌*◌, ◌/◌, ◌%◌, ◌<◌, ◌∙◌, List, [], ◌∷◌, sym, ap, subst, length, arith, Bool, cond}
use Rattle.std.specs.Prelude.{nat_eq, slice_index_or}
use Rattle.std.specs.List.{flat_map, enumerate_from}
use Rattle.kh_types.specs.Bits.{bit}
use Rattle.kh_types.specs.Classes.{Respects}
use Rattle.kh_types.specs.Code.{arc_in}
use Rattle.kh_types.specs.Circles.{smoothing_of, smoothings_of}
use Rattle.kh_types.proofs.Lists.{AllByRecursion-append, AllByRecursion-first, AllByRecursion-second}
use Rattle.kh_types.specs.CircleSteps.{arc_at, joined_slot, across}

-- the slot that a smoothing joins a slot with

pub joined_slot-below : (smoothing slot : ℕ) → slot < 4 → joined_slot smoothing slot < 4
joined_slot-below smoothing slot below = grind (arith, nat_tests)

-- the dart that it joins a dart with

pub across-slot : (state crossing slot : ℕ) → slot < 4
    → across state (4 * crossing + slot) ≡ 4 * crossing + joined_slot (bit state crossing) slot
across-slot state crossing slot below = grind (arith, nat_tests)

pub slot-below : (place : ℕ) → place % 4 < 4
slot-below place = omega arith

pub across-crossing : (state place : ℕ) → across state place / 4 ≡ place / 4
across-crossing state place = omega (arith, joined_slot-below (bit state (place / 4)) (place % 4) (slot-below place))

pub across-below : (n state place : ℕ) → place < 4 * n → across state place < 4 * n
across-below n state place below = grind (arith, nat_tests)

pub across-across : (state place : ℕ) → across state (across state place) ≡ place
across-across state place = grind (arith, nat_tests)

-- the colour of the dart at a place, where a choice gives each crossing a bit
abbrev pub place_colour : ℕ → ℕ → ℕ
place_colour choice place = (bit choice (place / 4) + place % 4) % 2

-- a smoothing joins darts of different colours
pub across-colour : (choice state place side other : ℕ) → side + other ≡ 1 → place_colour choice place ≡ side
    → place_colour choice (across state place) ≡ other
across-colour choice state place side other sum is = grind (arith, nat_tests)

-- the arc of the dart at a slot
pub arc_at-slot : (crossings : List (List ℕ)) (crossing slot : ℕ) → slot < 4
    → arc_at crossings (4 * crossing + slot) ≡ arc_in (slice_index_or crossings crossing []) slot
arc_at-slot crossings crossing slot below = grind (arith, nat_tests)

-- what has one value at the two slots of each pair of a smoothing has one value at a slot and the one joined with it, and the other
-- way round

abbrev pub pairs_by : Bool → List ℕ → List (ℕ × ℕ)
pairs_by is_zero slots =
    cond is_zero ((arc_in slots 0, arc_in slots 1) ∷ (arc_in slots 2, arc_in slots 3) ∷ [])
    ((arc_in slots 0, arc_in slots 3) ∷ (arc_in slots 1, arc_in slots 2) ∷ [])

pub slots-by : (g : ℕ → ℕ) (is_zero : Bool) (slots : List ℕ) → Respects g (pairs_by is_zero slots) → (slot : ℕ) → slot < 4
    → g (arc_in slots (cond is_zero (slot + 1 - 2 * (slot % 2)) (3 - slot))) ≡ g (arc_in slots slot)
slots-by g is_zero slots respects slot below = grind (arith, nat_tests)

pub by-slots : (g : ℕ → ℕ) (is_zero : Bool) (slots : List ℕ)
    → ((slot : ℕ) → slot < 4 → g (arc_in slots (cond is_zero (slot + 1 - 2 * (slot % 2)) (3 - slot))) ≡ g (arc_in slots slot))
    → Respects g (pairs_by is_zero slots)
by-slots g is_zero slots same = grind (arith, nat_tests)

-- the same of all crossings of a list, the first of which stands at a place

abbrev pub smoothings_from : ℕ → ℕ → List (List ℕ) → List (ℕ × ℕ)
smoothings_from state place crossings = flat_map (λ at. smoothing_of (bit state at.0) at.1) (enumerate_from place crossings)

pub crossing-from : (g : ℕ → ℕ) (state place : ℕ) (crossings : List (List ℕ)) → Respects g (smoothings_from state place crossings)
    → (k : ℕ) → k < length crossings → Respects g (smoothing_of (bit state (place + k)) (slice_index_or crossings k []))
crossing-from g state place [] respects k below = absurd (omega (arith, below))
crossing-from g state place (slots ∷ crossings) respects zero below = grind (arith, nat_tests, AllByRecursion-first)
crossing-from g state place (slots ∷ crossings) respects (suc k) below =
    grind (arith, nat_tests, AllByRecursion-second, crossing-from g state (place + 1) crossings (AllByRecursion-second (λ pair. g pair.0 ≡ g pair.1) (smoothing_of (bit state place) slots) (smoothings_from state (place + 1) crossings) respects) k (omega (arith, below)))

pub from-crossings : (g : ℕ → ℕ) (state place : ℕ) (crossings : List (List ℕ))
    → ((k : ℕ) → k < length crossings → Respects g (smoothing_of (bit state (place + k)) (slice_index_or crossings k [])))
    → Respects g (smoothings_from state place crossings)
from-crossings g state place [] each = tt
from-crossings g state place (slots ∷ crossings) each =
    let e : place + 0 ≡ place = omega arith in
    AllByRecursion-append (λ pair. g pair.0 ≡ g pair.1) (smoothing_of (bit state place) slots)
    (smoothings_from state (place + 1) crossings)
    (subst (λ (p : ℕ). Respects g (smoothing_of (bit state p) slots)) e (each 0 (omega arith)))
    (from-crossings g state (place + 1) crossings
    (λ k below.
    let e_too : place + suc k ≡ place + 1 + k = omega arith in
    subst (λ (p : ℕ). Respects g (smoothing_of (bit state p) (slice_index_or crossings k []))) e_too
    (each (suc k) (omega (arith, below)))))

-- what respects the smoothings of a state has one value at the arcs of a dart and of the dart across, and the other way round

pub across-respects : (g : ℕ → ℕ) (crossings : List (List ℕ)) (state : ℕ) → Respects g (smoothings_of crossings state)
    → (place : ℕ) → place < 4 * length crossings → g (arc_at crossings (across state place)) ≡ g (arc_at crossings place)
across-respects g crossings state respects place below =
    let crossing = place / 4 in
    let slot = place % 4 in
    let slots = slice_index_or crossings crossing [] in
    let whole : 4 * crossing + slot ≡ place = omega arith in
    ap g (arc_at-slot crossings crossing (joined_slot (bit state crossing) slot)
    (joined_slot-below (bit state crossing) slot (slot-below place)))
    ∙ slots-by g (nat_eq (bit state crossing) 0) slots
    (subst (λ (p : ℕ). Respects g (smoothing_of (bit state p) slots)) (omega arith)
    (crossing-from g state 0 crossings respects crossing (omega (arith, below))))
    slot (slot-below place)
    ∙ sym (ap g (arc_at-slot crossings crossing slot (slot-below place))) ∙ ap (λ p. g (arc_at crossings p)) whole

pub respects-across : (g : ℕ → ℕ) (crossings : List (List ℕ)) (state : ℕ)
    → ((place : ℕ) → place < 4 * length crossings → g (arc_at crossings (across state place)) ≡ g (arc_at crossings place))
    → Respects g (smoothings_of crossings state)
respects-across g crossings state same =
    from-crossings g state 0 crossings
    (λ k below.
    let slots = slice_index_or crossings k [] in
    let e : k ≡ 0 + k = omega arith in
    subst (λ (p : ℕ). Respects g (smoothing_of (bit state p) slots)) e
    (by-slots g (nat_eq (bit state k) 0) slots
    (λ slot slot_below.
    ap g (sym (arc_at-slot crossings k (joined_slot (bit state k) slot) (joined_slot-below (bit state k) slot slot_below)))
    ∙ ap (λ p. g (arc_at crossings p)) (sym (across-slot state k slot slot_below))
    ∙ same (4 * k + slot) (omega (arith, below, slot_below)) ∙ ap g (arc_at-slot crossings k slot slot_below))))

-- darts across are darts
pub ruleset places = (across-below)
