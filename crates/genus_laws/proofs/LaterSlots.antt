-- What the smoothings of the crossings still to come after the first k join, from dart to dart.
use Rattle.std.proofs.Common.{◌≡◌, ℕ, zero, suc, ◌+◌, ◌*◌, ◌/◌, ◌%◌, ◌<◌, ◌≤◌, ◌∙◌, List, [], ◌∷◌, sym, ap, subst, length, drop, arith}
use Rattle.std.specs.Prelude.{nat_eq, slice_index_or}
use Rattle.std.specs.List.{AllByRecursion}
use Rattle.kh_types.specs.Bits.{bit}
use Rattle.kh_types.specs.Classes.{Respects}
use Rattle.kh_types.specs.Circles.{smoothing_of}
use Rattle.kh_types.proofs.Lists.{AllByRecursion-append, AllByRecursion-first, AllByRecursion-second}
use Rattle.kh_types.specs.CircleSteps.{arc_at, joined_slot, across}
use Rattle.kh_types.proofs.JoinedSlots.{across-slot, arc_at-slot, joined_slot-below, slots-by, smoothings_from, by-slots, slot-below}

-- what holds of all pairs of the smoothings holds of those of the crossings still to come after the first k
pub all-later : (P : ℕ × ℕ → Type 0) (state place k : ℕ) (crossings : List (List ℕ))
    → AllByRecursion P (smoothings_from state place crossings)
    → AllByRecursion P (smoothings_from state (place + k) (drop k crossings))
all-later P state place zero crossings all =
    let e : place + 0 ≡ place = omega arith in
    subst (λ (p : ℕ). AllByRecursion P (smoothings_from state p crossings)) (sym e) all
all-later P state place (suc k) [] all = tt
all-later P state place (suc k) (slots ∷ crossings) all =
    let e : place + suc k ≡ place + 1 + k = omega arith in
    subst (λ (p : ℕ). AllByRecursion P (smoothings_from state p (drop k crossings))) (sym e)
    (all-later P state (place + 1) k crossings
    (AllByRecursion-second P (smoothing_of (bit state place) slots) (smoothings_from state (place + 1) crossings) all))

-- the pairs of each crossing still to come after the first k, and of all
later-crossing : (g : ℕ → ℕ) (state place k : ℕ) (crossings : List (List ℕ))
    → Respects g (smoothings_from state (place + k) (drop k crossings)) → (at : ℕ) → k ≤ at → at < length crossings
    → Respects g (smoothing_of (bit state (place + at)) (slice_index_or crossings at []))
later-crossing g state place k [] respects at from below = absurd (omega (arith, below))
later-crossing g state place (suc k) (slots ∷ crossings) respects zero from below = absurd (omega (arith, from))
later-crossing g state place zero (slots ∷ crossings) respects zero from below =
    AllByRecursion-first (λ pair. g pair.0 ≡ g pair.1) (smoothing_of (bit state (place + 0)) slots)
    (smoothings_from state (place + 0 + 1) crossings) respects
later-crossing g state place zero (slots ∷ crossings) respects (suc at) from below =
    let e : place + suc at ≡ place + 1 + at = omega arith in
    let e_too : place + 0 + 1 ≡ place + 1 + 0 = omega arith in
    subst (λ (p : ℕ). Respects g (smoothing_of (bit state p) (slice_index_or crossings at []))) (sym e)
    (later-crossing g state (place + 1) 0 crossings
    (subst (λ (p : ℕ). Respects g (smoothings_from state p crossings)) e_too
    (AllByRecursion-second (λ pair. g pair.0 ≡ g pair.1) (smoothing_of (bit state (place + 0)) slots)
    (smoothings_from state (place + 0 + 1) crossings) respects)) at (omega arith) (omega (arith, below)))
later-crossing g state place (suc k) (slots ∷ crossings) respects (suc at) from below =
    let e : place + suc at ≡ place + 1 + at = omega arith in
    let e_too : place + suc k ≡ place + 1 + k = omega arith in
    subst (λ (p : ℕ). Respects g (smoothing_of (bit state p) (slice_index_or crossings at []))) (sym e)
    (later-crossing g state (place + 1) k crossings
    (subst (λ (p : ℕ). Respects g (smoothings_from state p (drop k crossings))) e_too respects) at (omega (arith, from))
    (omega (arith, below)))

later-crossings : (g : ℕ → ℕ) (state place k : ℕ) (crossings : List (List ℕ))
    → ((at : ℕ) → k ≤ at → at < length crossings → Respects g (smoothing_of (bit state (place + at)) (slice_index_or crossings at [])))
    → Respects g (smoothings_from state (place + k) (drop k crossings))
later-crossings g state place zero [] each = tt
later-crossings g state place (suc k) [] each = tt
later-crossings g state place zero (slots ∷ crossings) each =
    let e_too : place + 1 + 0 ≡ place + 0 + 1 = omega arith in
    AllByRecursion-append (λ pair. g pair.0 ≡ g pair.1) (smoothing_of (bit state (place + 0)) slots)
    (smoothings_from state (place + 0 + 1) crossings) (each 0 (omega arith) (omega arith))
    (subst (λ (p : ℕ). Respects g (smoothings_from state p crossings)) e_too
    (later-crossings g state (place + 1) 0 crossings
    (λ at from below.
    let e : place + suc at ≡ place + 1 + at = omega arith in
    subst (λ (p : ℕ). Respects g (smoothing_of (bit state p) (slice_index_or crossings at []))) e
    (each (suc at) (omega arith) (omega (arith, below))))))
later-crossings g state place (suc k) (slots ∷ crossings) each =
    let e_too : place + 1 + k ≡ place + suc k = omega arith in
    subst (λ (p : ℕ). Respects g (smoothings_from state p (drop k crossings))) e_too
    (later-crossings g state (place + 1) k crossings
    (λ at from below.
    let e : place + suc at ≡ place + 1 + at = omega arith in
    subst (λ (p : ℕ). Respects g (smoothing_of (bit state p) (slice_index_or crossings at []))) e
    (each (suc at) (omega (arith, from)) (omega (arith, below)))))

-- what respects them has one value at the arcs of a dart at a crossing still to come and of the dart across, and the other way round

pub across-later : (g : ℕ → ℕ) (crossings : List (List ℕ)) (state k : ℕ) → Respects g (smoothings_from state k (drop k crossings))
    → (place : ℕ) → 4 * k ≤ place → place < 4 * length crossings
    → g (arc_at crossings (across state place)) ≡ g (arc_at crossings place)
across-later g crossings state k respects place from below =
    let crossing = place / 4 in
    let slot = place % 4 in
    let slots = slice_index_or crossings crossing [] in
    let whole : 4 * crossing + slot ≡ place = omega arith in
    ap g (arc_at-slot crossings crossing (joined_slot (bit state crossing) slot)
    (joined_slot-below (bit state crossing) slot (slot-below place)))
    ∙ slots-by g (nat_eq (bit state crossing) 0) slots
    (subst (λ (p : ℕ). Respects g (smoothing_of (bit state p) slots)) (omega arith)
    (later-crossing g state 0 k crossings
    (subst (λ (p : ℕ). Respects g (smoothings_from state p (drop k crossings))) (omega arith) respects) crossing
    (omega (arith, from)) (omega (arith, below))))
    slot (slot-below place)
    ∙ sym (ap g (arc_at-slot crossings crossing slot (slot-below place))) ∙ ap (λ p. g (arc_at crossings p)) whole

pub later-across : (g : ℕ → ℕ) (crossings : List (List ℕ)) (state k : ℕ)
    → ((place : ℕ) → 4 * k ≤ place → place < 4 * length crossings
    → g (arc_at crossings (across state place)) ≡ g (arc_at crossings place))
    → Respects g (smoothings_from state k (drop k crossings))
later-across g crossings state k same =
    let e_too : 0 + k ≡ k = omega arith in
    subst (λ (p : ℕ). Respects g (smoothings_from state p (drop k crossings))) e_too
    (later-crossings g state 0 k crossings
    (λ at from below.
    let slots = slice_index_or crossings at [] in
    let e : at ≡ 0 + at = omega arith in
    subst (λ (p : ℕ). Respects g (smoothing_of (bit state p) slots)) e
    (by-slots g (nat_eq (bit state at) 0) slots
    (λ slot slot_below.
    ap g (sym (arc_at-slot crossings at (joined_slot (bit state at) slot) (joined_slot-below (bit state at) slot slot_below)))
    ∙ ap (λ p. g (arc_at crossings p)) (sym (across-slot state at slot slot_below))
    ∙ same (4 * at + slot) (omega (arith, from)) (omega (arith, below, slot_below)) ∙ ap g (arc_at-slot crossings at slot slot_below)))))
