-- The parts of the mirror and of the reversal are those of the code, turned.
--
-- The mirror begins each crossing at its over pass, which becomes the under pass: the slots are turned by one or by three, as the sign
-- says. The reversal begins at the other end of the under pass, a turn by two. So both have the passes of the code at each place, under
-- other labels, and each name is a head as often as before in the mirror, and as often as it was a tail in the reversal.
use Rattle.std.proofs.lemmas.Bool.Decides.{nat_tests}
use Rattle.std.proofs.Common.{◌≡◌, ℕ, zero, suc, ◌+◌, ◌-◌, ◌%◌, ◌<◌, ◌∙◌, List, [], ◌∷◌, length, map, refl, sym, ap, ap₂, arith, cond, not, Bool, true, false, IsTrue}
use Rattle.std.specs.Prelude.{nat_eq, slice_index_or}
use Rattle.std.specs.List.{count_by, flat_map, range_with_len}
use Rattle.std.proofs.lemmas.List.{get_or-map}
use Rattle.std.proofs.lemmas.List.FromFn.{get_or-map-range_with_len, length-map-range_with_len}
use Rattle.kh_types.specs.Acceptance.{accepted}
use Rattle.kh_types.specs.Code.{Code, arc_in, slots_of}
use Rattle.kh_types.specs.Directions.{is_positive}
use Rattle.kh_types.proofs.Heads.{HasNoSingleArcs-accepted}
use Rattle.kh_types.proofs.ListSums.{sum_by-flat_map, sum_by-range_alike}
use Rattle.code_passes.specs.Passes.{Pass}
use Rattle.code_passes.specs.Parts.{Parts, head_count, is_positive_at, over_pass, parts_of, passes_at, passes_through, slots_in, tail_count, under_pass}
use Rattle.orient_arcs.proofs.PairedCodes.{ArePaired-directed}
use Rattle.link_algebra.specs.Mirrors.{mirror_parts, mirror_slots, over_slot, reversal_parts, reversal_slots, slots_from}
use Rattle.link_algebra.proofs.TurnedParts.{IsTurnOf}

-- by how many slots the mirror turns a crossing
abbrev pub mirror_turn : Bool → ℕ
mirror_turn positive = cond positive 1 3

-- passes that count alike at each place
counted-alike : (f g : ℕ → List Pass) (p q : Pass → Bool) (n : ℕ) → ((k : ℕ) → k < n → count_by p (f k) ≡ count_by q (g k))
    → count_by p (flat_map f (range_with_len 0 n)) ≡ count_by q (flat_map g (range_with_len 0 n))
counted-alike f g p q n alike = grind (arith, nat_tests, sum_by-flat_map, sum_by-range_alike)

-- whether a slot holds a name
abbrev test : ℕ → List ℕ → ℕ → ℕ
test x slots slot = cond (nat_eq (arc_in slots slot) x) 1 0

swapped : (a b : ℕ) → 0 + a + b ≡ 0 + b + a
swapped a b = omega arith

module _ (code : Code) where
  -- the crossings and the signs of the parts
  pub own-sign : (place : ℕ) → place < length code.crossings
      → is_positive_at (parts_of code).positive place ≡ is_positive code.crossings (place + 1)
  own-sign place below =
      get_or-map-range_with_len (is_positive code.crossings) 1 (length code.crossings) place (place + 1) false below (omega arith)

  pub mirror-sign : (place : ℕ) → place < length code.crossings
      → is_positive_at (mirror_parts code).positive place ≡ not (is_positive code.crossings (place + 1))
  mirror-sign place below =
      get_or-map not (map (is_positive code.crossings) (range_with_len 1 (length code.crossings))) place false false
      (omega (arith, below, length-map-range_with_len (is_positive code.crossings) 1 (length code.crossings)))
      ∙ ap not (own-sign place below)

  pub listed : (f : ℕ → List ℕ) (place : ℕ) → place < length code.crossings
      → slots_in (map f (range_with_len 1 (length code.crossings))) place ≡ f (place + 1)
  listed f place below = get_or-map-range_with_len f 1 (length code.crossings) place (place + 1) [] below (omega arith)

  slots-here : (place : ℕ) → slots_of code.crossings (place + 1) ≡ slots_in code.crossings place
  slots-here place = ap (λ k. slice_index_or code.crossings k []) (let e : place + 1 - 1 ≡ place = omega arith in e)

  mirror-listed : (place : ℕ) → place < length code.crossings
      → slots_in (mirror_parts code).crossings place
      ≡ slots_from (over_slot (is_positive code.crossings (place + 1))) (slots_in code.crossings place)
  mirror-listed place below = grind (arith, nat_tests, listed, slots-here)

  pub reversal-listed : (place : ℕ) → place < length code.crossings
      → slots_in (reversal_parts code).crossings place ≡ slots_from 2 (slots_in code.crossings place)
  reversal-listed place below = listed (reversal_slots code.crossings) place below ∙ ap (slots_from 2) (slots-here place)

  abbrev pub mirror_size : length (mirror_parts code).crossings ≡ length code.crossings
  mirror_size = length-map-range_with_len (mirror_slots code.crossings) 1 (length code.crossings)

  abbrev pub reversal_size : length (reversal_parts code).crossings ≡ length code.crossings
  reversal_size = length-map-range_with_len (reversal_slots code.crossings) 1 (length code.crossings)

  -- names at one end of passes are counted by crossings: here those of parts with turned slots and changed signs
  abbrev CountAlike : (Bool → ℕ) → (Bool → Bool) → (Pass → ℕ) → (Pass → ℕ) → ℕ → Type 0
  CountAlike turn sign end other x = (d : Bool) (slots : List ℕ) (place : ℕ)
      → count_by (λ (pass : Pass). nat_eq (end pass) x)
      (under_pass (slots_from (turn d) slots) place ∷ over_pass (slots_from (turn d) slots) (sign d) place ∷ [])
      ≡ count_by (λ (pass : Pass). nat_eq (other pass) x) (under_pass slots place ∷ over_pass slots d place ∷ [])

  parts-counted : (parts : Parts) (turn : Bool → ℕ) (sign : Bool → Bool) (end other : Pass → ℕ) (x : ℕ)
      → length parts.crossings ≡ length code.crossings
      → ((place : ℕ) → place < length code.crossings
      → slots_in parts.crossings place ≡ slots_from (turn (is_positive code.crossings (place + 1))) (slots_in code.crossings place))
      → ((place : ℕ) → place < length code.crossings → is_positive_at parts.positive place ≡ sign (is_positive code.crossings (place + 1)))
      → CountAlike turn sign end other x
      → count_by (λ (pass : Pass). nat_eq (end pass) x) (passes_through parts)
      ≡ count_by (λ (pass : Pass). nat_eq (other pass) x) (passes_through (parts_of code))
  parts-counted parts turn sign end other x size slots signs alike =
      let here = λ (pass : Pass). nat_eq (end pass) x in
      let there = λ (pass : Pass). nat_eq (other pass) x in
      ap (λ n. count_by here (flat_map (passes_at parts) (range_with_len 0 n))) size
      ∙ counted-alike (passes_at parts) (passes_at (parts_of code)) here there (length code.crossings)
      (λ place below.
      ap₂ (λ (s : List ℕ) b. count_by here (under_pass s place ∷ over_pass s b place ∷ [])) (slots place below) (signs place below)
      ∙ alike (is_positive code.crossings (place + 1)) (slots_in code.crossings place) place
      ∙ ap (λ b. count_by there (under_pass (slots_in code.crossings place) place ∷ over_pass (slots_in code.crossings place) b place ∷ []))
      (sym (own-sign place below)))

  -- in the mirror the two passes of a crossing exchange, and each keeps its direction
  mirror-heads : (x : ℕ) → head_count (mirror_parts code) x ≡ head_count (parts_of code) x
  mirror-heads x =
      parts-counted (mirror_parts code) over_slot not (λ (pass : Pass). pass.enters) (λ (pass : Pass). pass.enters) x mirror_size
      mirror-listed mirror-sign by
    where
      by : CountAlike over_slot not (λ (pass : Pass). pass.enters) (λ (pass : Pass). pass.enters) x
      by true slots place = swapped (test x slots 3) (test x slots 0)
      by false slots place = swapped (test x slots 1) (test x slots 0)

  mirror-tails : (x : ℕ) → tail_count (mirror_parts code) x ≡ tail_count (parts_of code) x
  mirror-tails x =
      parts-counted (mirror_parts code) over_slot not (λ (pass : Pass). pass.leaves) (λ (pass : Pass). pass.leaves) x mirror_size
      mirror-listed mirror-sign by
    where
      by : CountAlike over_slot not (λ (pass : Pass). pass.leaves) (λ (pass : Pass). pass.leaves) x
      by true slots place = swapped (test x slots 1) (test x slots 2)
      by false slots place = swapped (test x slots 3) (test x slots 2)

  -- in the reversal each pass enters where it left
  reversal-heads : (x : ℕ) → head_count (reversal_parts code) x ≡ tail_count (parts_of code) x
  reversal-heads x =
      parts-counted (reversal_parts code) (λ d. 2) (λ d. d) (λ (pass : Pass). pass.enters) (λ (pass : Pass). pass.leaves) x reversal_size
      reversal-listed own-sign by
    where
      by : CountAlike (λ d. 2) (λ d. d) (λ (pass : Pass). pass.enters) (λ (pass : Pass). pass.leaves) x
      by true slots place = refl
      by false slots place = refl

  reversal-tails : (x : ℕ) → tail_count (reversal_parts code) x ≡ head_count (parts_of code) x
  reversal-tails x =
      parts-counted (reversal_parts code) (λ d. 2) (λ d. d) (λ (pass : Pass). pass.leaves) (λ (pass : Pass). pass.enters) x reversal_size
      reversal-listed own-sign by
    where
      by : CountAlike (λ d. 2) (λ d. d) (λ (pass : Pass). pass.leaves) (λ (pass : Pass). pass.enters) x
      by true slots place = refl
      by false slots place = refl

  -- so both are the code's, turned
  pub IsTurnOf-mirror : IsTrue (accepted code) → IsTurnOf (λ crossing. mirror_turn (is_positive code.crossings crossing)) code (mirror_parts code)
  IsTurnOf-mirror holds =
      let own = ArePaired-directed code (HasNoSingleArcs-accepted code holds).0 (HasNoSingleArcs-accepted code holds).1 in
      record {
        size = mirror_size;
        loops = refl;
        few = λ crossing. few (is_positive code.crossings crossing);
        arcs = λ crossing slot is below.
            let place = crossing - 1 in
            let e : place + 1 ≡ crossing = omega (arith, is.positive) in
            let turn = mirror_turn (is_positive code.crossings crossing) in
            ap (λ slots. arc_in slots ((slot + turn) % 4))
            (mirror-listed place (omega (arith, is.positive, is.within))
            ∙ ap (λ c. slots_from (over_slot (is_positive code.crossings c)) (slots_in code.crossings place)) e)
            ∙ round (is_positive code.crossings crossing) (slots_of code.crossings crossing) slot below;
        heads = mirror-heads;
        tails = λ name. mirror-tails name ∙ own.tails name;
      }
    where
      few : (positive : Bool) → mirror_turn positive < 4
      few true = omega arith
      few false = omega arith

      round : (positive : Bool) (slots : List ℕ) (slot : ℕ) → slot < 4
          → arc_in (slots_from (over_slot positive) slots) ((slot + mirror_turn positive) % 4) ≡ arc_in slots slot
      round true slots zero below = refl
      round true slots (suc zero) below = refl
      round true slots (suc (suc zero)) below = refl
      round true slots (suc (suc (suc zero))) below = refl
      round false slots zero below = refl
      round false slots (suc zero) below = refl
      round false slots (suc (suc zero)) below = refl
      round false slots (suc (suc (suc zero))) below = refl
      round positive slots (suc (suc (suc (suc slot)))) below = absurd (omega (arith, below))

  pub IsTurnOf-reversal : IsTrue (accepted code) → IsTurnOf (λ crossing. 2) code (reversal_parts code)
  IsTurnOf-reversal holds =
      let own = ArePaired-directed code (HasNoSingleArcs-accepted code holds).0 (HasNoSingleArcs-accepted code holds).1 in
      record {
        size = reversal_size;
        loops = refl;
        few = λ crossing. omega arith;
        arcs = λ crossing slot is below.
            ap (λ slots. arc_in slots ((slot + 2) % 4)) (reversal-listed (crossing - 1) (omega (arith, is.positive, is.within)))
            ∙ round (slots_of code.crossings crossing) slot below;
        heads = λ name. reversal-heads name ∙ own.tails name;
        tails = reversal-tails;
      }
    where
      round : (slots : List ℕ) (slot : ℕ) → slot < 4 → arc_in (slots_from 2 slots) ((slot + 2) % 4) ≡ arc_in slots slot
      round slots zero below = refl
      round slots (suc zero) below = refl
      round slots (suc (suc zero)) below = refl
      round slots (suc (suc (suc zero))) below = refl
      round slots (suc (suc (suc (suc slot)))) below = absurd (omega (arith, below))
