-- Codes that are small: their crossings have four slots each, and there are few of them. So are mirrors, reversals and unions.
use Rattle.std.proofs.Common.{◌≡◌, ◌≤◌, ◌∙◌, ℕ, List, length, map, refl, arith, get_or}
use Rattle.std.specs.Prelude.{All}
use Rattle.std.proofs.lemmas.List.{length-append, length-map}
use Rattle.std.proofs.lemmas.List.Elements.{All-append, All-map}
use Rattle.std.proofs.lemmas.List.FromFn.{length-map-range_with_len}
use Rattle.kh_types.specs.Code.{Code, arc_count}
use Rattle.kh_types.specs.declared.limits.TheConstants.{CROSSINGS}
use Rattle.code_passes.specs.Parts.{Parts, passes_through}
use Rattle.orient_arcs.specs.Renumbered.{number_in, order_of, renamed_crossing, renumber}
use Rattle.link_algebra.specs.Mirrors.{mirror_of, mirror_parts, mirror_slots, reversal_of, reversal_parts, reversal_slots}
use Rattle.link_algebra.specs.Unions.{crossings_together, raised_slots, union_of}

-- slots are four
abbrev pub AreFour : List ℕ → Type 0
AreFour slots = length slots ≡ 4

-- the crossings of a code have four slots each, and there are few of them
pub record IsSmall (code : Code) : Type 0 where
  pub four : All AreFour code.crossings
  pub few : length code.crossings ≤ CROSSINGS

-- what is made of each element has four slots
pub all-four : {X : Type 0} (f : X → List ℕ) (xs : List X) → ((x : X) → AreFour (f x)) → All AreFour (map f xs)
all-four f xs each = All-map AreFour f xs (λ k d below. each (get_or xs k d))

-- crossings that are renumbered
pub small-renumbered : (parts : Parts) → length parts.crossings ≤ CROSSINGS → IsSmall (renumber parts)
small-renumbered parts few =
    let name = renamed_crossing (number_in (order_of (passes_through parts))) in
    record {
      four = all-four name parts.crossings (λ slots. refl);
      few = omega (arith, few, length-map parts.crossings name);
    }

pub length-mirror : (code : Code) → length (mirror_of code).crossings ≡ length code.crossings
length-mirror code =
    length-map _ _ ∙ length-map-range_with_len (mirror_slots code.crossings) 1 (length code.crossings)

pub small-mirror : (code : Code) → IsSmall code → IsSmall (mirror_of code)
small-mirror code small =
    small-renumbered (mirror_parts code)
    (omega (arith, small.few, length-map-range_with_len (mirror_slots code.crossings) 1 (length code.crossings)))

pub small-reversal : (code : Code) → IsSmall code → IsSmall (reversal_of code)
small-reversal code small =
    small-renumbered (reversal_parts code)
    (omega (arith, small.few, length-map-range_with_len (reversal_slots code.crossings) 1 (length code.crossings)))

pub small-union : (first second : Code) → IsSmall first → crossings_together first second ≤ CROSSINGS → IsSmall (union_of first second)
small-union first second small few =
    let raise = raised_slots (arc_count first.crossings) in
    record {
      four = All-append AreFour first.crossings (map raise second.crossings) small.four (all-four raise second.crossings (λ slots. refl));
      few = omega (arith, few, length-append first.crossings (map raise second.crossings), length-map second.crossings raise);
    }
