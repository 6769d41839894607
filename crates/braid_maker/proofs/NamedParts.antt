-- The parts of a closure, crossing by crossing.
use Rattle.std.proofs.Common.{◌≡◌, ℕ, ◌∙◌, List, length, map, ap, sym, Bool, ℤ}
use Rattle.std.specs.List.{range_with_len}
use Rattle.std.proofs.lemmas.Simd.{map-map}
use Rattle.code_passes.specs.Parts.{Parts}
use Rattle.orient_arcs.specs.Renumbered.{renamed_crossing}
use Rattle.braid_maker.specs.Words.{crossing_of_letter}
use Rattle.braid_maker.specs.Braids.{left_of, lower_left_is_over}
use Rattle.braid_maker.specs.Closures.{closure_parts, arc_name, named_crossing, straight_count}

abbrev pub parts_with : List (List ℕ) → List Bool → ℕ → Parts
parts_with crossings positive loops = record { crossings = crossings; positive = positive; loops = loops }

pub parts-are : (strands count : ℕ) (letters : List ℤ) (crossings : List (List ℕ)) (positive : List Bool) (loops : ℕ)
    → count ≡ length letters
    → crossings ≡ map (named_crossing strands (length letters) (left_of letters) (lower_left_is_over letters)) (range_with_len 0 count)
    → positive ≡ map (lower_left_is_over letters) (range_with_len 0 count) → loops ≡ straight_count strands letters
    → parts_with crossings positive loops ≡ closure_parts strands letters
parts-are strands count letters crossings positive loops all crossings_are positive_are loops_are =
    let n = length letters in
    let left = left_of letters in
    let whole =
    crossings_are
    ∙ ap (λ k. map (named_crossing strands n left (lower_left_is_over letters)) (range_with_len 0 k)) all
    ∙ sym (map-map (renamed_crossing (arc_name n left strands)) (crossing_of_letter n left (lower_left_is_over letters)) (range_with_len 0 n)) in
    ap (λ xs. parts_with xs positive loops) whole
    ∙ ap (λ xs. parts_with (closure_parts strands letters).crossings xs loops)
    (positive_are ∙ ap (λ k. map (lower_left_is_over letters) (range_with_len 0 k)) all)
    ∙ ap (λ k. parts_with (closure_parts strands letters).crossings (closure_parts strands letters).positive k) loops_are
