-- The marks of labels are dots of the seam of the surface that a crossing adds.
use Rattle.std.proofs.Common.{◌≡◌, ℕ, ◌-◌, ◌∙◌, List, length, map, subst₂, ap, arith}
use Rattle.std.specs.Prelude.{slice_index}
use Rattle.std.proofs.lemmas.List.{length-append, length-map}
use Rattle.kh_types.specs.Classes.{classes_of}
use Rattle.kh_types.specs.Code.{Code}
use Rattle.added_crossing_laws.specs.Codes.{closed_at}
use Rattle.tangle_maps.specs.declared.pairing.TheConstants.{POINTS}
use Rattle.crossing_maps.specs.declared.bridges.Bridge.{Bridge}
use Rattle.crossing_maps.specs.AddedSeams.{AreMarks, IsSeamAt, joins_there}
use Rattle.crossing_maps.specs.Bridges.{IsBridgeAt}

pub labelled-there : (code : Code) (k first second : ℕ) (m n : List (ℕ × ℕ)) (discs lowers : List ℕ) (label other marks : ℕ)
    (bridge : Bridge) → IsBridgeAt code k first second m n discs lowers bridge
    → AreMarks bridge.closed (length bridge.seam.second.items - bridge.closed) label other marks
    → IsSeamAt code k first second m n discs lowers label other bridge.seam marks
labelled-there code k first second m n discs lowers label other marks bridge at are =
    let class : ℕ → ℕ = slice_index (classes_of POINTS (joins_there code k first second m n)) in
    let closed = closed_at code k first m in
    let others = closed_at code k second n in
    let before : bridge.closed ≡ length closed = at.closed ∙ length-map closed class in
    let behind : length bridge.seam.second.items - bridge.closed ≡ length others =
    omega (
      arith,
      before,
      ap (λ (xs : List ℕ). length xs) at.seam.second,
      length-append (map class closed) (map class others),
      length-map closed class,
      length-map others class,
    ) in
    record { added = at.seam; labels = subst₂ (λ x y. AreMarks x y label other marks) before behind are }
