-- The joins of a pairing, a smoothing of the next crossing and what a state joins after it, their classes, and the arcs at the crossing.
use Rattle.std.proofs.Common.{ℕ, ◌+◌, List, [], ◌++◌}
use Rattle.std.specs.Prelude.{slice_index_or}
use Rattle.kh_types.specs.Code.{Code, arc_in}
use Rattle.kh_types.specs.Classes.{classes_of}
use Rattle.surface_laws.specs.Points.{AreAmong}
use Rattle.genus_laws.specs.CutCodes.{outer_smoothings}
use Rattle.added_crossing_laws.specs.Codes.{points_at, step_at, smoothing_at, pairing_behind}
use Rattle.added_crossing_laws.specs.Saddles.{IsPairedAt}
use Rattle.added_crossing_laws.proofs.CutJoins.{whole-among}
use Rattle.added_crossing_laws.proofs.CodeSteps.{count_of}
use Rattle.added_crossing_laws.proofs.CodeSums.{IsCut-at}

abbrev pub joins_with : Code → ℕ → ℕ → List (ℕ × ℕ) → ℕ → List (ℕ × ℕ)
joins_with code k state m smoothing = (m ++ smoothing_at code k smoothing) ++ outer_smoothings code.crossings state (k + 1)

abbrev pub classes_with : Code → ℕ → ℕ → List (ℕ × ℕ) → ℕ → List ℕ
classes_with code k state m smoothing = classes_of (count_of code + 1) (joins_with code k state m smoothing)

abbrev pub arc_of_slot : Code → ℕ → ℕ → ℕ
arc_of_slot code k slot = arc_in (slice_index_or code.crossings k []) slot

pub joins-alive : (code : Code) (k state smoothing : ℕ) (m : List (ℕ × ℕ)) → IsPairedAt code k m
    → AreAmong (points_at code k).alive (joins_with code k state m smoothing)
joins-alive code k state smoothing m at =
    whole-among (step_at code k) (m ++ smoothing_at code k smoothing) (pairing_behind code k smoothing m)
    (outer_smoothings code.crossings state (k + 1)) (IsCut-at code k smoothing state m at.twice at.crossing at.paired.among)
