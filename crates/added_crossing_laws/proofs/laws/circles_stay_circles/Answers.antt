use Rattle.std.specs.Prelude.{◌+◌, ◌++◌}
use Rattle.genus_laws.specs.CutCodes.{outer_smoothings}
use Rattle.added_crossing_laws.specs.Codes.{step_at, smoothing_at, pairing_behind}
use Rattle.added_crossing_laws.proofs.KeptCircles.{sum-circles, count-circles, together-outside}
use Rattle.added_crossing_laws.proofs.CodeSums.{IsCut-at}
use Rattle.added_crossing_laws.proofs.laws.circles_stay_circles.Goals as goal

pub returns : goal.returns
returns c = record {
  count = λ code k smoothing state m twice below among.
      count-circles (step_at code k) (m ++ smoothing_at code k smoothing) (pairing_behind code k smoothing m)
      (outer_smoothings code.crossings state (k + 1)) (IsCut-at code k smoothing state m twice below among);
  together = λ code k smoothing state m x y twice below among.
      together-outside (step_at code k) (m ++ smoothing_at code k smoothing) (pairing_behind code k smoothing m)
      (outer_smoothings code.crossings state (k + 1)) x y (IsCut-at code k smoothing state m twice below among);
  sum = λ code k smoothing state m f twice below among.
      sum-circles (step_at code k) (m ++ smoothing_at code k smoothing) (pairing_behind code k smoothing m)
      (outer_smoothings code.crossings state (k + 1)) f (IsCut-at code k smoothing state m twice below among);
}
