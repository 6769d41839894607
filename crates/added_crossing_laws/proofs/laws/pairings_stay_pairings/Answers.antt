use Rattle.added_crossing_laws.proofs.CodeSums.{IsCut-at}
use Rattle.added_crossing_laws.proofs.Pairs.{IsPairingOf-behind}
use Rattle.added_crossing_laws.proofs.laws.pairings_stay_pairings.Goals as goal

pub returns : goal.returns
returns c = record {
  paired = IsPairingOf-behind;
  joins = λ code k smoothing m twice below among. (IsCut-at code k smoothing 0 m twice below among).made;
}
