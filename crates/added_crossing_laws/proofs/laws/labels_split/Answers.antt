use Rattle.added_crossing_laws.specs.Codes.{closed_at, circles_behind}
use Rattle.added_crossing_laws.specs.Entries.{label_before}
use Rattle.added_crossing_laws.proofs.Labels.{number_of-below}
use Rattle.added_crossing_laws.proofs.laws.labels_split.Goals as goal
use Rattle.kh_types.proofs.BitLemmas.{bit-below}

pub returns : goal.returns
returns c = λ code k smoothing state number m. (
  number_of-below (label_before code k smoothing state m number) (closed_at code k smoothing m) (λ x. bit-below number _),
  number_of-below (label_before code k smoothing state m number) (circles_behind code k smoothing state m) (λ x. bit-below number _),
)
