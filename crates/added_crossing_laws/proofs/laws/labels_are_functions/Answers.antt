use Rattle.added_crossing_laws.proofs.Labels.{marked-labels, marked_else-labels, Respects-label, marked-number_of, number_of-below}
use Rattle.added_crossing_laws.proofs.laws.labels_are_functions.Goals as goal

pub returns : goal.returns
returns c = record {
  marked = λ count number test joins. marked-labels count test joins number;
  marked_else = λ count number test joins. marked_else-labels count test joins number;
  respects = λ count number test joins. Respects-label count test joins number;
  number = marked-number_of;
  below = number_of-below;
}
