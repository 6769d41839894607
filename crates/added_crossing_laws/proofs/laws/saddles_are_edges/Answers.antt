use Rattle.std.proofs.Common.{◌∙◌, map}
use Rattle.kh_types.proofs.Residues.{same-equal}
use Rattle.surface_laws.specs.Surfaces.{value}
use Rattle.added_crossing_laws.specs.Codes.{saddle_sheet}
use Rattle.added_crossing_laws.specs.Saddles.{opposite, keeps_labels_at, touched_at, edge_with}
use Rattle.added_crossing_laws.proofs.EdgeProducts.{edge-plain}
use Rattle.added_crossing_laws.proofs.CodeSums.{sum-saddle}
use Rattle.added_crossing_laws.proofs.SaddleValues.{value-saddle}
use Rattle.added_crossing_laws.proofs.laws.saddles_are_edges.Goals as goal

pub returns : goal.returns
returns c = record {
  number = value-saddle;
  plain = λ code k state m label other_label.
      edge-plain (keeps_labels_at code k state m label other_label) (map label (touched_at code k 0 state m))
      (map other_label (touched_at code k 1 state m));
  sum = λ p h minus code k state m label other_label cancels at bits edge labelled closed.
      sum-saddle p h minus code k state m label (opposite other_label) cancels labelled closed
      ∙ same-equal p (value h minus (saddle_sheet code k state m label (opposite other_label)))
      (edge_with h minus code k state m label other_label) (value-saddle h minus code k state m label other_label at bits edge);
}
