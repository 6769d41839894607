use Rattle.std.proofs.Common.{◌≡◌}
use Rattle.cube_signs.specs.LabelRanks.{ranks_of}
use Rattle.cube_signs.proofs.LabelRankLemmas.{AreCounted}
use Rattle.cube_signs.proofs.labels.ranks_of.Given as goal

abbrev pub invariant-labels : goal.invariant-labels
invariant-labels l = record {
  counts : AreCounted l.weights l.label l.counts;
  ranks : l.ranks.items ≡ ranks_of l.weights l.label;
}
