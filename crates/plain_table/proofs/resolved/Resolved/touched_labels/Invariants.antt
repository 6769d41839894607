use Rattle.std.proofs.Common.{◌≡◌, ◌≤◌, map, take}
use Rattle.std.specs.List.{filter}
use Rattle.arrayvec.specs.ArrayVec.{array_vec_len}
use Rattle.kh_types.specs.Differential.{label_of, is_touched}
use Rattle.plain_table.proofs.resolved.Resolved.touched_labels.Given as goal

abbrev pub invariant-names : goal.invariant-names
invariant-names l =
    record {
      labels :
          l.labels.items
          ≡ map (label_of l.self.diagram l.self.generator)
          (filter (is_touched l.self.diagram l.self.generator.state l.crossing) (take l.circle-index l.names));
      size : array_vec_len l.labels ≤ l.circle-index;
    }
