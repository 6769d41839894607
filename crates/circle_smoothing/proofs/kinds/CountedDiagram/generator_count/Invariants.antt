use Rattle.std.proofs.Common.{◌≡◌, ◌+◌, ◌≤◌, ◌*◌, ◌^◌}
use Rattle.std.specs.List.{range_with_len, sum_by}
use Rattle.kh_types.specs.declared.limits.TheConstants.{CIRCLES, CROSSINGS}
use Rattle.circle_smoothing.specs.GeneratorCounts.{kind_generators}
use Rattle.circle_smoothing.proofs.kinds.CountedDiagram.generator_count.Given as goal

abbrev pub invariant-kinds : goal.invariant-kinds
invariant-kinds l = record {
  count : l.total ≡ sum_by (kind_generators l.self) (range_with_len 0 l.kind);
  within : l.total ≤ l.kind * 2 ^ (CROSSINGS + CIRCLES);
}
