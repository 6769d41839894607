use Rattle.std.proofs.Common.{◌≡◌, ◌+◌, ◌*◌, length, map, arith}
use Rattle.std.specs.List.{range_with_len}
use Rattle.circle_smoothing.specs.Prepared.{start_in}
use Rattle.circle_smoothing.proofs.TableLemmas.{HasStarts-table}
use Rattle.circle_smoothing.proofs.tables.starts_of.Goals as goal

pub returns : goal.returns
returns c =
    let all : c.loop-arc.starts.items
    ≡ map (start_in c.args.arcs.now) (range_with_len 0 (2 * length c.args.diagram.now.crossings + 1)) =
    grind arith in
    HasStarts-table c.args.diagram.now c.args.arcs.now c.loop-arc.starts.items c.crossings.ensures.accepted c.requires all
