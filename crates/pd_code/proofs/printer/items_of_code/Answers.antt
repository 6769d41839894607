use Rattle.std.proofs.Common.{map}
use Rattle.pd_code.specs.Printing.{crossing_item}
use Rattle.pd_code.proofs.PrintingLemmas.{loops_more}
use Rattle.pd_code.proofs.printer.items_of_code.Goals as goal

-- one more loop
pub loop-name-preserved : goal.loop-name-preserved
loop-name-preserved c = rw (c.in_ok-push-2.ensures.items, c.loop_item.ensures)
    (loops_more (map crossing_item c.args.diagram.now.crossings) c.loop-name.items.items _ c.loop-name.name c.loop-name.auto.name c.loop-name.invariant)
