use Rattle.tangle_scan.proofs.NotedRows.{named-other}
use Rattle.tangle_scan.proofs.clearing.rows.take_row.Goals as goal

pub returns-clause-others : goal.returns-clause-others
returns-clause-others c y other = named-other c.args.rows.now.items c.args.row y c.replace.new.dest other
