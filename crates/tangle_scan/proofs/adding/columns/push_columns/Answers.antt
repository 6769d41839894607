use Rattle.tangle_scan.proofs.MoreColumns.{columns-dead}
use Rattle.tangle_scan.proofs.adding.columns.push_columns.Goals as goal

pub returns-in-None-clause-columns : goal.returns-in-None-clause-columns
returns-in-None-clause-columns g c =
    columns-dead g.F.PrimeField.P c.args.links.now.adding.now c.args.place c.args.made.now.items c.in-None.ensures.none c.requires.made
