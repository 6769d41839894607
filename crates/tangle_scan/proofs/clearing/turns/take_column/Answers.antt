use Rattle.std.proofs.Common.{◌∙◌, ap}
use Rattle.tangle_scan.proofs.Turns.{column-here, column-other, entries}
use Rattle.tangle_scan.proofs.clearing.turns.take_column.Goals as goal

pub returns-clause-none : goal.returns-clause-none
returns-clause-none c =
    column-here c.args.columns.now.items c.args.place c.replace.new.dest c.requires ∙ ap entries c.replace.ensures.after
    ∙ c.new.ensures.items

pub returns-clause-others : goal.returns-clause-others
returns-clause-others c z other = column-other c.args.columns.now.items c.args.place z c.replace.new.dest other
