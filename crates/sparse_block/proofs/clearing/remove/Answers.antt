use Rattle.std.proofs.Common.{◌∙◌}
use Rattle.sparse_block.proofs.RemovalLemmas.{remove-position, without-no_position}
use Rattle.sparse_block.proofs.clearing.remove.Goals as goal

pub returns-in-Some : goal.returns-in-Some
returns-in-Some c =
    c.remove.ensures.items
    ∙ remove-position c.requires.0 c.requires.1 c.args.place c.in-Some.at c.as_slice.result.now c.args.line.now.items
    c.as_slice.ensures c.requires.2 c.in-Some.ensures

pub returns-in_default : goal.returns-in_default
returns-in_default c =
    without-no_position c.args.place c.as_slice.result.now c.args.line.now.items c.as_slice.ensures c.in_default.ensures
