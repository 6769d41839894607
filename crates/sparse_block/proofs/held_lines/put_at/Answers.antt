use Rattle.std.proofs.Common.{refl}
use Rattle.sparse_block.specs.Inside.{entries_in}
use Rattle.sparse_block.proofs.FilledLines.{filled-counted, length-line, recounted-set, within-entries}
use Rattle.sparse_block.proofs.LineLemmas.{entries_in-set}
use Rattle.sparse_block.proofs.held_lines.put_at.Goals as goal

pub recount-requires-clause-before : goal.recount-requires-clause-before
recount-requires-clause-before c =
    let lines = c.args.lines.now in
    let place = c.args.place in
    filled-counted (entries_in lines) place c.args.count c.len-before.result (within-entries lines place c.requires.place)
    c.requires.count
    (length-line lines place c.len-before.result c.index-lines-place.result c.requires.place
    c.len-before.ensures.value)

pub returns-clause-lines : goal.returns-clause-lines
returns-clause-lines c = entries_in-set c.args.lines.now c.args.place c.args.entries c.args.entries.items refl

pub returns-clause-count : goal.returns-clause-count
returns-clause-count c =
    let lines = c.args.lines.now in
    let place = c.args.place in
    recounted-set lines place c.args.count c.recount.result c.len-before.result c.len-after.result c.args.entries
    c.args.entries.items c.requires.place refl c.requires.count
    (length-line lines place c.len-before.result c.index-lines-place.result c.requires.place
    c.len-before.ensures.value)
    c.len-after.ensures.value c.recount.ensures
