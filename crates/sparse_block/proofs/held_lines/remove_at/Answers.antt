use Rattle.std.proofs.lemmas.Bool.Decides.{nat_tests}
use Rattle.std.proofs.Common.{arith, ◌≡◌, ◌∙◌, [], length, ap, refl}
use Rattle.std.specs.Prelude.{slice_index_or}
use Rattle.std.proofs.lemmas.List.{get_or-set_same}
use Rattle.smallvec.specs.SmallVec.{SmallVec}
use Rattle.sparse_block.specs.Entries.{Entry}
use Rattle.sparse_block.specs.Clearing.{without}
use Rattle.sparse_block.specs.Inside.{entries_in}
use Rattle.sparse_block.proofs.FilledLines.{length-line, recounted-set}
use Rattle.sparse_block.proofs.LineLemmas.{entries_in-set, line-got}
use Rattle.sparse_block.proofs.held_lines.remove_at.Goals.{After-remove}
use Rattle.sparse_block.proofs.held_lines.remove_at.Goals as goal

removed : (c : After-remove)
    → c.remove.new.line.items ≡ without c.args.place (slice_index_or (entries_in c.args.lines.now) c.args.line [])
removed c = grind (arith, nat_tests, line-got)

pub returns-clause-lines : goal.returns-clause-lines
returns-clause-lines = grind (arith, nat_tests, entries_in-set, removed, After-remove)

pub returns-clause-count : goal.returns-clause-count
returns-clause-count c =
    let lines = c.args.lines.now in
    let line = c.args.line in
    recounted-set lines line c.args.count c.recount.result c.len-before.result c.len-after.result c.remove.new.line
    c.remove.new.line.items c.requires.line refl c.requires.count
    (length-line lines line c.len-before.result c.index-lines-line.result c.requires.line
    c.len-before.ensures.value)
    (c.len-after.ensures.value
    ∙ ap (λ (line : SmallVec Entry). length line.items)
    (get_or-set_same lines line c.remove.new.line c.index-lines-line-3.result c.requires.line))
    c.recount.ensures
