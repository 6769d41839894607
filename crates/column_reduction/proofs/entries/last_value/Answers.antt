use Rattle.std.proofs.Common.{◌<◌, ◌-◌, ◌∙◌, ap, length, arith, rules}
use Rattle.sparse_block.specs.Entries.{Entry}
use Rattle.column_reduction.proofs.LastEntries.{value-last_entry}
use Rattle.column_reduction.proofs.entries.last_value.Goals as goal

pub returns : goal.returns
returns c row ends =
    let line = c.args.line.now in
    let entry = c.index-line-line.result in
    let some : length line - 1 < length line = search rules in
    c.value.ensures.value ∙ ap (λ (entry : Entry). entry.value) c.index-line-line.is
    ∙ value-last_entry c.requires.0 c.requires.1 (length line - 1) row line entry c.requires.2 (omega (arith, some)) ends
