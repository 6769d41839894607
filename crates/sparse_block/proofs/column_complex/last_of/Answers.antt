use Rattle.std.proofs.Common.{◌≡◌, ◌∙◌, ◌+◌, ◌-◌, rules, sym, ap, length, Some, None}
use Rattle.sparse_block.proofs.LastLemmas.{last-at}
use Rattle.sparse_block.proofs.column_complex.last_of.Goals as goal

pub returns : goal.returns
returns c =
    let entries = c.args.entries.now in
    let h1 = c.is_empty.ensures in
    let h2 = c.if-is_empty.false in
    let h3 = c.if-is_empty.ensures in
    let some : (length entries - 1) + 1 ≡ length entries = search rules in
    sym (last-at None entries (length entries - 1) c.index-entries-entries.result some ∙ ap Some (sym c.index-entries-entries.is))
