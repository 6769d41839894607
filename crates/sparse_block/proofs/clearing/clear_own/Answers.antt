use Rattle.std.proofs.Common.{List, sym, subst}
use Rattle.sparse_block.specs.Entries.{Entry}
use Rattle.sparse_block.specs.Clearing.{CanClear, crossed_out}
use Rattle.sparse_block.proofs.ClearedLists.{can_clear-cleared}
use Rattle.sparse_block.proofs.clearing.clear_own.Goals as goal

pub clear-requires-2 : goal.clear-requires-2
clear-requires-2 c =
    let k = c.args.pair.k in
    let column = c.args.pair.column in
    subst (λ (columns : List (List (List Entry))). CanClear k column columns c.clear.new.lines) (sym c.clear.ensures.across)
    (subst (CanClear k column (crossed_out k c.args.pair.row c.args.columns.now)) (sym c.clear.ensures.lines)
    (can_clear-cleared k c.args.pair.row column c.args.rows.now c.args.columns.now c.requires.row
    c.requires.column))
