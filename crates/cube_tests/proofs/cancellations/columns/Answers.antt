use Rattle.std.proofs.Common.{◌∙◌, [], ◌∷◌, List, ap}
use Rattle.sparse_block.specs.Entries.{Entry, entry_at}
use Rattle.sparse_block.specs.Inside.{entries_in, lines_in}
use Rattle.cube_tests.proofs.cancellations.columns.Goals as goal

pub returns : goal.returns
returns c =
    let left : List Entry = entry_at (0, 1) ∷ entry_at (1, 2) ∷ [] in
    let middle : List Entry = entry_at (1, c.args.x) ∷ entry_at (2, 1) ∷ [] in
    let right : List Entry = entry_at (0, c.args.y) ∷ entry_at (2, 4) ∷ [] in
    ap lines_in c.in_ok-vec.ensures.items
    ∙ ap (λ (columns : List (List Entry)). columns ∷ entries_in c.in_ok-second.second.items ∷ []) c.in_ok-first.ensures
    ∙ ap (λ (columns : List (List Entry)). (left ∷ middle ∷ right ∷ []) ∷ columns ∷ []) c.in_ok-second.ensures
