use Rattle.std.proofs.Common.{◌∷◌, [], ap}
use Rattle.std.specs.Prelude.{slice_index}
use Rattle.sparse_block.specs.Entries.{entry_at}
use Rattle.sparse_block.specs.Inside.{entries_in}
use Rattle.sparse_block.specs.Worked.{worked_first}
use Rattle.sparse_block.proofs.WorkedLemmas.{columns-made}
use Rattle.cube_tests.proofs.sparse_complexes.columns.Goals as goal

pub returns : goal.returns
returns c =
    let last = c.args.last in
    columns-made worked_first
    ((entry_at (0, slice_index last 0) ∷ []) ∷ (entry_at (0, slice_index last 1) ∷ []) ∷ (entry_at (0, slice_index last 2) ∷ []) ∷ [])
    ([] ∷ []) [] c.in_ok-first.first c.in_ok-second.second c.in_ok-third.third c.new-fourth.result c.in_ok-vec.field-0.items
    c.in_ok-vec.ensures.items c.in_ok-first.ensures c.in_ok-second.ensures c.in_ok-third.ensures
    (ap entries_in c.new-fourth.ensures.items)
