use Rattle.std.proofs.Common.{◌∷◌, []}
use Rattle.sparse_block.specs.Entries.{entry_at}
use Rattle.sparse_block.proofs.WorkedLemmas.{columns-made}
use Rattle.cube_tests.proofs.sparse_complexes.cancelling.middle_lines.Goals as goal

pub returns : goal.returns
returns c =
    columns-made ((entry_at (0, 1) ∷ entry_at (1, 1) ∷ []) ∷ [])
    ((entry_at (0, 2) ∷ entry_at (1, 2) ∷ []) ∷ (entry_at (0, 3) ∷ entry_at (1, 3) ∷ []) ∷ [])
    ((entry_at (0, 1) ∷ []) ∷ (entry_at (0, 4) ∷ []) ∷ []) ([] ∷ []) c.in_ok-first.first c.in_ok-second.second
    c.in_ok-third.third c.in_ok-fourth.fourth c.in_ok-vec.field-0.items c.in_ok-vec.ensures.items c.in_ok-first.ensures
    c.in_ok-second.ensures c.in_ok-third.ensures c.in_ok-fourth.ensures
