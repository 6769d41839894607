use Rattle.std.proofs.Common.{[], ◌∷◌, ap, pos, sym, subst₂}
use Rattle.sparse_block.specs.Entries.{entry_at}
use Rattle.sparse_block.specs.Inside.{entries_in}
use Rattle.sparse_block.proofs.WorkedLemmas.{columns-made}
use Rattle.sparse_block.specs.Complexes.{MakeComplex}
use Rattle.column_reduction.proofs.WorkedInputs.{three-can}
use Rattle.cube_tests.proofs.column_reductions.three_rows.Goals as goal

pub by_columns-requires : goal.by_columns-requires
by_columns-requires c =
    let made =
    columns-made
    ((entry_at (0, 1) ∷ entry_at (1, 1) ∷ []) ∷ (entry_at (0, 2) ∷ entry_at (2, 1) ∷ [])
    ∷ (entry_at (1, 2) ∷ entry_at (2, 1) ∷ []) ∷ (entry_at (1, 1) ∷ entry_at (2, 1) ∷ []) ∷ [])
    ([] ∷ [] ∷ [] ∷ []) [] [] c.in_ok-first.first c.in_ok-second.second
    c.new-third.result c.new-fourth.result c.in_ok-columns.columns.items c.in_ok-columns.ensures.items c.in_ok-first.ensures
    c.in_ok-second.ensures (ap entries_in c.new-third.ensures.items) (ap entries_in c.new-fourth.ensures.items) in
    subst₂ (MakeComplex 3 (pos 0)) (sym c.in_ok-names.ensures) (sym made) three-can
