use Rattle.std.proofs.Common.{[], ◌∷◌, ap, pos, sym, subst₂}
use Rattle.sparse_block.specs.Inside.{entries_in}
use Rattle.sparse_block.proofs.WorkedLemmas.{columns-made}
use Rattle.sparse_block.specs.Complexes.{MakeComplex}
use Rattle.column_reduction.proofs.WorkedInputs.{void-can}
use Rattle.cube_tests.proofs.column_reductions.void.Goals as goal

pub by_columns-requires : goal.by_columns-requires
by_columns-requires c =
    let made =
    columns-made [] [] [] [] c.new-first.result c.new-second.result
    c.new-third.result c.new-fourth.result c.in_ok-columns.columns.items c.in_ok-columns.ensures.items (ap entries_in c.new-first.ensures.items)
    (ap entries_in c.new-second.ensures.items) (ap entries_in c.new-third.ensures.items) (ap entries_in c.new-fourth.ensures.items) in
    subst₂ (MakeComplex 2 (pos 0)) (sym c.in_ok-names.ensures) (sym made) void-can
