use Rattle.std.proofs.Common.{[], ◌∷◌, ap, pos, sym, subst₂}
use Rattle.sparse_block.specs.Entries.{entry_at}
use Rattle.sparse_block.specs.Inside.{entries_in}
use Rattle.sparse_block.proofs.WorkedLemmas.{columns-made}
use Rattle.sparse_block.specs.Complexes.{MakeComplex}
use Rattle.cube_tests.proofs.column_reductions.square.Goals as goal

pub by_columns-requires : goal.by_columns-requires
by_columns-requires g c =
    let made =
    columns-made ((entry_at (0, 1) ∷ entry_at (1, 1) ∷ []) ∷ [])
    ((entry_at (0, 1) ∷ []) ∷ (entry_at (0, c.args.last) ∷ []) ∷ []) ([] ∷ []) [] c.in_ok-first.first c.in_ok-second.second
    c.in_ok-third.third c.new-fourth.result c.in_ok-columns.columns.items c.in_ok-columns.ensures.items c.in_ok-first.ensures
    c.in_ok-second.ensures c.in_ok-third.ensures (ap entries_in c.new-fourth.ensures.items) in
    subst₂ (MakeComplex g.F.PrimeField.P (pos 0)) (sym c.in_ok-names.ensures) (sym made) c.requires
