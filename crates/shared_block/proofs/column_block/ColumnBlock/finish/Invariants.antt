use Rattle.std.proofs.Common.{◌≡◌}
use mathlib.Core.List.{IsPrefix}
use Rattle.sparse_block.specs.Complexes.{live_places}
use Rattle.shared_block.specs.BlockHistories.{complex_of}
use Rattle.shared_block.proofs.column_block.ColumnBlock.finish.Given as goal

abbrev pub invariant-turns : goal.invariant-turns
invariant-turns g l =
    IsPrefix l.fn.self.history l.block.history
    × (l.block.diagram ≡ l.fn.self.diagram)
    × (l.block.degree ≡ l.fn.self.degree)

abbrev pub decreases-turns : goal.decreases-turns
decreases-turns g l = live_places (complex_of g.F.PrimeField.P l.block)
