use Rattle.std.proofs.Common.{sym, subst, List, ℕ, ◌<◌, ◌^◌}
use Rattle.std.specs.List.{All}
use Rattle.sparse_block.specs.Inside.{lists_in}
use Rattle.cube_signs.specs.Tables.{AreRanks, AreTables}
use Rattle.cube_signs.proofs.LabelPlaces.{AreRanks-tables, small-ranks}
use Rattle.cube_signs.proofs.cube.Cube.ranks.Goals as goal

pub returns-clause-ranks : goal.returns-clause-ranks
returns-clause-ranks c =
    let inside = c.self.inside in
    let are : AreTables c.args.self.now inside.minus inside.shapes.items inside.rows.items
    (lists_in inside.labels.items) inside.ranks.items (lists_in inside.levels.items) =
    rw (← c.self.view_is) c.self.invariant in
    subst (AreRanks c.args.self.now) (sym c.deref.ensures.value)
    (AreRanks-tables c.args.self.now inside.minus inside.shapes.items inside.rows.items
    (lists_in inside.labels.items) inside.ranks.items (lists_in inside.levels.items) are)

pub returns-clause-small : goal.returns-clause-small
returns-clause-small c =
    let inside = c.self.inside in
    let are : AreTables c.args.self.now inside.minus inside.shapes.items inside.rows.items
    (lists_in inside.labels.items) inside.ranks.items (lists_in inside.levels.items) =
    rw (← c.self.view_is) c.self.invariant in
    subst (λ (ranks : List ℕ). All (λ rank. rank < 2 ^ 28) ranks) (sym c.deref.ensures.value)
    (small-ranks c.args.self.now inside.minus inside.shapes.items inside.rows.items
    (lists_in inside.labels.items) inside.ranks.items (lists_in inside.levels.items) are)
