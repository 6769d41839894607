use Rattle.std.proofs.Common.{◌∙◌, subst, sym, ap, arith, get_or, List, ℕ}
use Rattle.sparse_block.specs.Inside.{lists_in}
use Rattle.cube_signs.specs.Tables.{AreLabels, AreTables}
use Rattle.cube_signs.proofs.LabelLists.{AreLabels-at, AreLabels-past}
use Rattle.cube_signs.proofs.cube.Cube.labels_with.Goals as goal

pub returns-then-weight-len : goal.returns-then-weight-len
returns-then-weight-len c =
    let inside = c.self.inside in
    let are : AreTables c.args.self.now inside.minus inside.shapes.items inside.rows.items (lists_in inside.labels.items) inside.ranks.items
    (lists_in inside.levels.items) =
    rw (← c.self.view_is) c.self.invariant in
    subst (λ (labels : List ℕ). AreLabels c.args.self.now c.args.weight labels) (sym c.deref.ensures.value)
    (AreLabels-at c.args.self.now inside.minus inside.shapes.items inside.rows.items inside.labels.items inside.ranks.items
    (lists_in inside.levels.items) c.index.result.now c.args.weight are
    (omega (arith, c.from-weight.ensures, c.len.ensures, c.if-weight-len.true))
    (c.index.ensures ∙ ap (λ k. get_or inside.labels.items k c.index.result.now) c.from-weight.ensures))

pub returns-else-weight-len : goal.returns-else-weight-len
returns-else-weight-len c =
    let inside = c.self.inside in
    let are : AreTables c.args.self.now inside.minus inside.shapes.items inside.rows.items (lists_in inside.labels.items) inside.ranks.items
    (lists_in inside.levels.items) =
    rw (← c.self.view_is) c.self.invariant in
    AreLabels-past c.args.self.now inside.minus inside.shapes.items inside.rows.items inside.labels.items inside.ranks.items
    (lists_in inside.levels.items) c.args.weight are (omega (arith, c.from-weight.ensures, c.len.ensures, c.if-weight-len.false))
