use Rattle.std.proofs.Common.{◌∙◌, ◌++◌, List, ap, length, subst, sym, to_z, of_z, w16, IsTrue}
use Rattle.std.proofs.lemmas.Int.{to_z-of_z}
use Rattle.kh_types.specs.Acceptance.{accepted}
use Rattle.kh_types.specs.Code.{Code}
use Rattle.kh_types.specs.Table.{Row}
use Rattle.reduced_cube.specs.Marks.{Marked}
use Rattle.reduced_cube.specs.Reduced.{reduced_block, reduced_rows}
use Rattle.reduced_cube.proofs.FinishedBlocks.{rows-finished}
use Rattle.reduced_cube.proofs.marked_cube.MarkedCube.push_block.Goals as goal

pub returns : goal.returns
returns g c =
    let p = g.F.PrimeField.P in
    let inside = c.self.inside in
    let j = to_z w16 (of_z w16 c.args.j) in
    c.in_ok-push_rows.ensures
    ∙ ap (λ (more : List Row). c.args.rows.now.items ++ more)
    (rows-finished p inside.cube inside.mark j (length c.crossings-reach.result.now) c.in_ok-opening_block.field-0 c.in_ok-reduced.reduced.complex
    c.element_laws.ensures.field
    (subst (λ (code : Code). IsTrue (accepted code)) c.diagram.ensures c.crossings-reach.ensures.accepted) c.self.invariant.name
    (c.in_ok-opening_block.ensures ∙ ap (λ (marked : Marked). reduced_block p marked.code marked.mark j) (sym c.self.view_is))
    (record {
      history = c.in_ok-reduced.reduced.pivots.items;
      legal = c.in_ok-reduced.ensures.legal;
      replayed = c.in_ok-reduced.ensures.left;
    })
    c.in_ok-reduced.ensures.zero
    (ap length c.crossings-reach.ensures.crossings ∙ ap (λ (code : Code). length code.crossings) c.diagram.ensures)
    ∙ ap (reduced_rows p inside.cube inside.mark) (to_z-of_z w16 c.args.j c.ranges.j)
    ∙ ap (λ (marked : Marked). reduced_rows p marked.code marked.mark c.args.j) c.self.view_is)
