use Rattle.std.proofs.Common.{◌∙◌, ap, arith}
use Rattle.kh_types.specs.Circles.{circle_count}
use Rattle.kh_types.specs.Code.{Code}
use Rattle.reduced_cube.proofs.LoopNumbers.{loop-number}
use Rattle.reduced_cube.proofs.marks.circle_of.Goals as goal

pub overflow_sub-result : goal.overflow_sub-result
overflow_sub-result c =
    let state = c.args.circles.now.state in
    let counted = c.count.ensures.count ∙ ap (λ (code : Code). circle_count code state) c.requires.code in
    omega (
      arith,
      counted,
      loop-number c.args.diagram.now state c.args.mark c.diagram_laws.ensures.accepted c.requires.mark
          (omega (arith, c.if-mark-arcs.false, c.count-arcs.ensures.count)),
    )

pub overflow_sub-result-else-mark-arcs-2 : goal.overflow_sub-result-else-mark-arcs-2
overflow_sub-result-else-mark-arcs-2 c =
    let state = c.args.circles.now.state in
    let counted = c.count.ensures.count ∙ ap (λ (code : Code). circle_count code state) c.requires.code in
    omega (
      arith,
      counted,
      c.count-arcs.ensures.count,
      c.loops.ensures.loops,
      loop-number c.args.diagram.now state c.args.mark c.diagram_laws.ensures.accepted c.requires.mark
          (omega (arith, c.if-mark-arcs.false, c.count-arcs.ensures.count)),
    )

pub returns-else-mark-arcs : goal.returns-else-mark-arcs
returns-else-mark-arcs c =
    let state = c.args.circles.now.state in
    let counted = c.count.ensures.count ∙ ap (λ (code : Code). circle_count code state) c.requires.code in
    omega (
      arith,
      counted,
      c.count-arcs.ensures.count,
      c.loops.ensures.loops,
      loop-number c.args.diagram.now state c.args.mark c.diagram_laws.ensures.accepted c.requires.mark
          (omega (arith, c.if-mark-arcs.false, c.count-arcs.ensures.count)),
    )
