use Rattle.std.proofs.lemmas.Bool.Decides.{nat_tests}
use Rattle.std.proofs.Common.{◌∙◌, ap, arith}
use Rattle.kh_types.specs.Code.{Code}
use Rattle.kh_types.specs.Directions.{minus_count, plus_count}
use Rattle.cube_signs.proofs.KindDegrees.{kind_shapes-all, kind_shapes-more}
use Rattle.cube_signs.proofs.by_kind.kind_shapes.Goals as goal

pub push_shape-requires-clause-plus : goal.push_shape-requires-clause-plus
push_shape-requires-clause-plus c =
    c.of_diagram-signs.ensures.plus ∙ ap (λ (code : Code). plus_count code.crossings) c.diagram-diagram.ensures

pub push_shape-requires-clause-minus : goal.push_shape-requires-clause-minus
push_shape-requires-clause-minus c =
    c.of_diagram-signs.ensures.minus ∙ ap (λ (code : Code). minus_count code.crossings) c.diagram-diagram.ensures

pub kinds-preserved : goal.kinds-preserved
kinds-preserved = grind (arith, nat_tests, kind_shapes-more)

pub returns-clause-shapes : goal.returns-clause-shapes
returns-clause-shapes c =
    kind_shapes-all c.args.counted.now c.kinds.shapes.items c.kinds.kind c.kinds.invariant
    (omega (arith, c.kinds-test.false, c.kinds.auto.kind-end))
