use Rattle.std.proofs.Common.{◌∙◌, ap}
use Rattle.kh_types.specs.Code.{Code}
use Rattle.kh_types.specs.Directions.{plus_count, minus_count}
use Rattle.jones_sum.proofs.terms.Signs.of_counted.Goals as goal

pub returns-clause-plus : goal.returns-clause-plus
returns-clause-plus c = c.plus.ensures.count ∙ ap (λ (code : Code). plus_count code.crossings) c.diagram-diagram.ensures

pub returns-clause-minus : goal.returns-clause-minus
returns-clause-minus c = c.minus.ensures ∙ ap (λ (code : Code). minus_count code.crossings) c.diagram-diagram.ensures
