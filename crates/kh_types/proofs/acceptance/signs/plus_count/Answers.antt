use Rattle.std.proofs.Common.{◌∙◌, ap}
use Rattle.std.specs.List.{count_by}
use Rattle.kh_types.specs.Code.{crossing_numbers}
use Rattle.kh_types.specs.Directions.{is_positive_in}
use Rattle.kh_types.proofs.acceptance.signs.plus_count.Goals as goal

pub returns : goal.returns
returns c =
    c.plus_count_in.ensures
    ∙ ap (λ components. count_by (is_positive_in c.args.crossings.now components) (crossing_numbers c.args.crossings.now))
    (c.deref.ensures.0 ∙ c.components_of.ensures)
