use Rattle.std.proofs.Common.{◌∙◌, ap, length, map}
use Rattle.std.specs.List.{range_with_len}
use Rattle.kh_types.specs.Directions.{positive_in_at}
use Rattle.kh_types.proofs.acceptance.signs.signs.Goals as goal

pub returns : goal.returns
returns c =
    c.signs_in.ensures
    ∙ ap (λ components. map (positive_in_at c.args.crossings.now components) (range_with_len 0 (length c.args.crossings.now)))
    (c.deref.ensures.0 ∙ c.components_of.ensures)
