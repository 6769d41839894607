use Rattle.std.proofs.Common.{◌∙◌, ◌++◌, ◌∷◌, [], List, ap, sym, map}
use Rattle.std.specs.List.{range_with_len}
use Rattle.kh_types.specs.Generators.{Generator, generator_of}
use Rattle.kh_types.proofs.Ranges.{map_from_zero}
use Rattle.cube_tests.proofs.made_complexes.labels.Goals as goal

pub labels-preserved : goal.labels-preserved
labels-preserved c =
    let generator = generator_of c.args.state in
    let label = c.labels.label in
    c.in_ok-push.ensures.items
    ∙ ap (λ (made : List Generator). made ++ c.name.result ∷ []) c.labels.invariant
    ∙ ap (λ (name : Generator). map generator (range_with_len 0 label) ++ name ∷ []) c.name.ensures
    ∙ sym (map_from_zero generator label)
