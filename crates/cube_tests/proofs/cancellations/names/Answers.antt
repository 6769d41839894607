use Rattle.std.proofs.Common.{◌∙◌, [], ◌∷◌, List, ap}
use Rattle.kh_types.specs.Generators.{Generator, generator_of}
use Rattle.sparse_block.specs.Inside.{lists_in}
use Rattle.cube_tests.proofs.cancellations.names.Goals as goal

pub returns : goal.returns
returns c =
    let first : List Generator = generator_of 0 0 ∷ generator_of 0 1 ∷ generator_of 0 2 ∷ [] in
    ap lists_in c.in_ok-vec.ensures.items
    ∙ ap (λ (names : List Generator). names ∷ c.in_ok-second.second.items ∷ []) c.in_ok-first.ensures
    ∙ ap (λ (names : List Generator). first ∷ names ∷ []) c.in_ok-second.ensures
