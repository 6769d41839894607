-- The labels of the generators of two degrees that a state has.
use Rattle.std.proofs.Common.{◌≡◌, ℕ, ◌^◌, ◌<◌, ◌∙◌, ℤ, List, [], length, map, sym, ap, None, Some}
use Rattle.std.specs.Prelude.{nat_lt}
use Rattle.std.specs.List.{filter}
use Rattle.kh_types.specs.Circles.{circle_count}
use Rattle.kh_types.specs.Code.{Code}
use Rattle.kh_types.specs.Generators.{generator_of}
use Rattle.cube_signs.specs.LabelRanks.{labels_with, weights_of}
use Rattle.cube_signs.specs.Tables.{state_generators, AreLabels, IsWeight}
use Rattle.cube_signs.proofs.GeneratorPlaces.{state_generators-labels}
use Rattle.cube_signs.proofs.LabelLists.{first-labels}
use Rattle.cube_signs.proofs.LabelPlaces.{labels_with-given, state_generators-none, weights-state, AtState}

-- the generators of a state, with a weight or without
given-generators : (code : Code) (i j : ℤ) (state weight circles : ℕ) (weights : List ℕ) → AtState code state weights
    → IsWeight code i j state (Some weight) → circles ≡ circle_count code state
    → map (generator_of state) (labels_with weights weight (2 ^ circles)) ≡ state_generators code i j state
given-generators code i j state weight circles weights at is is_circles =
    ap (λ (count : ℕ). map (generator_of state) (labels_with weights weight (2 ^ count))) is_circles
    ∙ ap (map (generator_of state)) (labels_with-given code i j state weight weights at is.labels)
    ∙ sym (state_generators-labels code i j state)

pub labels-given : (code : Code) (i j : ℤ) (state weight circles : ℕ) (labels made : List ℕ) → AreLabels code weight labels
    → state < 2 ^ length code.crossings → IsWeight code i j state (Some weight) → circles ≡ circle_count code state
    → made ≡ filter (λ label. nat_lt label (2 ^ circles)) labels → map (generator_of state) made ≡ state_generators code i j state
labels-given code i j state weight circles labels made are below is is_circles is_made =
    ap (map (generator_of state)) (is_made ∙ first-labels code state weight circles labels are below is_circles)
    ∙ given-generators code i j state weight circles (weights_of are.width)
    (weights-state code are.width state (are.most state below)) is is_circles

pub labels-none : (code : Code) (i j : ℤ) (state : ℕ) → IsWeight code i j state None
    → map (generator_of state) [] ≡ state_generators code i j state
labels-none code i j state is = sym (state_generators-none code i j state is.labels)
