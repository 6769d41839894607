use Rattle.std.proofs.Common.{◌∙◌, ap}
use Rattle.sparse_block.specs.Complexes.{NamedComplex}
use Rattle.cube_signs.specs.Chosen.{has_minus}
use Rattle.cube_signs.proofs.BlockSources.{names-chosen}
use Rattle.cube_signs.proofs.chosen_opening.ChosenBlockOwnedSource.into_names.Goals as goal

pub returns : goal.returns
returns g c =
    let held = c.self.inside in
    c.self.invariant.are_names ∙ names-chosen (has_minus held.circles.now) g.F.PrimeField.P held.cube.now held.lowest.j
    ∙ ap (λ (named : NamedComplex). named.names) c.self.view_is
