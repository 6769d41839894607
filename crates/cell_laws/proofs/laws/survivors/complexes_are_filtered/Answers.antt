use Rattle.cell_laws.proofs.AlikeSurvivors.{complex-unfiltered}
use Rattle.cell_laws.proofs.LevelSurvivors.{filtered-level}
use Rattle.cell_laws.proofs.laws.survivors.complexes_are_filtered.Goals as goal

pub returns : goal.returns
returns g c = record { level = filtered-level; unfiltered = complex-unfiltered }
