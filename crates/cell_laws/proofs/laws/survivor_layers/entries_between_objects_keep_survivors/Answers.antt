use Rattle.cell_laws.proofs.LayerSurvivors.{filtered-layers, survivors-layers}
use Rattle.cell_laws.proofs.laws.survivor_layers.entries_between_objects_keep_survivors.Goals as goal

pub returns : goal.returns
returns c = record { filtered = filtered-layers; survivors = survivors-layers }
