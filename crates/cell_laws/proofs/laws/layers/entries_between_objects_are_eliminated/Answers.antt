use Rattle.cell_laws.proofs.LayerCells.{complex-layers, dimension-layers}
use Rattle.cell_laws.proofs.laws.layers.entries_between_objects_are_eliminated.Goals as goal

pub returns : goal.returns
returns c = record { complex = complex-layers; dimensions = dimension-layers }
