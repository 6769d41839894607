use Rattle.cell_laws.proofs.LevelParts.{complex-level, dimension-left_level, dimension-level, eliminated-level}
use Rattle.cell_laws.proofs.laws.survivors.level_parts_are_complexes.Goals as goal

pub returns : goal.returns
returns g c =
    record {
      complex = complex-level;
      dimensions = dimension-level;
      left = λ p cells pairs rest filtered listed level. eliminated-level p cells filtered pairs rest listed level;
      eliminations = λ p cells pairs rest field filtered listed are level.
          dimension-left_level p cells filtered pairs rest listed level field are;
    }
