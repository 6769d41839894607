use Rattle.cell_laws.proofs.LevelSurvivors.{lasting-level, survivors-level}
use Rattle.cell_laws.proofs.laws.survivors.survivors_of_level_cells.Goals as goal

pub returns : goal.returns
returns g c =
    record {
      sums = λ p cells field complex i t n past. survivors-level p cells field complex i t n past;
      lasting = λ p cells field complex i j. lasting-level p cells field complex i j;
    }
