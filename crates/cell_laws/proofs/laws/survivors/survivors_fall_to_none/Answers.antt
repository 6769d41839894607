use Rattle.cell_laws.proofs.Ends.{survivors-above, survivors-all}
use Rattle.cell_laws.proofs.LevelSurvivors.{survivors-sums}
use Rattle.cell_laws.proofs.Reductions.{survivors-fall}
use Rattle.cell_laws.proofs.laws.survivors.survivors_fall_to_none.Goals as goal

pub returns : goal.returns
returns g c =
    record {
      all = λ p cells field below i t least. survivors-all p cells field below i t least;
      none = λ p cells field below i t past. survivors-above p cells field below i t past;
      fall = λ p cells field filtered i t. survivors-fall p field cells filtered i t;
      sums = λ p cells field filtered i t n past. survivors-sums p cells field filtered i t n past;
    }
