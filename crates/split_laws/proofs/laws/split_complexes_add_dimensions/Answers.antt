use Rattle.split_laws.proofs.SplitCells.{complex-lower, complex-upper, dimension-split}
use Rattle.split_laws.proofs.laws.split_complexes_add_dimensions.Goals as goal

pub returns : goal.returns
returns g c =
    record {
      upper = λ p cells lower added field complex splits. complex-upper p cells lower added field complex splits;
      lower = λ p cells lower added field complex splits. complex-lower p cells lower added field complex splits;
      dimensions = λ p cells lower added field complex splits. dimension-split p cells lower added field complex splits;
    }
