use Rattle.cell_laws.proofs.Reductions.{lasting-reduced, reduction, survivors-reduced}
use Rattle.cell_laws.proofs.laws.survivors.reductions_count_survivors.Goals as goal

pub returns : goal.returns
returns g c =
    record {
      some = λ p cells field filtered. reduction p field cells filtered;
      survivors = survivors-reduced;
      lasting = lasting-reduced;
    }
