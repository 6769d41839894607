use Rattle.cell_laws.proofs.AlikeSurvivors.{filtered-alike, survivors-alike}
use Rattle.cell_laws.proofs.laws.survivors.alike_cells_have_the_same_survivors.Goals as goal

pub returns : goal.returns
returns g c =
    record {
      survivors = λ p to sign first second field below other_below alike. survivors-alike p to sign first second alike field below other_below;
      filtered = λ p to sign first second below alike filtered. filtered-alike p to sign first second below alike filtered;
    }
