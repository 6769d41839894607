use Rattle.cell_laws.proofs.LeftFiltered.{gap-left, gap-next}
use Rattle.cell_laws.proofs.laws.survivors.eliminations_keep_gaps.Goals as goal

pub returns : goal.returns
returns g c =
    record {
      kept = λ p cells gap pairs rest listed least each. gap-left p cells pairs rest listed gap least each;
      next = gap-next;
    }
