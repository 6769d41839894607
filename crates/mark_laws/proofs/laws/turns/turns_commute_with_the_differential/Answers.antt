use Rattle.cell_laws.proofs.CubeCells.{member-from}
use Rattle.mark_laws.proofs.CubeTurns.{turns-commute}
use Rattle.mark_laws.proofs.laws.turns.turns_commute_with_the_differential.Goals as goal

pub returns : goal.returns
returns c code tail head is has_tail has_head =
    turns-commute code is tail head (member-from code tail has_tail) (member-from code head has_head)
