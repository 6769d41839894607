use Rattle.cell_laws.proofs.CubeCells.{member-from}
use Rattle.mark_laws.proofs.TurnsTwice.{turns-twice}
use Rattle.mark_laws.proofs.laws.turns.turns_square_to_zero.Goals as goal

pub returns : goal.returns
returns c code first last is has_first = turns-twice code is first last (member-from code first has_first)
