use Rattle.std.proofs.Common.{length, ◌-◌}
use Rattle.undo_stack.proofs.Loops.{IsRead}
use Rattle.undo_stack.proofs.reader.commands_of.Given as goal

-- the lines before the place are read
abbrev pub invariant-loop-place : goal.invariant-loop-place
invariant-loop-place g l = IsRead g.T.Command.meaning l.text l.place l.number l.commands.items

abbrev pub decreases-loop-place : goal.decreases-loop-place
decreases-loop-place g l = length l.text - l.place
