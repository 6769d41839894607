use Rattle.std.proofs.Common.{length, ◌-◌}
use Rattle.kh_lex.proofs.SectionLoops.{IsCounted}
use Rattle.kh_lex.proofs.line.line_count.Given as goal

-- the lines before the place are counted
abbrev pub invariant-loop-place : goal.invariant-loop-place
invariant-loop-place l = IsCounted l.text l.place l.count

abbrev pub decreases-loop-place : goal.decreases-loop-place
decreases-loop-place l = length l.text - l.place
