use Rattle.std.proofs.Common.{length, ◌-◌, map}
use Rattle.kh_lex.proofs.SectionLoops.{IsParted}
use Rattle.kh_lex.proofs.line_words.words_of.Given as goal

-- the words before the place stand in the list
abbrev pub invariant-loop-place : goal.invariant-loop-place
invariant-loop-place l = IsParted l.line l.place (map (λ word. word.now) l.words.items)

abbrev pub decreases-loop-place : goal.decreases-loop-place
decreases-loop-place l = length l.line - l.place
