use Rattle.std.proofs.Common.{length, ◌-◌}
use Rattle.kh_lex.proofs.LexerSteps.{IsCut}
use Rattle.kh_lex.proofs.lexer.tokens.Given as goal

-- the text before the place is cut into the tokens so far
abbrev pub invariant-loop-place : goal.invariant-loop-place
invariant-loop-place l = IsCut l.text l.place l.tokens.items

abbrev pub decreases-loop-place : goal.decreases-loop-place
decreases-loop-place l = length l.text - l.place
