use Rattle.std.proofs.lemmas.Bool.Decides.{nat_tests}
use Rattle.std.proofs.Common.{arith}
use Rattle.kh_lex.proofs.SectionLoops.{IsParted-piece}
use Rattle.kh_lex.proofs.line_words.words_of.Goals as goal

-- one more piece
pub loop-place-preserved : goal.loop-place-preserved
loop-place-preserved = grind (arith, nat_tests, IsParted-piece)
