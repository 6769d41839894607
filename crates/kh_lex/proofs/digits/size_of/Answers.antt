use Rattle.std.proofs.Common.{arith}
use Rattle.std.proofs.lemmas.Int.Digits.{digits_value_more}
use Rattle.kh_lex.proofs.digits.size_of.Goals as goal

-- one more digit
pub loop-digit-preserved : goal.loop-digit-preserved
loop-digit-preserved c = omega (arith, digits_value_more 10 c.args.digits.now c.loop-digit.digit-index (omega arith))
