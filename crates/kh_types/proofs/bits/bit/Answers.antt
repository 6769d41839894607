use Rattle.std.proofs.Common.{sym, arith}
use Rattle.kh_types.proofs.BitLemmas.{bit-past}
use Rattle.kh_types.proofs.bits.bit.Goals as goal

pub returns-else-place-lt64-clause-bit : goal.returns-else-place-lt64-clause-bit
returns-else-place-lt64-clause-bit c = sym (bit-past c.args.number c.args.place 64 (omega arith) c.if-place-lt64.false)
