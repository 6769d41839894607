use Rattle.std.proofs.Common.{arith}
use Rattle.std.proofs.lemmas.Int.{ints}
use Rattle.kh_types.specs.declared.limits.TheConstants.{EXPONENT}
use Rattle.kh_types.proofs.QuantumDegrees.{IsWithin-place}
use Rattle.jones_sum.proofs.laurent.exponent_at.Goals as goal

pub returns-clause-within : goal.returns-clause-within
returns-clause-within c = IsWithin-place EXPONENT c.args.place _ c.requires (omega (arith, ints))
