use Rattle.std.proofs.Common.{arith}
use Rattle.kh_types.specs.declared.limits.TheConstants.{CROSSINGS}
use Rattle.morse_drawing.proofs.Pairs.{joins-loops, joins-many_loops}
use Rattle.morse_drawing.proofs.laws.loops_are_joined.Goals as goal

pub returns : goal.returns
returns c = record { few = joins-loops CROSSINGS; many = λ loops many. joins-many_loops CROSSINGS loops (omega (arith, many)) }
