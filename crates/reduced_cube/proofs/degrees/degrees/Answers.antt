use Rattle.std.proofs.Common.{arith, refl}
use Rattle.kh_types.specs.declared.limits.TheConstants.{EXPONENT}
use Rattle.reduced_cube.proofs.DegreeLemmas.{reduced_degrees-all}
use Rattle.reduced_cube.proofs.degrees.degrees.Goals as goal

pub returns : goal.returns
returns c =
    reduced_degrees-all EXPONENT c.args.shapes.now c.degrees.made.items c.degrees.place refl (omega arith) c.degrees.invariant
