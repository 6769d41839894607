use Rattle.std.proofs.Common.{arith, refl}
use Rattle.kh_types.specs.declared.limits.TheConstants.{EXPONENT}
use Rattle.cube_signs.proofs.ShapeLemmas.{degrees_to-all}
use Rattle.cube_signs.proofs.quantum_degrees.degrees.Goals as goal

pub returns : goal.returns
returns c =
    degrees_to-all EXPONENT c.args.shapes.now c.degrees.made.items c.degrees.place refl (omega arith) c.degrees.invariant
