use Rattle.std.proofs.Common.{◌≡◌}
use Rattle.kh_types.specs.declared.limits.TheConstants.{EXPONENT}
use Rattle.cube_signs.proofs.ShapeLemmas.{degrees_to}
use Rattle.cube_signs.proofs.quantum_degrees.degrees.Given as goal

abbrev pub invariant-degrees : goal.invariant-degrees
invariant-degrees l = l.made.items ≡ degrees_to EXPONENT l.shapes l.place
