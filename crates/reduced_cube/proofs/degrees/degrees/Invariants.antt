use Rattle.std.proofs.Common.{◌≡◌}
use Rattle.kh_types.specs.declared.limits.TheConstants.{EXPONENT}
use Rattle.reduced_cube.proofs.DegreeLemmas.{reduced_degrees_to}
use Rattle.reduced_cube.proofs.degrees.degrees.Given as goal

abbrev pub invariant-degrees : goal.invariant-degrees
invariant-degrees l = l.made.items ≡ reduced_degrees_to EXPONENT l.shapes l.place
