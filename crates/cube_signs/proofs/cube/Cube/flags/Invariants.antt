use Rattle.std.proofs.Common.{◌≡◌}
use Rattle.cube_signs.proofs.SpanLemmas.{flags_to}
use Rattle.cube_signs.proofs.cube.Cube.flags.Given as goal

abbrev pub invariant-degrees : goal.invariant-degrees
invariant-degrees l = l.flags.items ≡ flags_to l.self l.fn.lowest.j l.k
