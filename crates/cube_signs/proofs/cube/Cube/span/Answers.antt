use Rattle.std.proofs.lemmas.Bool.Decides.{nat_tests}
use Rattle.std.proofs.lemmas.List.{length-reverse}
use Rattle.std.proofs.Common.{arith}
use Rattle.std.proofs.lemmas.Int.{ints}
use Rattle.cube_signs.proofs.SpanLemmas.{length-flags, span-count, span-low}
use Rattle.cube_signs.proofs.cube.Cube.span.Goals as goal

pub above-requires-clause-low : goal.above-requires-clause-low
above-requires-clause-low c = omega (arith, ints, c.requires.lowest, c.crossing_count.ensures.count, c.crossing_count.ensures.few)

pub above-requires-clause-high : goal.above-requires-clause-high
above-requires-clause-high = grind (arith, nat_tests, length-flags, ints)

pub returns-clause-low : goal.returns-clause-low
returns-clause-low = grind (arith, nat_tests, span-low)

pub returns-clause-count : goal.returns-clause-count
returns-clause-count = grind (arith, nat_tests, span-count)

pub returns-clause-above : goal.returns-clause-above
returns-clause-above = grind (arith, nat_tests)

pub returns-clause-below : goal.returns-clause-below
returns-clause-below = grind (arith, nat_tests, length-flags, length-reverse, ints)
