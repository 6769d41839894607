use Rattle.std.proofs.lemmas.Bool.Decides.{nat_tests}
use Rattle.std.proofs.Common.{arith}
use Rattle.std.proofs.lemmas.Int.{ints}
use Rattle.sparse_block.proofs.PastLemmas.{places-outside, row-outside, row-past}
use Rattle.sparse_block.proofs.reading.row_at.Goals as goal
use Rattle.sparse_block.proofs.reading.row_at.Goals.{then-i-low-via-then-i-low, then-i-low-via-else-i-low+then-high-i}

pub returns-then-i-low : goal.returns-then-i-low
returns-then-i-low =
    grind (arith, nat_tests, then-i-low-via-then-i-low, row-outside, ints, then-i-low-via-else-i-low+then-high-i, row-past, places-outside)

pub returns-then-places-place : goal.returns-then-places-place
returns-then-places-place g c = grind (arith, nat_tests, ints, row-past)
