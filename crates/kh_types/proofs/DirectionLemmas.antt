-- Counts of signs.
use Rattle.std.proofs.lemmas.Bool.Decides.{nat_tests}
use Rattle.std.proofs.Common.{arith, ◌≤◌, ℕ, List, length}
use Rattle.std.proofs.lemmas.List.Sums.{count_by-le-length}
use Rattle.std.proofs.lemmas.List.FromFn.{length-range_with_len}
use Rattle.kh_types.specs.Directions.{plus_count}

-- no more crossings are positive than there are
pub plus_count-le : (crossings : List (List ℕ)) → plus_count crossings ≤ length crossings
plus_count-le crossings = grind (arith, nat_tests, length-range_with_len, count_by-le-length)
