use Rattle.std.proofs.Common.{arith, ◌^◌}
use Rattle.sparse_block.proofs.LineLemmas.{count-at}
use Rattle.sparse_block.proofs.counts.name_count.Goals as goal

pub overflow_cast-result : goal.overflow_cast-result
overflow_cast-result c =
    let degree = c.in-Some.degree.now in
    let found = c.in-Some.ensures.lookup in
    omega (arith, c.len.ensures, count-at (2 ^ 29) c.args.names.now c.args.k degree found.3.0 found.1 c.requires)
