use Rattle.std.proofs.Common.{◌+◌, ◌*◌, arith}
use Rattle.circle_smoothing.proofs.BranchLemmas.{counted-end}
use Rattle.circle_smoothing.proofs.branches.count_state.Goals as goal

pub returns-clause-counts : goal.returns-clause-counts
returns-clause-counts c = λ place within.
    counted-end c.args.counts.now c.args.branch.now.ones c.args.branch.now.joins (c.from.result * 41 + c.from-2.result)
    c.args.branch.now.classes place c.requires.branch.joins (omega (arith, c.from.ensures, c.from-2.ensures))
    (omega (arith, c.from.ensures, c.from-2.ensures, c.requires.size, c.requires.leaves.ones, c.requires.leaves.joins))
