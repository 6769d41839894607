use Rattle.std.proofs.Common.{length}
use Rattle.circle_smoothing.proofs.branches.+count_branch.Given as goal

abbrev pub decreases-count_branch : goal.decreases-count_branch
decreases-count_branch l = length l.crossings.now
