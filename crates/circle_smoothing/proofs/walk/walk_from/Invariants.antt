use Rattle.std.proofs.Common.{not, nat_eq}
use Rattle.std.specs.List.{count_by}
use Rattle.circle_smoothing.proofs.CircleWalks.{IsOnCircle}
use Rattle.circle_smoothing.proofs.walk.walk_from.Given as goal

abbrev pub invariant-walk : goal.invariant-walk
invariant-walk l = IsOnCircle l.smoothings l.state l.initial.circles l.circles l.least l.place l.arc

abbrev pub decreases-walk : goal.decreases-walk
decreases-walk l = count_by (λ class. not (nat_eq class l.least)) l.circles
