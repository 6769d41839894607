use Rattle.slide_laws.proofs.Sides.{HasSides-triangle}
use Rattle.slide_laws.proofs.SlidRule.{FollowsRule-first, FollowsRule-second, FollowsRule-third}
use Rattle.slide_laws.proofs.laws.slides_follow_the_rule.Goals as goal

pub returns-clause-first : goal.returns-clause-first
returns-clause-first c crossings x y z twice is = FollowsRule-first crossings x y z twice (HasSides-triangle crossings x y z twice is)

pub returns-clause-second : goal.returns-clause-second
returns-clause-second c crossings x y z twice is = FollowsRule-second crossings x y z twice (HasSides-triangle crossings x y z twice is)

pub returns-clause-third : goal.returns-clause-third
returns-clause-third c crossings x y z twice is = FollowsRule-third crossings x y z twice (HasSides-triangle crossings x y z twice is)
