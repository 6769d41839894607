use Rattle.std.proofs.Common.{◌≡◌, ◌≢◌, arith}
use Rattle.std.proofs.lemmas.Bool.Decides.{nat_tests}
use Rattle.circle_smoothing.proofs.CircleWalks.{IsOnCircle-fewer, IsOnCircle-first, IsOnCircle-last, IsOnCircle-more}
use Rattle.circle_smoothing.proofs.walk.walk_from.Goals as goal

pub walk-init : goal.walk-init
walk-init = grind (arith, nat_tests, IsOnCircle-first)

pub walk-smaller : goal.walk-smaller
walk-smaller c =
    let apart : c.walk.arc ≢ c.args.least = grind (arith, nat_tests) in
    IsOnCircle-fewer c.args.smoothings.now c.args.state c.args.circles.now c.walk.circles c.args.least c.walk.place c.walk.arc apart
    c.walk.invariant

pub walk-preserved : goal.walk-preserved
walk-preserved = grind (arith, nat_tests, IsOnCircle-more)

pub returns : goal.returns
returns c =
    let back : c.walk.arc ≡ c.args.least = grind (arith, nat_tests) in
    IsOnCircle-last c.args.smoothings.now c.args.state c.args.circles.now c.walk.circles c.args.least c.walk.place c.walk.arc
    c.requires.code c.requires.walked c.walk.invariant back
