use Rattle.std.proofs.Common.{◌≡◌, ◌∙◌, arith}
use Rattle.kh_types.specs.Circles.{circles_of}
use Rattle.circle_smoothing.proofs.KeptNumbers.{count-listed, count-within}
use Rattle.circle_smoothing.proofs.prepared.Smoothings.count.Goals as goal

pub returns-clause-count : goal.returns-clause-count
returns-clause-count c =
    let listed : c.deref.result.now ≡ circles_of c.args.self.now c.args.state = grind arith in
    c.count_of.ensures
    ∙ count-listed c.args.self.now c.args.state c.deref.result.now c.circles_of.ensures.accepted listed

pub returns-clause-within : goal.returns-clause-within
returns-clause-within c =
    let listed : c.deref.result.now ≡ circles_of c.args.self.now c.args.state = grind arith in
    omega (
      arith,
      c.count_of.ensures,
      count-listed c.args.self.now c.args.state c.deref.result.now c.circles_of.ensures.accepted listed,
      count-within c.args.self.now c.args.state c.circles_of.ensures.accepted c.circles_of.ensures.small,
    )
