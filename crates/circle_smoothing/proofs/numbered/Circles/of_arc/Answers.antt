use Rattle.std.proofs.Common.{◌≡◌, IsTrue, arith}
use Rattle.kh_types.specs.Acceptance.{accepted}
use Rattle.circle_smoothing.specs.Numbered.{circle_numbers}
use Rattle.circle_smoothing.proofs.KeptNumbers.{arc-kept, number-below, number-kept}
use Rattle.circle_smoothing.proofs.numbered.Circles.of_arc.Goals as goal

pub bounds-deref-arc : goal.bounds-deref-arc
bounds-deref-arc c =
    let kept : c.deref.result.now ≡ circle_numbers c.args.self.now.code c.args.self.now.state = grind arith in
    arc-kept c.args.self.now.code c.args.self.now.state c.args.arc c.deref.result.now kept c.requires

pub returns-clause-number : goal.returns-clause-number
returns-clause-number c =
    let kept : c.deref.result.now ≡ circle_numbers c.args.self.now.code c.args.self.now.state = grind arith in
    number-kept c.args.self.now.code c.args.self.now.state c.args.arc c.deref.result.now kept c.requires

pub returns-clause-below : goal.returns-clause-below
returns-clause-below c =
    let kept : c.deref.result.now ≡ circle_numbers c.args.self.now.code c.args.self.now.state = grind arith in
    let is : IsTrue (accepted c.args.self.now.code) = rw (← c.self.view_is) c.self.invariant.code in
    number-below c.args.self.now.code c.args.self.now.state c.args.arc c.deref.result.now is kept c.requires
