use Rattle.std.proofs.Common.{◌≡◌, ◌∙◌, arith}
use Rattle.kh_types.specs.Circles.{circles_of}
use Rattle.circle_smoothing.proofs.KeptNumbers.{count-listed, numbers-listed}
use Rattle.circle_smoothing.proofs.prepared.Smoothings.circles.Goals as goal

pub invariant_of-result : goal.invariant_of-result
invariant_of-result c =
    let code = c.self.inside.diagram in
    let listed : c.deref.result.now ≡ circles_of code c.args.state = grind arith in
    let listed_too : c.deref-2.result.now ≡ circles_of code c.args.state = grind arith in
    record {
      code = c.self.invariant.code;
      few = c.self.invariant.few;
      numbers = c.numbers_of.ensures ∙ numbers-listed code c.args.state c.deref.result.now c.self.invariant.code listed;
      count = c.count_of.ensures ∙ count-listed code c.args.state c.deref-2.result.now c.self.invariant.code listed_too;
    }
