use Rattle.std.proofs.Common.{◌∙◌, ◌^◌, ◌≤◌, ap, arith, length}
use Rattle.std.proofs.Math.Pow.{pow_mono}
use Rattle.kh_types.specs.declared.limits.TheConstants.{CROSSINGS}
use Rattle.kh_types.specs.CircleNumbers.{circle_number}
use Rattle.cube_signs.proofs.StateLists.{images-more}
use Rattle.reduced_cube.proofs.MarkLemmas.{circles-all}
use Rattle.reduced_cube.proofs.marks.marked_circles.Goals as goal

pub states-preserved : goal.states-preserved
states-preserved c =
    images-more (λ s. circle_number c.args.diagram.now s c.args.mark) c.states.circles.items c.push.new.self.items c.circle_of.result
    c.states.state c.states.invariant
    (c.circle_of.ensures ∙ ap (λ s. circle_number c.args.diagram.now s c.args.mark) c.circles.ensures.state)
    c.in_ok-push.ensures.items

pub returns : goal.returns
returns c =
    let code = c.args.diagram.now in
    let few : length code.crossings ≤ CROSSINGS =
    c.diagram_laws.ensures.few in
    let power : 2 ^ length code.crossings ≤ 2 ^ CROSSINGS = pow_mono few in
    circles-all c.args.diagram.now c.args.mark c.states.circles.items c.states.state c.states.invariant
    (omega (arith, c.states-test.false, c.states.auto.state-end, ap (λ n. 2 ^ n) c.count.ensures.count, power))
