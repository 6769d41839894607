use Rattle.std.proofs.Common.{◌∙◌, ◌+◌, ◌-◌, ◌++◌, ap, ap₂, arith, lit<, length, length-append}
use Rattle.std.proofs.lemmas.Bool.{ne_eqb}
use Rattle.orient_arcs.specs.Renumbered.{follows, walk}
use Rattle.orient_arcs.proofs.StepLemmas.{walk_step, length_walk}
use Rattle.orient_arcs.proofs.renumbering.push_walk.Goals as goal

pub push-requires : goal.push-requires
push-requires c =
    let next = follows c.args.passes.now in
    let size = length c.args.passes.now in
    let left = walk next c.args.first (size - c.steps.counter) c.steps.name in (
      lit< tt,
      omega (
        arith,
        ap length c.steps.invariant,
        length-append c.steps.order.items left,
        length-append c.args.order.now.items (walk next c.args.first size c.args.first),
        length_walk next c.args.first (size - c.steps.counter) (size - (c.steps.counter + 1)) c.steps.name (omega (arith, c.steps-test.true)),
        c.requires,
      ),
    )

pub steps-preserved : goal.steps-preserved
steps-preserved c =
    let next = follows c.args.passes.now in
    let size = length c.args.passes.now in
    ap₂ (λ os x. os ++ walk next c.args.first (size - (c.steps.counter + 1)) x) c.push.ensures.items c.follows-name.ensures
    ∙ walk_step c.steps.order.items next c.args.first (size - c.steps.counter) (size - (c.steps.counter + 1)) c.steps.name
    (omega (arith, c.steps-test.true))
    (ne_eqb (next c.steps.name) c.args.first (λ same. c.if-name-first.false (c.follows-name.ensures ∙ same)))
    ∙ c.steps.invariant
