use Rattle.std.proofs.Common.{arith, lit<}
use Rattle.code_passes.specs.Passes.{turned_labels}
use Rattle.gauss_code.proofs.PassLemmas.{passes-length, passes-push}
use Rattle.gauss_code.proofs.passes.push_passes.Goals as goal

-- there is room for one more pass
pub push-requires : goal.push-requires
push-requires c = (
  lit< tt,
  omega (arith, passes-length c.args.passes.now.items c.loop-at.passes.items _ (turned_labels c.args.labels.now) c.loop-at.at c.loop-at.invariant),
)

-- which comes behind the others
pub loop-at-preserved : goal.loop-at-preserved
loop-at-preserved c =
    passes-push c.args.passes.now.items c.loop-at.passes.items c.push.new.self.items c.pass_at.result _ (turned_labels c.args.labels.now) c.loop-at.at
    c.loop-at.invariant c.push.ensures.items c.pass_at.ensures
