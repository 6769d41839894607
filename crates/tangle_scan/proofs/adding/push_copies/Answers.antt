use Rattle.tangle_scan.specs.Additions.{copy}
use Rattle.tangle_scan.proofs.NewObjects.{copies-more}
use Rattle.tangle_scan.proofs.adding.push_copies.Goals as goal

pub labels-preserved : goal.labels-preserved
labels-preserved c =
    copies-more (copy c.args.old.now c.args.split.now c.args.smoothing) c.args.objects.now.items c.labels.objects.items c.push.new.self.items
    c.labels.label c.copy_with.result c.labels.invariant c.in_ok-push.ensures.items c.copy_with.ensures
