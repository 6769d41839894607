use Rattle.std.proofs.Common.{refl}
use Rattle.tangle_scan.proofs.NewObjects.{layer-dead}
use Rattle.tangle_scan.proofs.adding.push_dead.Goals as goal

pub returns : goal.returns
returns c =
    layer-dead c.args.adding.now c.args.place c.args.layer.now _ c.requires.dead c.requires.layer refl c.in_ok-push.ensures.items
