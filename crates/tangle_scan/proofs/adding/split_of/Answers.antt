use Rattle.std.proofs.Common.{sym}
use Rattle.tangle_scan.proofs.NewObjects.{split-made}
use Rattle.tangle_scan.proofs.adding.split_of.Goals as goal

pub returns : goal.returns
returns c =
    split-made c.args.adding.now c.args.place c.args.smoothing c.index.result.now c.split_at.result c.requires.ready c.requires.place
    (sym c.index.ensures) c.split_at.ensures.pairs c.split_at.ensures.arcs c.split_at.ensures.closed
