use Rattle.tangle_scan.proofs.NewBridges.{saddle-made, sides-add}
use Rattle.tangle_scan.proofs.adding.bridges.saddle_of.Goals as goal

pub saddle_bridge-requires-clause-sides : goal.saddle_bridge-requires-clause-sides
saddle_bridge-requires-clause-sides c =
    let place = c.args.parent.now.place in
    sides-add c.args.links.now.adding.now place place c.side_of-from.result c.side_of-to.result c.requires.links.1.ready
    c.side_of-from.ensures.side c.side_of-to.ensures.side

pub returns : goal.returns
returns c =
    saddle-made c.args.links.now.adding.now c.args.parent.now.place c.side_of-from.result c.side_of-to.result c.saddle_bridge.result
    c.requires.links.1.ready c.side_of-from.ensures.side c.side_of-to.ensures.side c.saddle_bridge.ensures.labels
    c.saddle_bridge.ensures.bridge
