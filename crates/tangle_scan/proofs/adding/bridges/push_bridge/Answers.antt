use Rattle.std.proofs.Common.{refl, arith}
use Rattle.tangle_scan.proofs.NewBridges.{bridge-made, bridge-pushed, bridges-pushed, sides-add}
use Rattle.tangle_scan.proofs.adding.bridges.push_bridge.Goals as goal

pub added_bridge-bridge-requires : goal.added_bridge-bridge-requires
added_bridge-bridge-requires c = record {
  sides = sides-add c.args.links.now.adding.now c.args.from.now.parent c.args.head.now.place c.args.from.now.side c.side_of-to.result
      c.requires.links.1.ready c.requires.from.side c.side_of-to.ensures.side;
}

pub returns-clause-bridges : goal.returns-clause-bridges
returns-clause-bridges c =
    let adding = c.args.links.now.adding.now in
    let from = c.args.from.now in
    let head = c.args.head.now.place in
    bridges-pushed adding from.parent head from.side.smoothing _ c.args.bridges.now.items c.push.new.self.items
    c.side_of-to.ensures.side.pairs
    (bridge-made adding from.parent head from.side.smoothing from.side c.side_of-to.result c.added_bridge-bridge.result
    c.requires.links.1.ready c.requires.from.side c.side_of-to.ensures.side refl c.side_of-to.ensures.smoothing
    c.added_bridge-bridge.ensures.labels c.added_bridge-bridge.ensures.bridge)
    c.in_ok-push.ensures.items c.requires.bridges

pub returns-clause-place : goal.returns-clause-place
returns-clause-place c =
    let adding = c.args.links.now.adding.now in
    let from = c.args.from.now in
    let head = c.args.head.now.place in
    bridge-pushed adding from.parent head from.side.smoothing c.len-place.result _ c.args.bridges.now.items c.push.new.self.items
    (bridge-made adding from.parent head from.side.smoothing from.side c.side_of-to.result c.added_bridge-bridge.result
    c.requires.links.1.ready c.requires.from.side c.side_of-to.ensures.side refl c.side_of-to.ensures.smoothing
    c.added_bridge-bridge.ensures.labels c.added_bridge-bridge.ensures.bridge)
    c.in_ok-push.ensures.items (omega (arith, c.len-place.ensures, c.args.bridges.now.ok.0))
