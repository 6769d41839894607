use Rattle.std.proofs.Common.{subst, sym}
use Rattle.tangle_scan.specs.declared.adding.bridges.BridgeTo.{BridgeTo}
use Rattle.tangle_scan.specs.AddedBridges.{IsBridgeOver}
use Rattle.tangle_scan.proofs.NewBridges.{bridges-kept, on-ok}
use Rattle.tangle_scan.proofs.adding.entries.push_over.Goals as goal

pub push_all_along-requires-clause-bridge : goal.push_all_along-requires-clause-bridge
push_all_along-requires-clause-bridge g c =
    let from = c.args.from.now in
    subst
    (λ (to : BridgeTo). IsBridgeOver c.args.links.now.adding.now from.side.smoothing from.parent c.args.head.now.place to.bridge)
    (sym c.index_mut.ensures.value) (c.in_ok-place.ensures.place.over c.index_mut.result.now)

pub returns-clause-bridges : goal.returns-clause-bridges
returns-clause-bridges g c =
    let from = c.args.from.now in
    on-ok c.push_all_along.result
    (bridges-kept c.args.links.now.adding.now from.parent from.side.smoothing c.in_ok-place.place c.index_mut.result.now
    c.push_all_along.new.bridge c.bridge_to.new.bridges.items c.in_ok-place.ensures.place.within c.index_mut.ensures.value
    c.push_all_along.ensures.same c.in_ok-place.ensures.bridges)
