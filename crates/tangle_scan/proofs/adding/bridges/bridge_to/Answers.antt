use Rattle.std.proofs.Common.{List, subst, sym}
use Rattle.tangle_scan.specs.declared.adding.bridges.BridgeTo.{BridgeTo}
use Rattle.tangle_scan.specs.AddedBridges.{AreBridgesFrom, HasBridgeAt}
use Rattle.tangle_scan.proofs.NewBridges.{bridge-found}
use Rattle.tangle_scan.proofs.adding.bridges.bridge_to.Goals as goal

pub returns-in-Some-clause-place : goal.returns-in-Some-clause-place
returns-in-Some-clause-place c =
    let adding = c.args.links.now.adding.now in
    let from = c.args.from.now in
    let head = c.args.head.now.place in
    let e = from.side.smoothing in
    subst (λ (bridges : List BridgeTo). HasBridgeAt adding e from.parent head bridges c.in-Some.place) c.deref.ensures.value
    (bridge-found adding from.parent head e c.in-Some.place c.pairing_of-pairing.result.now.partners c.deref.result.now
    (subst (λ (bridges : List BridgeTo). AreBridgesFrom adding e from.parent bridges) (sym c.deref.ensures.value) c.requires.bridges)
    c.in-Some.ensures.within c.in-Some.ensures.found c.pairing_of-pairing.ensures.pairs)
