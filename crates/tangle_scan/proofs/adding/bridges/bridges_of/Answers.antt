use Rattle.std.proofs.Common.{◌∙◌, List, ap, subst}
use Rattle.tangle_maps.specs.Pairings.{joins_of}
use Rattle.tangle_scan.specs.declared.adding.bridges.BridgesOf.{BridgesOf}
use Rattle.tangle_scan.specs.AddedBridges.{HasBridgesAt}
use Rattle.tangle_scan.proofs.adding.bridges.bridges_of.Goals as goal

pub returns-in-Some-clause-place : goal.returns-in-Some-clause-place
returns-in-Some-clause-place c =
    let adding = c.args.links.now.adding.now in
    subst (λ (all : List BridgesOf). HasBridgesAt adding c.args.parent.now.place all c.in-Some.place) c.deref.ensures.value
    (record {
      within = c.in-Some.ensures.within;
      pairs = λ d. ap (λ xs. joins_of xs adding.site.opened.now) (c.in-Some.ensures.found d) ∙ c.pairing_of.ensures.pairs;
    })
