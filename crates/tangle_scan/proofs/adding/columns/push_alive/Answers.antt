use Rattle.std.proofs.Common.{◌∙◌, ap, subst, sym}
use Rattle.std.proofs.lemmas.List.Elements.{All-set}
use Rattle.std.proofs.lemmas.Result.{on_ok_weaker}
use Rattle.tangle_scan.specs.declared.adding.bridges.BridgesOf.{BridgesOf}
use Rattle.tangle_scan.specs.AddedBridges.{AreBridgesOf, pairs_in}
use Rattle.tangle_scan.proofs.adding.columns.push_alive.Goals as goal

pub push_both-requires-clause-bridges : goal.push_both-requires-clause-bridges
push_both-requires-clause-bridges g c =
    subst (λ (bridges : BridgesOf). AreBridgesOf c.args.links.now.adding.now bridges) (sym c.index_mut.ensures.value)
    (c.in_ok-place.ensures.all c.in_ok-place.place c.index_mut.result.now c.in_ok-place.ensures.place.within)

pub push_both-requires-clause-pairs : goal.push_both-requires-clause-pairs
push_both-requires-clause-pairs g c =
    ap (λ (bridges : BridgesOf). pairs_in c.args.links.now.adding.now bridges) c.index_mut.ensures.value
    ∙ c.in_ok-place.ensures.place.pairs c.index_mut.result.now

pub returns-clause-all : goal.returns-clause-all
returns-clause-all g c =
    on_ok_weaker c.push_both.result
    (λ is.
    All-set (AreBridgesOf c.args.links.now.adding.now) c.bridges_of.new.all.items c.in_ok-place.place c.push_both.new.bridges is
    c.in_ok-place.ensures.all)
    c.push_both.ensures.bridges
