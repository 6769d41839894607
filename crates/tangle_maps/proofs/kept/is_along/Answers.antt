use Rattle.tangle_maps.proofs.KeptLemmas.{same-pairings}
use Rattle.tangle_maps.proofs.kept.is_along.Goals as goal

pub returns-then-have_same : goal.returns-then-have_same
returns-then-have_same c = λ yes.
    let kept = c.args.kept.now in
    let way = c.args.way.now in
    same-pairings kept.from.partners kept.over.partners kept.to.partners way.from.now.partners way.over.now.partners way.to.now.partners
    kept.seam (c.have_same.ensures c.if-have_same.true) (c.leads_along.ensures.over yes) (c.leads_along.ensures.to yes) c.requires
