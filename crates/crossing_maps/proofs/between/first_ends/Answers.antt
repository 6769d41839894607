use Rattle.std.proofs.Common.{◌∙◌, sym, subst, ap, arith}
use Rattle.std.specs.List.{filter}
use Rattle.std.proofs.lemmas.List.{take_all}
use Rattle.tangle_maps.specs.declared.pairing.TheConstants.{POINTS}
use Rattle.tangle_maps.specs.Pairings.{leads}
use Rattle.crossing_maps.specs.ListedPlaces.{IsArcs}
use Rattle.crossing_maps.proofs.SeamPlaces.{arcs-filtered, ends-first, kept_more}
use Rattle.crossing_maps.proofs.between.first_ends.Goals as goal

pub arcs-preserved : goal.arcs-preserved
arcs-preserved c = record {
  ends = kept_more (leads c.args.pairing.now.partners) c.arcs.arc-index c.leads-leads.result
      c.args.arcs.now c.arcs.made.items c.push_if.new.arcs.items c.arcs-test.true c.leads-leads.ensures c.arcs.invariant.ends
      c.push_if.ensures.arcs;
  bound = omega (arith, c.push_if.ensures.bound, c.arcs.invariant.bound);
}

pub returns-clause-ends : goal.returns-clause-ends
returns-clause-ends c =
    let all = take_all c.arcs.arc-index c.args.arcs.now c.arcs-test.false in
    c.arcs.invariant.ends ∙ ap (λ xs. filter (leads c.args.pairing.now.partners) xs) all
    ∙ sym (ends-first c.args.pairing.now.partners (filter (leads c.args.pairing.now.partners) c.args.arcs.now))

pub returns-clause-arcs : goal.returns-clause-arcs
returns-clause-arcs c =
    let all = take_all c.arcs.arc-index c.args.arcs.now c.arcs-test.false in
    subst (λ xs. IsArcs POINTS xs) (sym (c.arcs.invariant.ends ∙ ap (λ xs. filter (leads c.args.pairing.now.partners) xs) all))
    (arcs-filtered POINTS (leads c.args.pairing.now.partners) c.args.arcs.now
    (record { below = c.requires.opened; fits = c.requires.room }))
