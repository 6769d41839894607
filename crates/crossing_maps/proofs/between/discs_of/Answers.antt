use Rattle.std.proofs.Common.{◌∙◌, sym, subst, ap}
use Rattle.std.specs.List.{filter}
use Rattle.kh_types.specs.Classes.{is_least}
use Rattle.tangle_maps.specs.declared.pairing.TheConstants.{POINTS}
use Rattle.tangle_maps.proofs.SeamLemmas.{least-named}
use Rattle.crossing_maps.specs.ListedPlaces.{IsArcs}
use Rattle.crossing_maps.proofs.SeamPlaces.{arcs-filtered}
use Rattle.crossing_maps.proofs.between.discs_of.Goals as goal

pub returns-clause-discs : goal.returns-clause-discs
returns-clause-discs c =
    c.least_names.ensures ∙ least-named c.joined-classes.result c.args.arcs.now
    ∙ ap (λ classes. filter (is_least classes) c.args.arcs.now) c.joined-classes.ensures

pub returns-clause-arcs : goal.returns-clause-arcs
returns-clause-arcs c =
    subst (λ xs. IsArcs POINTS xs) (sym (c.least_names.ensures ∙ least-named c.joined-classes.result c.args.arcs.now))
    (arcs-filtered POINTS (is_least c.joined-classes.result) c.args.arcs.now c.requires)
