-- The component with a number: its labels stand among those of all arcs.
use Rattle.std.proofs.Common.{◌∙◌, ◌++◌, [], ◌∷◌, ap, map, rules}
use Rattle.std.proofs.lemmas.List.{map_push}
use Rattle.gauss_code.proofs.ComponentLabels.{IsGiven, component_more, labels-within}
use Rattle.gauss_code.proofs.diagram_labels.component_labels.Goals as goal

pub labels_from-requires-clause-within : goal.labels_from-requires-clause-within
labels_from-requires-clause-within c =
    let labels = c.deref.result.now in
    let component = c.loop-component.component in
    let given : IsGiven c.args.diagram.now labels component c.first-first.result c.length-length.result = record {
      holds = c.arc_labels-labels.ensures.accepted;
      all = search rules;
      within = search rules;
      begins = search rules;
      counts = search rules;
    } in
    labels-within c.args.diagram.now labels component c.first-first.result c.length-length.result given

pub loop-component-preserved : goal.loop-component-preserved
loop-component-preserved c =
    let labels = c.deref.result.now in
    let component = c.loop-component.component in
    let given : IsGiven c.args.diagram.now labels component c.first-first.result c.length-length.result = record {
      holds = c.arc_labels-labels.ensures.accepted;
      all = search rules;
      within = search rules;
      begins = search rules;
      counts = search rules;
    } in
    ap (λ gs. map (λ group. group.items) gs) c.in_ok-push.ensures.items
    ∙ map_push (λ group. group.items) c.loop-component.groups.items c.in_ok-labels_from.field-0
    ∙ ap (λ g. map (λ group. group.items) c.loop-component.groups.items ++ g ∷ []) c.in_ok-labels_from.ensures
    ∙ component_more c.args.diagram.now labels component c.first-first.result c.length-length.result
    (map (λ group. group.items) c.loop-component.groups.items) given c.loop-component.invariant
