use Rattle.std.proofs.Common.{◌≡◌, map, take}
use Rattle.kh_types.specs.Components.{first_arcs}
use Rattle.code_passes.specs.ComponentLabels.{component_labels}
use Rattle.gauss_code.proofs.diagram_labels.component_labels.Given as goal

-- the labels of the components so far
abbrev pub invariant-loop-component : goal.invariant-loop-component
invariant-loop-component l =
    map (λ group. group.items) l.groups.items
    ≡ map (component_labels l.diagram.crossings) (take l.component (first_arcs l.diagram.crossings))
