use Rattle.std.proofs.Common.{◌≡◌, ◌++◌, [], map}
use Rattle.std.specs.Prelude.{replicate}
use Rattle.code_passes.specs.ComponentLabels.{labels_of_code}
use Rattle.gauss_code.proofs.printer.push_body.Given as goal

-- behind the components, the loops so far are groups
abbrev pub invariant-loops : goal.invariant-loops
invariant-loops l = map (λ group. group.items) l.groups.items ≡ labels_of_code l.diagram.crossings ++ replicate l.counter []
