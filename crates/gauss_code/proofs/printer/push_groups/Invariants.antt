use Rattle.std.proofs.Common.{◌≡◌, ◌++◌, map, string_bytes, take}
use Rattle.std.specs.List.{flat_map}
use Rattle.gauss_code.specs.Printing.{next_group_text}
use Rattle.gauss_code.proofs.printer.push_groups.Given as goal

-- behind the first group, the others so far are printed
abbrev pub invariant-loop-group : goal.invariant-loop-group
invariant-loop-group l = string_bytes l.text
    ≡ string_bytes l.initial.text ++ flat_map next_group_text (map (λ group. group.items) (take l.group-index l.others))
