use Rattle.std.proofs.Common.{◌≡◌, ◌++◌, string_bytes, take}
use Rattle.std.specs.List.{flat_map}
use Rattle.pd_code.specs.Printing.{next_text}
use Rattle.pd_code.proofs.printer.push_items.Given as goal

-- behind the first item, the others so far are printed
abbrev pub invariant-loop-item : goal.invariant-loop-item
invariant-loop-item l = string_bytes l.text ≡ string_bytes l.initial.text ++ flat_map next_text (take l.item-index l.others)
