use Rattle.std.proofs.Common.{◌≡◌, ◌++◌, string_bytes, take}
use Rattle.std.specs.List.{flat_map}
use Rattle.gauss_code.specs.Printing.{next_number_text}
use Rattle.gauss_code.proofs.printer.push_numbers.Given as goal

-- behind the first number, the others so far are printed
abbrev pub invariant-loop-number : goal.invariant-loop-number
invariant-loop-number l = string_bytes l.text ≡ string_bytes l.initial.text ++ flat_map next_number_text (take l.number-index l.others)
