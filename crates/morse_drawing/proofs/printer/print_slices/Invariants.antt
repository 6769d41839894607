use Rattle.std.specs.Prelude.{string_bytes}
use Rattle.morse_drawing.proofs.TextLemmas.{IsPrinted}
use Rattle.morse_drawing.proofs.printer.print_slices.Given as goal

abbrev pub invariant-slices : goal.invariant-slices
invariant-slices l = IsPrinted l.slices l.slice-index l.strands (string_bytes l.text)
