use Rattle.std.proofs.Common.{◌≡◌, ◌++◌}
use Rattle.std.specs.Prelude.{string_bytes}
use Rattle.morse_drawing.specs.Texts.{bars}
use Rattle.morse_drawing.proofs.printer.push_bars.Given as goal

abbrev pub invariant-bars : goal.invariant-bars
invariant-bars l = string_bytes l.text ≡ string_bytes l.initial.text ++ bars l.counter
