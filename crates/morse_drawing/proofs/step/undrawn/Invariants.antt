use Rattle.std.proofs.Common.{◌≡◌, not}
use Rattle.std.specs.Prelude.{None}
use Rattle.std.specs.List.{find, range_with_len}
use Rattle.morse_drawing.specs.Pages.{is_in}
use Rattle.morse_drawing.proofs.step.undrawn.Given as goal

abbrev pub invariant-crossings : goal.invariant-crossings
invariant-crossings l = find (λ c. not (is_in l.page.drawn c)) (range_with_len 0 l.crossing) ≡ None
