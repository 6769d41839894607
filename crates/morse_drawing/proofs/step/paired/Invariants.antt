use Rattle.std.proofs.Common.{◌≡◌}
use Rattle.std.specs.Prelude.{None}
use Rattle.std.specs.List.{find, range_with_len}
use Rattle.kh_types.specs.Darts.{partner_at}
use Rattle.morse_drawing.specs.Pages.{are_paired}
use Rattle.morse_drawing.proofs.step.paired.Given as goal

abbrev pub invariant-places : goal.invariant-places
invariant-places l = find (are_paired (partner_at l.diagram.crossings) l.page.row) (range_with_len 0 l.place) ≡ None
