use Rattle.std.proofs.Common.{◌≡◌}
use Rattle.std.specs.Prelude.{None}
use Rattle.std.specs.List.{find, range_with_len}
use Rattle.kh_types.specs.Darts.{partner_at}
use Rattle.morse_drawing.specs.Pages.{leads_on}
use Rattle.morse_drawing.proofs.step.leading.Given as goal

abbrev pub invariant-places : goal.invariant-places
invariant-places l =
    find (leads_on (partner_at l.diagram.crossings) l.page.drawn l.page.row) (range_with_len 0 l.place) ≡ None
