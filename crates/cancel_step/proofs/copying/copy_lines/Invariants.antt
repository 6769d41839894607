use Rattle.std.proofs.Common.{◌≡◌, ◌++◌, map, take}
use Rattle.cancel_step.specs.Copies.{line_across}
use Rattle.cancel_step.specs.Sides.{line_on}
use Rattle.cancel_step.proofs.copying.copy_lines.Given as goal

abbrev pub invariant-entries : goal.invariant-entries
invariant-entries g l =
    l.lines
    ≡ l.initial.lines ++ map (line_across (line_on l.side l.complex.complex l.pivot.degree)) (take l.entry-index l.across)
