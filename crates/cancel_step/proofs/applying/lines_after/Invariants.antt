use Rattle.std.proofs.Common.{◌≡◌, map, take}
use Rattle.kh_types.specs.Complex.{cancel}
use Rattle.cancel_step.specs.Copies.{line_across}
use Rattle.cancel_step.specs.Sides.{line_on}
use Rattle.cancel_step.proofs.applying.lines_after.Given as goal

abbrev pub invariant-entries : goal.invariant-entries
invariant-entries g l =
    l.lines.items
    ≡ map (line_across (line_on l.side (cancel g.F.PrimeField.P l.complex.complex l.fn.pivot) l.fn.pivot.degree))
    (take l.entry-index l.across)
