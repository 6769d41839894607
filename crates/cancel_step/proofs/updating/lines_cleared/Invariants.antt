use Rattle.std.proofs.Common.{◌≡◌, ℕ, map, take}
use Rattle.cancel_step.specs.Lines.{AreLines, line_cleared}
use Rattle.cancel_step.proofs.updating.lines_cleared.Given as goal

abbrev pub invariant-lines : goal.invariant-lines
invariant-lines g l =
    (size : ℕ) → AreLines g.F.PrimeField.P size l.lines
    → l.made.items ≡ map (line_cleared g.F.PrimeField.P size l.pivot_line l.across) (take l.k l.lines)
