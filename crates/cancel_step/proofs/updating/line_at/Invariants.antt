use Rattle.std.proofs.Common.{◌≡◌, drop}
use Rattle.cancel_step.specs.Lines.{entries_with}
use Rattle.cancel_step.proofs.updating.line_at.Given as goal

-- no line before this one has the place
abbrev pub invariant-lines : goal.invariant-lines
invariant-lines l = entries_with (drop l.k l.lines) l.place ≡ entries_with l.lines l.place
