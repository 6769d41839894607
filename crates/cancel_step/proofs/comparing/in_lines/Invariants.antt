use Rattle.std.proofs.Common.{take}
use Rattle.sparse_block.specs.Least.{FindsLeast}
use Rattle.cancel_step.specs.Foreign.{ShowsIn}
use Rattle.cancel_step.specs.Sides.{IsOtherOn}
use Rattle.cancel_step.proofs.comparing.in_lines.Given as goal

abbrev pub invariant-lines : goal.invariant-lines
invariant-lines g l = FindsLeast (ShowsIn (IsOtherOn l.side l.complex.complex l.degree) (take l.k l.lines)) l.least
