use Rattle.std.proofs.Common.{◌≡◌, ℕ, ◌<◌, [], get_or, length}
use Rattle.gauss_code.proofs.printer.read_crossings.Given as goal

-- each crossing so far has four slots
abbrev pub invariant-loop-crossing : goal.invariant-loop-crossing
invariant-loop-crossing l = (k : ℕ) → k < l.crossing-index → length (get_or l.crossings k []) ≡ 4
