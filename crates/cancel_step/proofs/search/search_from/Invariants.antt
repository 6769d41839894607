use Rattle.std.proofs.Common.{◌≡◌}
use Rattle.cancel_step.proofs.ReadingLemmas.{AreEmptyDown}
use Rattle.cancel_step.proofs.search.search_from.Given as goal

abbrev pub invariant-degrees : goal.invariant-degrees
invariant-degrees g l =
    l.fn.start.number ≡ 0 → l.fn.start.column ≡ 0 → (l.from ≡ 0) × AreEmptyDown l.complex.complex l.number
