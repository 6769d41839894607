use Rattle.std.proofs.Common.{◌≡◌}
use Rattle.sparse_block.specs.Histories.{ComesByCancelling}
use Rattle.cancel_step.proofs.ReadingLemmas.{AreEmptyDown}
use Rattle.cancel_step.proofs.finishing.finish.Given as goal

abbrev pub invariant-degrees : goal.invariant-degrees
invariant-degrees g l =
    record {
      comes : ComesByCancelling g.F.PrimeField.P l.initial.complex.complex l.complex.complex;
      empty : AreEmptyDown l.complex.complex l.number;
      names : l.complex.names ≡ l.initial.complex.names;
    }
