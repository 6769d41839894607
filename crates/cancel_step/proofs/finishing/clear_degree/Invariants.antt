use Rattle.std.proofs.Common.{◌≡◌, ℕ, ◌<◌, []}
use Rattle.sparse_block.specs.Complexes.{column_of}
use Rattle.sparse_block.specs.Entries.{entries_of}
use Rattle.sparse_block.specs.Histories.{ComesByCancelling}
use Rattle.cancel_step.proofs.finishing.clear_degree.Given as goal

abbrev pub invariant-columns : goal.invariant-columns
invariant-columns g l =
    record {
      comes : ComesByCancelling g.F.PrimeField.P l.initial.complex.complex l.complex.complex;
      empty : (k : ℕ) → k < l.column → entries_of (column_of l.complex.complex l.degree k) ≡ [];
      names : l.complex.names ≡ l.initial.complex.names;
    }
