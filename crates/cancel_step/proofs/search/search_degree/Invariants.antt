use Rattle.std.proofs.Common.{◌≡◌, ℕ, ◌<◌, ◌≤◌, []}
use Rattle.sparse_block.specs.Complexes.{column_of}
use Rattle.sparse_block.specs.Entries.{entries_of}
use Rattle.cancel_step.proofs.search.search_degree.Given as goal

abbrev pub invariant-columns : goal.invariant-columns
invariant-columns g l =
    (k : ℕ) → l.from ≤ k → k < l.column → entries_of (column_of l.complex.complex l.degree k) ≡ []
