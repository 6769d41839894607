use Rattle.std.proofs.Common.{subst}
use Rattle.sparse_block.specs.Opening.{IsOpening}
use Rattle.sparse_block.specs.Inside.{lines_in, lists_in}
use Rattle.sparse_block.proofs.OpeningLemmas.{opening-sparse}
use Rattle.sparse_block.proofs.column_complex.ColumnComplexColumnSource.low.Goals as goal

pub returns-clause-opening : goal.returns-clause-opening
returns-clause-opening g c =
    let p = g.F.PrimeField.P in
    let held = c.self.inside in
    subst (IsOpening p) c.self.view_is
    (opening-sparse p held.low (lists_in held.names.items) (lines_in held.columns.items) c.element_laws.ensures.field c.self.invariant)
