use Rattle.std.proofs.Common.{subst}
use Rattle.kh_types.specs.History.{block}
use Rattle.column_reduction.proofs.Ended.{legal-held}
use Rattle.shared_block.specs.BlockHistories.{HasLegalHistory}
use Rattle.shared_block.proofs.column_block.column_block_laws.Goals as goal

pub returns-clause-legal : goal.returns-clause-legal
returns-clause-legal g c =
    let p = g.F.PrimeField.P in
    let held = c.block.inside in
    subst (HasLegalHistory p) c.block.view_is
    (legal-held p (block p held.diagram held.degree) c.element_laws.ensures.field held.reduction c.block.invariant.1.reduction_is)
