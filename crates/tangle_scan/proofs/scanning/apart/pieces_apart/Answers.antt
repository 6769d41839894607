use Rattle.std.proofs.Common.{ap, arith, length}
use Rattle.kh_types.specs.Code.{Code}
use Rattle.tangle_scan.proofs.PieceLemmas.{others-fewer}
use Rattle.tangle_scan.proofs.scanning.apart.pieces_apart.Goals as goal

pub returns-clause-fewer : goal.returns-clause-fewer
returns-clause-fewer c =
    let code = c.args.diagram.now in
    omega (
      arith,
      ap (λ (code : Code). length code.crossings) c.side-2.ensures,
      others-fewer code (c.pieces_share_no_arc.ensures.first code c.diagram_laws.ensures.accepted) c.requires,
    )
