use Rattle.union_laws.proofs.PieceCuts.{IsCut-pieces, first-in, other-out}
use Rattle.union_laws.proofs.laws.pieces.pieces_share_no_arc.Goals as goal

pub returns : goal.returns
returns c = record { cut = IsCut-pieces; first = first-in; others = other-out }
