use Rattle.std.proofs.Common.{arith}
use Rattle.union_laws.specs.Pieces.{is_in_first_piece}
use Rattle.union_laws.proofs.PieceCuts.{IsCut-pieces}
use Rattle.link_laws.proofs.PieceLinks.{link-parts}
use Rattle.link_laws.proofs.laws.pieces_are_one_link.Goals as goal

pub returns : goal.returns
returns c =
    record {
      parts = λ keep code loops others holds cut adds. link-parts keep code holds cut loops others adds;
      pieces = λ code holds.
          link-parts (is_in_first_piece code.crossings) code holds (IsCut-pieces code holds) 0 code.loops (omega arith);
    }
