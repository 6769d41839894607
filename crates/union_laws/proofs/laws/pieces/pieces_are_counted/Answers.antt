use Rattle.union_laws.proofs.PieceCounts.{piece_count-first, piece_count-others, piece_count-parts}
use Rattle.union_laws.proofs.laws.pieces.pieces_are_counted.Goals as goal

pub returns : goal.returns
returns c = record { parts = piece_count-parts; first = piece_count-first; others = piece_count-others }
