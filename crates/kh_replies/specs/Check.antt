-- The reply of the command `check` to a diagram.
use Rattle.std.specs.Prelude.{ℕ, List, ◌++◌, codes, length}
use Rattle.std.specs.Fmt.{decimal}
use Rattle.kh_types.specs.Code.{Code}
use Rattle.kh_types.specs.Components.{component_count}
use Rattle.kh_types.specs.Directions.{plus_count, minus_count}
use Rattle.kh_types.specs.Faces.{piece_count, face_count}
use Rattle.kh_replies.specs.declared.check.Counts.{Counts}
use Rattle.kh_runs.specs.declared.status.Status.TheVariants.{Done}
use Rattle.kh_runs.specs.Replies.{Reply, reply_of}

-- how many crossings a diagram has, how many of them are positive and how many negative, how many components, connected pieces
-- and faces it has, each without the crossingless loops, and how many such loops
abbrev pub diagram_counts : Code → Counts
diagram_counts code = record {
  crossings = length code.crossings;
  plus = plus_count code.crossings;
  minus = minus_count code.crossings;
  components = component_count code.crossings;
  pieces = piece_count code.crossings;
  faces = face_count code.crossings;
  loops = code.loops;
}

-- the line of these counts
abbrev pub counts_line : Counts → List ℕ
counts_line counts =
    codes "accepted crossings " ++ (decimal counts.crossings ++ (codes " plus " ++ (decimal counts.plus
    ++ (codes " minus " ++ (decimal counts.minus ++ (codes " components " ++ (decimal counts.components
    ++ (codes " pieces " ++ (decimal counts.pieces ++ (codes " faces " ++ (decimal counts.faces
    ++ (codes " loops " ++ (decimal counts.loops ++ codes "\n")))))))))))))

-- the line of the diagram's counts
abbrev pub check_reply : Code → Reply
check_reply code = reply_of Done (counts_line (diagram_counts code))
