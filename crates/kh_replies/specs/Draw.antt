-- The reply of the command `draw` to a diagram.
use Rattle.kh_types.specs.Code.{Code}
use Rattle.morse_drawing.specs.Pages.{slices_of}
use Rattle.morse_drawing.specs.Texts.{drawing_text}
use Rattle.kh_runs.specs.declared.status.Status.TheVariants.{Done}
use Rattle.kh_runs.specs.Replies.{Reply, reply_of}

-- the text of the diagram's drawing
abbrev pub draw_reply : Code → Reply
draw_reply code = reply_of Done (drawing_text (slices_of code))
