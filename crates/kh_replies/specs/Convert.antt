-- The reply of the command `convert` to a diagram.
use Rattle.std.specs.Prelude.{ℕ, List, ◌++◌, codes}
use Rattle.kh_types.specs.Code.{Code}
use Rattle.pd_code.specs.Printing.{pd_text}
use Rattle.gauss_code.specs.Printing.{gauss_text}
use Rattle.word_line.specs.declared.command.Form.{Form}
use Rattle.word_line.specs.declared.command.Form.TheVariants.{Pd, Gauss}
use Rattle.kh_runs.specs.declared.status.Status.TheVariants.{Done}
use Rattle.kh_runs.specs.Replies.{Reply, reply_of}

-- the text of the diagram in a form
abbrev pub text_in : Form → Code → List ℕ
text_in Pd code = pd_text code
text_in Gauss code = gauss_text code

-- the text of the diagram in a form, and a line feed
abbrev pub convert_reply : Form → Code → Reply
convert_reply form code = reply_of Done (text_in form code ++ codes "\n")
