-- What is printed of a diagram is read back.
use Rattle.std.proofs.Common.{◌≡◌, ◌≤◌, List, length, IsTrue, Ok}
use Rattle.std.specs.Prelude.{All}
use Rattle.kh_types.specs.Acceptance.{accepted}
use Rattle.kh_types.specs.Code.{Code}
use Rattle.kh_types.specs.declared.limits.TheConstants.{CROSSINGS, LOOPS}
use Rattle.kh_lex.specs.Lines.{with_feed}
use Rattle.pd_code.proofs.AcceptedSlots.{HasFourSlots-accepted}
use Rattle.pd_code.proofs.PrintingLemmas as pd_prints
use Rattle.gauss_code.proofs.PrintedCodes as gauss_prints
use Rattle.word_line.specs.declared.command.Form.{Form}
use Rattle.word_line.specs.declared.command.Form.TheVariants as printed
use Rattle.kh_inputs.specs.Inputs.{IsCodeRead}
use Rattle.kh_replies.specs.Convert.{text_in}

-- a line of the text of an accepted diagram, in each form, is read as its code
pub IsCodeRead-printed : (form : Form) (code : Code) → IsTrue (accepted code) → All (λ slots. length slots ≡ 4) code.crossings
    → length code.crossings ≤ CROSSINGS → code.loops ≤ LOOPS → IsCodeRead (with_feed (text_in form code)) (Ok code)
IsCodeRead-printed printed.Pd code is four few loops =
    pd_prints.IsPdReading-line code (HasFourSlots-accepted code is few four) few loops
IsCodeRead-printed printed.Gauss code is four few loops = gauss_prints.IsGaussReading-line code is four few loops
