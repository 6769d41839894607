-- The text of an accepted diagram within the limits, in either form, is that of its code; and such a text, as a reply, shows it.
use Rattle.std.proofs.Common.{◌≡◌, ◌+◌, ◌≤◌, ℕ, List, length, refl, subst, arith}
use Rattle.std.specs.Prelude.{IsTrue, codes}
use Rattle.std.proofs.lemmas.List.{length-append}
use Rattle.kh_types.specs.Acceptance.{accepted}
use Rattle.kh_types.specs.Code.{Code}
use Rattle.kh_types.specs.declared.limits.TheConstants.{INPUT_BYTES, LOOPS}
use Rattle.kh_lex.specs.Lines.{with_feed}
use Rattle.pd_code.specs.Printing.{pd_text}
use Rattle.pd_code.proofs.AcceptedSlots.{HasFourSlots-accepted}
use Rattle.pd_code.proofs.PrintingLemmas.{IsPdReading-pd_text}
use Rattle.cancel_log.proofs.PrintedDiagrams.{short-text}
use Rattle.word_line.specs.declared.command.Form.{Form}
use Rattle.word_line.specs.declared.command.Form.TheVariants.{Gauss, Pd}
use Rattle.kh_replies.specs.Convert.{convert_reply, text_in}
use Rattle.kh_inputs.specs.Inputs.{IsDiagramText}
use Rattle.kh_runs.specs.Replies.{Reply}
use Rattle.kh_work.proofs.PrintedReadings.{IsCodeRead-printed}
use Rattle.kh_inputs.proofs.ReadCodes.{four_slots-read}
use Rattle.kh_inputs.proofs.TextFaults.{few_crossings-read}
use Rattle.answer_laws.specs.Shown.{ShowsDiagram}
use Rattle.answer_laws.proofs.GaussTexts.{gauss_text-le}
use Rattle.answer_laws.proofs.SmallCodes.{IsSmall}

-- the code of a text is small
pub small-read : (bytes : List ℕ) (code : Code) → IsDiagramText bytes code → IsSmall code
small-read bytes code text =
    record { four = four_slots-read bytes code text.read; few = few_crossings-read bytes code text.read }

-- its text is not as long as an input may be
text-le : (form : Form) (code : Code) → IsTrue (accepted code) → IsSmall code → code.loops ≤ LOOPS
    → length (text_in form code) + 1 ≤ INPUT_BYTES
text-le Pd code is small loops =
    let text = short-text code is small.few loops in omega (arith, text.few, small.few, loops)
text-le Gauss code is small loops = gauss_text-le code is small.few

-- a line of it is read as the code
pub IsDiagramText-line : (form : Form) (code : Code) → IsTrue (accepted code) → IsSmall code → code.loops ≤ LOOPS
    → IsDiagramText (with_feed (text_in form code)) code
IsDiagramText-line form code is small loops = record {
  few_bytes = omega (arith, text-le form code is small loops, length-append (text_in form code) (codes "\n"));
  read = IsCodeRead-printed form code is small.four small.few loops;
  is_accepted = is;
}

-- and so is a planar diagram text without a line feed
pub IsDiagramText-planar : (code : Code) → IsTrue (accepted code) → IsSmall code → code.loops ≤ LOOPS → IsDiagramText (pd_text code) code
IsDiagramText-planar code is small loops = record {
  few_bytes = omega (arith, text-le Pd code is small loops);
  read = IsPdReading-pd_text code (HasFourSlots-accepted code is small.few small.four) small.few loops;
  is_accepted = is;
}

-- a reply that is the line of a diagram shows it
pub ShowsDiagram-line : (Holds : Code → Type 0) (form : Form) (code : Code) (reply : Reply) → convert_reply form code ≡ reply
    → IsTrue (accepted code) → IsSmall code → code.loops ≤ LOOPS → Holds code → ShowsDiagram Holds reply
ShowsDiagram-line Holds form code reply same is small loops holds =
    subst (ShowsDiagram Holds) same
    (record { code = code; done = refl; text = IsDiagramText-line form code is small loops; holds = holds })
