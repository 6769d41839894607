-- The answers of an edit: what is written, and how it is read.
use Rattle.std.proofs.Common.{◌≡◌, ◌≤◌, ℕ, List, length}
use Rattle.std.specs.Prelude.{Ok}
use Rattle.kh_types.specs.Code.{Code}
use Rattle.kh_types.specs.declared.limits.TheConstants.{INPUT_BYTES, LOOPS}
use Rattle.pd_code.specs.Printing.{pd_text}
use Rattle.undo_stack.specs.EditRuns.{diagram_after, edited}
use Rattle.undo_stack.specs.EditScript.{IsEdit}
use Rattle.undo_stack.specs.Histories.{opening_history}
use Rattle.undo_stack.specs.declared.edit_line.EditLine.{EditLine}
use Rattle.word_line.specs.declared.command.Command.{Command}
use Rattle.word_line.specs.declared.command.Task.TheVariants.{Edit}
use Rattle.word_line.specs.Commands.{IsCommand}
use Rattle.kh_inputs.specs.Inputs.{IsDiagramText}
use Rattle.kh_inputs.specs.Parts.{code_part, part_behind}
use Rattle.kh_runs.specs.Replies.{Reply}
use Rattle.kh_work.specs.Answer.{IsAnswer}
use Rattle.kh_work.specs.Edit.{edits_in, outcome_reply}
use Rattle.kh_work.proofs.AnswerLemmas.{IsAnswer-edit}
use Rattle.kh_work.proofs.OneAnswer.{HaveOneReply-task, IsAnswer-one}
use Rattle.answer_laws.proofs.EditedCodes.{accepted-after, small-after}
use Rattle.answer_laws.proofs.PrintedCodes.{IsDiagramText-planar, small-read}

pub one-edit : (words : List (List ℕ)) (command : Command) (bytes : List ℕ) (code : Code) (script : List (ℕ × EditLine)) (reply : Reply)
    → IsCommand words command → command.task ≡ Edit → length bytes ≤ INPUT_BYTES → IsDiagramText (code_part bytes) code
    → IsEdit (part_behind bytes) (Ok script) → IsAnswer words bytes reply
    → reply ≡ outcome_reply code script (edited (edits_in script) (opening_history code))
one-edit words command bytes code script reply is_command is_task few text read answered =
    IsAnswer-one words bytes reply _ (HaveOneReply-task words command Edit is_command is_task (λ e. cc)) answered
    (IsAnswer-edit words bytes command code script is_command is_task few text.read text.is_accepted read)

pub read-after : (bytes : List ℕ) (lines : List EditLine) (code : Code) (count : ℕ) → IsDiagramText bytes code
    → (diagram_after lines code count).loops ≤ LOOPS
    → IsDiagramText (pd_text (diagram_after lines code count)) (diagram_after lines code count)
read-after bytes lines code count text loops =
    IsDiagramText-planar (diagram_after lines code count) (accepted-after lines code count text.is_accepted)
    (small-after lines code count (small-read bytes code text)) loops
