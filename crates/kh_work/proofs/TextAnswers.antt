-- The answers of `check` and of `convert` to the codes of diagrams.
use Rattle.std.proofs.Common.{◌≡◌, ◌≤◌, ◌++◌, ℕ, List, length, refl, subst, Ok}
use Rattle.std.specs.Prelude.{IsTrue, codes}
use Rattle.kh_types.specs.Code.{Code}
use Rattle.kh_types.specs.Acceptance.{accepted}
use Rattle.kh_types.specs.declared.limits.TheConstants.{INPUT_BYTES}
use Rattle.gauss_code.specs.Printing.{gauss_text}
use Rattle.pd_code.specs.Printing.{pd_text}
use Rattle.word_line.specs.declared.command.Command.{Command}
use Rattle.word_line.specs.declared.command.Form.{Form}
use Rattle.word_line.specs.declared.command.Form.TheVariants.{Gauss, Pd}
use Rattle.word_line.specs.declared.command.Task.TheVariants.{Check, Convert}
use Rattle.word_line.specs.Commands.{IsCommand}
use Rattle.kh_replies.specs.Check.{check_reply}
use Rattle.kh_replies.specs.Convert.{convert_reply}
use Rattle.kh_runs.specs.declared.status.Status.TheVariants.{Done}
use Rattle.kh_inputs.specs.Inputs.{IsCodeRead}
use Rattle.kh_runs.specs.Replies.{Reply, reply_of}
use Rattle.kh_work.proofs.PrintedReadings.{IsCodeRead-printed}
use Rattle.kh_inputs.proofs.ReadCodes.{four_slots-read}
use Rattle.kh_inputs.proofs.TextFaults.{few_crossings-read, few_loops-read}
use Rattle.kh_work.specs.Answer.{IsAnswer}
use Rattle.kh_work.proofs.AnswerLemmas.{answer-task}
use Rattle.kh_inputs.proofs.DiagramReadings.{first_fault-accepted}
use Rattle.kh_work.proofs.OneAnswer.{HaveOneReply-task, IsAnswer-one}

pub IsAnswer-counts : (words : List (List ℕ)) (bytes : List ℕ) (command : Command) (code : Code) → IsCommand words command
    → command.task ≡ Check → length bytes ≤ INPUT_BYTES → IsCodeRead bytes (Ok code) → IsTrue (accepted code)
    → IsAnswer words bytes (check_reply code)
IsAnswer-counts words bytes command code is_command is_check few read is_accepted =
    answer-task words bytes command Check (check_reply code) is_command is_check refl few
    (record { outcome = Ok code; read = (read, first_fault-accepted code is_accepted); answered = refl })

-- the form that the words ask for
IsAnswer-form : (words : List (List ℕ)) (bytes : List ℕ) (command : Command) (code : Code) → IsCommand words command
    → command.task ≡ Convert → length bytes ≤ INPUT_BYTES → IsCodeRead bytes (Ok code) → IsTrue (accepted code)
    → IsAnswer words bytes (convert_reply command.to code)
IsAnswer-form words bytes command code is_command is_convert few read is_accepted =
    answer-task words bytes command Convert (convert_reply command.to code) is_command is_convert refl few
    (record { outcome = Ok code; read = (read, first_fault-accepted code is_accepted); answered = refl })

pub IsAnswer-planar : (words : List (List ℕ)) (bytes : List ℕ) (command : Command) (code : Code) → IsCommand words command
    → command.task ≡ Convert → command.to ≡ Pd → length bytes ≤ INPUT_BYTES → IsCodeRead bytes (Ok code) → IsTrue (accepted code)
    → IsAnswer words bytes (reply_of Done (pd_text code ++ codes "\n"))
IsAnswer-planar words bytes command code is_command is_convert is_form few read is_accepted =
    subst (λ (form : Form). IsAnswer words bytes (convert_reply form code)) is_form
    (IsAnswer-form words bytes command code is_command is_convert few read is_accepted)

pub IsAnswer-gauss : (words : List (List ℕ)) (bytes : List ℕ) (command : Command) (code : Code) → IsCommand words command
    → command.task ≡ Convert → command.to ≡ Gauss → length bytes ≤ INPUT_BYTES → IsCodeRead bytes (Ok code) → IsTrue (accepted code)
    → IsAnswer words bytes (reply_of Done (gauss_text code ++ codes "\n"))
IsAnswer-gauss words bytes command code is_command is_convert is_form few read is_accepted =
    subst (λ (form : Form). IsAnswer words bytes (convert_reply form code)) is_form
    (IsAnswer-form words bytes command code is_command is_convert few read is_accepted)

-- what is answered is read as the code, since there is one answer
pub IsAnswer-read_back : (words : List (List ℕ)) (bytes : List ℕ) (command : Command) (code : Code) (reply : Reply)
    → IsCommand words command → command.task ≡ Convert → length bytes ≤ INPUT_BYTES → IsCodeRead bytes (Ok code)
    → IsTrue (accepted code) → IsAnswer words bytes reply → IsCodeRead reply.text (Ok code)
IsAnswer-read_back words bytes command code reply is_command is_convert few read is_accepted answered =
    let same : convert_reply command.to code ≡ reply =
    IsAnswer-one words bytes (convert_reply command.to code) reply
    (HaveOneReply-task words command Convert is_command is_convert (λ e. cc))
    (IsAnswer-form words bytes command code is_command is_convert few read is_accepted) answered in
    subst (λ (r : Reply). IsCodeRead r.text (Ok code)) same
    (IsCodeRead-printed command.to code is_accepted (four_slots-read bytes code read) (few_crossings-read bytes code read)
    (few_loops-read bytes code read))
