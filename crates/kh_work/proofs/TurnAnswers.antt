-- The answers to the codes of diagrams that are drawn, mirrored, reversed and put beside each other.
use Rattle.std.proofs.Common.{◌≡◌, ◌≤◌, ◌++◌, ◌∙◌, ℕ, List, length, refl, Ok, Err, nat_lt}
use Rattle.std.specs.Prelude.{IsTrue, codes}
use Rattle.std.proofs.lemmas.Bool.{le-ltb}
use Rattle.kh_types.specs.Code.{Code}
use Rattle.kh_types.specs.Acceptance.{accepted}
use Rattle.kh_types.specs.declared.limits.TheConstants.{CROSSINGS, INPUT_BYTES, LOOPS}
use Rattle.link_algebra.specs.Mirrors.{mirror_of, reversal_of}
use Rattle.link_algebra.specs.Unions.{crossings_together, loops_together, union_of}
use Rattle.morse_drawing.specs.Pages.{slices_of}
use Rattle.morse_drawing.specs.Texts.{drawing_text}
use Rattle.pd_code.specs.Printing.{pd_text}
use Rattle.word_line.specs.declared.command.Command.{Command}
use Rattle.word_line.specs.declared.command.Task.TheVariants.{Draw, Mirror, Reverse, Union}
use Rattle.word_line.specs.Commands.{IsCommand}
use Rattle.kh_runs.specs.declared.status.Status.TheVariants.{Done}
use Rattle.kh_inputs.specs.Inputs.{IsCodeRead, IsDiagramRead}
use Rattle.kh_inputs.specs.Parts.{code_part, part_behind}
use Rattle.kh_runs.specs.Replies.{Reply, reply_of}
use Rattle.kh_replies.specs.Union.{union_reply}
use Rattle.kh_work.specs.Answer.{IsAnswer}
use Rattle.kh_work.proofs.AnswerLemmas.{answer-task}
use Rattle.kh_inputs.proofs.DiagramReadings.{first_fault-accepted}
use Rattle.kh_work.proofs.ReplyLemmas.{cond-false}

pub IsAnswer-drawing : (words : List (List ℕ)) (bytes : List ℕ) (command : Command) (code : Code) → IsCommand words command
    → command.task ≡ Draw → length bytes ≤ INPUT_BYTES → IsCodeRead bytes (Ok code) → IsTrue (accepted code)
    → IsAnswer words bytes (reply_of Done (drawing_text (slices_of code)))
IsAnswer-drawing words bytes command code is_command is_draw few read is_accepted =
    answer-task words bytes command Draw (reply_of Done (drawing_text (slices_of code))) is_command is_draw refl few
    (record { outcome = Ok code; read = (read, first_fault-accepted code is_accepted); answered = refl })

pub IsAnswer-mirror : (words : List (List ℕ)) (bytes : List ℕ) (command : Command) (code : Code) → IsCommand words command
    → command.task ≡ Mirror → length bytes ≤ INPUT_BYTES → IsCodeRead bytes (Ok code) → IsTrue (accepted code)
    → IsAnswer words bytes (reply_of Done (pd_text (mirror_of code) ++ codes "\n"))
IsAnswer-mirror words bytes command code is_command is_mirror few read is_accepted =
    answer-task words bytes command Mirror (reply_of Done (pd_text (mirror_of code) ++ codes "\n")) is_command is_mirror refl few
    (record { outcome = Ok code; read = (read, first_fault-accepted code is_accepted); answered = refl })

pub IsAnswer-reverse : (words : List (List ℕ)) (bytes : List ℕ) (command : Command) (code : Code) → IsCommand words command
    → command.task ≡ Reverse → length bytes ≤ INPUT_BYTES → IsCodeRead bytes (Ok code) → IsTrue (accepted code)
    → IsAnswer words bytes (reply_of Done (pd_text (reversal_of code) ++ codes "\n"))
IsAnswer-reverse words bytes command code is_command is_reverse few read is_accepted =
    answer-task words bytes command Reverse (reply_of Done (pd_text (reversal_of code) ++ codes "\n")) is_command is_reverse refl few
    (record { outcome = Ok code; read = (read, first_fault-accepted code is_accepted); answered = refl })

pub IsAnswer-union : (words : List (List ℕ)) (bytes : List ℕ) (command : Command) (first second : Code) → IsCommand words command
    → command.task ≡ Union → length bytes ≤ INPUT_BYTES → IsCodeRead (code_part bytes) (Ok first) → IsTrue (accepted first)
    → IsCodeRead (part_behind bytes) (Ok second) → IsTrue (accepted second) → IsAnswer words bytes (union_reply first second)
IsAnswer-union words bytes command first second is_command is_union few read is_accepted read_second is_accepted_second =
    answer-task words bytes command Union (union_reply first second) is_command is_union refl few
    (record {
      outcome = Ok first;
      read = (read, first_fault-accepted first is_accepted);
      answered = record {
        outcome = Ok second;
        read = (read_second, first_fault-accepted second is_accepted_second);
        answered = refl;
      };
    })

pub IsAnswer-refused_second : (words : List (List ℕ)) (bytes : List ℕ) (command : Command) (first : Code) (refusal : Reply)
    → IsCommand words command → command.task ≡ Union → length bytes ≤ INPUT_BYTES → IsCodeRead (code_part bytes) (Ok first)
    → IsTrue (accepted first) → IsDiagramRead (part_behind bytes) (Err refusal)
    → IsAnswer words bytes (reply_of refusal.status (codes "second\n" ++ refusal.text))
IsAnswer-refused_second words bytes command first refusal is_command is_union few read is_accepted refused =
    answer-task words bytes command Union (reply_of refusal.status (codes "second\n" ++ refusal.text)) is_command is_union refl few
    (record {
      outcome = Ok first;
      read = (read, first_fault-accepted first is_accepted);
      answered = record { outcome = Err refusal; read = refused; answered = refl };
    })

-- within the limits it is the text
pub union_reply-text : (first second : Code) → crossings_together first second ≤ CROSSINGS → loops_together first second ≤ LOOPS
    → union_reply first second ≡ reply_of Done (pd_text (union_of first second) ++ codes "\n")
union_reply-text first second few_crossings few_loops =
    cond-false (nat_lt CROSSINGS (crossings_together first second)) _ _ (le-ltb CROSSINGS (crossings_together first second) few_crossings)
    ∙ cond-false (nat_lt LOOPS (loops_together first second)) _ _ (le-ltb LOOPS (loops_together first second) few_loops)
