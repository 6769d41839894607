-- The answers to the codes of diagrams at a mark.
use Rattle.std.proofs.Common.{◌≡◌, ◌≤◌, ◌++◌, ℕ, List, length, true, false, refl, sym, Ok, Some}
use Rattle.std.specs.Prelude.{IsTrue}
use Rattle.std.proofs.lemmas.Bool.{le-ltb}
use Rattle.kh_types.specs.Code.{Code}
use Rattle.kh_types.specs.Acceptance.{accepted}
use Rattle.kh_types.specs.Table.{table_text}
use Rattle.kh_types.specs.declared.limits.TheConstants.{INPUT_BYTES}
use Rattle.circle_smoothing.specs.GeneratorCounts.{generator_count}
use Rattle.circle_smoothing.specs.declared.limits.TheConstants.{GENERATORS}
use Rattle.reduced_cube.specs.Reduced.{is_mark, reduced_table}
use Rattle.word_line.specs.declared.command.Command.{Command}
use Rattle.word_line.specs.declared.command.Task.TheVariants as tasks
use Rattle.word_line.specs.Commands.{IsCommand}
use Rattle.kh_runs.specs.declared.status.Status.TheVariants.{Done}
use Rattle.kh_inputs.specs.Inputs.{IsCodeRead}
use Rattle.kh_runs.specs.Homology.{jones_line}
use Rattle.kh_runs.specs.Refusals.{refused_mark}
use Rattle.kh_runs.specs.Replies.{reply_of}
use Rattle.kh_work.specs.Answer.{IsAnswer}
use Rattle.kh_work.specs.Reduced.{mark_line}
use Rattle.kh_work.specs.declared.order.Order.TheVariants as orders
use Rattle.kh_work.specs.declared.order.CodeOrder.TheVariants.{Reduced}
use Rattle.kh_work.proofs.AnswerLemmas.{answer-order}
use Rattle.kh_inputs.proofs.DiagramReadings.{first_fault-accepted}
use Rattle.kh_work.proofs.ReducedLemmas.{order-reduced, reduced_reply-text, reduced_reply-unmarked}

pub IsAnswer-reduced : (words : List (List ℕ)) (bytes : List ℕ) (command : Command) (mark : ℕ) (code : Code) → IsCommand words command
    → command.task ≡ tasks.Reduced → command.mark ≡ Some mark → length bytes ≤ INPUT_BYTES → IsCodeRead bytes (Ok code) → IsTrue (accepted code)
    → is_mark code mark ≡ true → generator_count code ≤ GENERATORS
    → IsAnswer words bytes (reply_of Done (mark_line mark ++ (table_text (reduced_table command.field code mark) ++ jones_line code)))
IsAnswer-reduced words bytes command mark code is_command is_reduced is_given few read is_accepted marked few_generators =
    let reply = reply_of Done (mark_line mark ++ (table_text (reduced_table command.field code mark) ++ jones_line code)) in
    answer-order words bytes command (orders.Code (Reduced command.field mark)) reply is_command
    (order-reduced command mark is_reduced is_given) refl few
    (record {
      outcome = Ok code;
      read = (read, first_fault-accepted code is_accepted);
      answered = sym (reduced_reply-text command.field mark code marked (le-ltb GENERATORS (generator_count code) few_generators));
    })

pub IsAnswer-unmarked : (words : List (List ℕ)) (bytes : List ℕ) (command : Command) (mark : ℕ) (code : Code) → IsCommand words command
    → command.task ≡ tasks.Reduced → command.mark ≡ Some mark → length bytes ≤ INPUT_BYTES → IsCodeRead bytes (Ok code) → IsTrue (accepted code)
    → is_mark code mark ≡ false → IsAnswer words bytes (refused_mark mark)
IsAnswer-unmarked words bytes command mark code is_command is_reduced is_given few read is_accepted unmarked =
    answer-order words bytes command (orders.Code (Reduced command.field mark)) (refused_mark mark) is_command
    (order-reduced command mark is_reduced is_given) refl few
    (record {
      outcome = Ok code;
      read = (read, first_fault-accepted code is_accepted);
      answered = reduced_reply-unmarked command.field mark code unmarked;
    })
