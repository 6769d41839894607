-- From the reply of a command to the answer to words: words that mean a command are answered by the reply of its order, and
-- others by the usage line. First the general steps: a reply or an answer that does not depend on the bytes, words that read up
-- to a limit, and the reply to bytes within the limit of an order, or of a task. Then the answers to what is done, task by task:
-- the table and the Jones line of an accepted code, the Jones line alone, a schedule, an edit, and a number of the bench, which
-- has a diagram or is too large. Each unfolds the reply of its order, with the tests of limits decided.
use Rattle.std.proofs.Common.{◌≡◌, ◌≤◌, ◌<◌, ◌++◌, ℕ, List, length, IfOk, OnOk, inl, inr, refl, sym, ap, subst, ◌∙◌, Result, Ok, Err, Some, arith}
use Rattle.std.specs.declared.option.Option.{Option}
use Rattle.kh_types.specs.declared.limits.TheConstants.{INPUT_BYTES}
use Rattle.kh_types.specs.Code.{Code}
use Rattle.std.specs.Prelude.{false, nat_lt, unwrap_or, IfSome, IsTrue}
use Rattle.std.proofs.lemmas.Grind.{common_steps}
use Rattle.std.proofs.lemmas.Bool.{lt-ltb, le-ltb}
use Rattle.kh_types.specs.Acceptance.{accepted}
use Rattle.kh_types.specs.Table.{table, table_text}
use Rattle.circle_smoothing.specs.GeneratorCounts.{generator_count}
use Rattle.circle_smoothing.specs.declared.limits.TheConstants.{GENERATORS}
use Rattle.word_line.specs.declared.command.Task.{Task}
use Rattle.word_line.specs.declared.command.Task.TheVariants as tasks
use Rattle.word_line.specs.declared.command.Command.{Command}
use Rattle.word_line.specs.Commands.{IsCommand, IsUsage}
use Rattle.word_line.proofs.Readings.{IsCommand-one}
use Rattle.kh_runs.specs.declared.status.Status.TheVariants.{Done}
use Rattle.kh_work.specs.ByteLimits.{byte_limit}
use Rattle.kh_runs.specs.Replies.{Reply, reply_of}
use Rattle.kh_runs.specs.LimitedReplies.{IsLimitedReply}
use Rattle.kh_runs.specs.Refusals.{usage, too_many_bytes}
use Rattle.kh_replies.specs.Limits.{too_large_number}
use Rattle.kh_inputs.specs.Parts.{code_part, part_behind}
use Rattle.kh_inputs.specs.Inputs.{IsCodeRead}
use Rattle.kh_runs.specs.Homology.{jones_line, homology_text}
use Rattle.kh_work.specs.Homology.{homology_reply}
use Rattle.kh_work.specs.Schedule.{answer_lines, events_of, schedule_reply, schedule_text}
use Rattle.commit_core.specs.Answering.{answers}
use Rattle.kh_types.specs.declared.limits.TheConstants.{WORKERS}
use Rattle.undo_stack.specs.Schedule.{IsSchedule}
use Rattle.undo_stack.specs.declared.schedule.ScheduleLine.{ScheduleLine}
use Rattle.undo_stack.specs.EditScript.{IsEdit}
use Rattle.undo_stack.specs.EditRuns.{edited}
use Rattle.undo_stack.specs.Histories.{opening_history}
use Rattle.undo_stack.specs.declared.edit_line.EditLine.{EditLine}
use Rattle.kh_work.specs.Edit.{edit_reply, edits_in, outcome_reply}
use Rattle.braid_maker.specs.Closures.{code_of_number}
use Rattle.braid_maker.specs.declared.limits.TheConstants.{NUMBERS}
use Rattle.homology_tables.specs.Tables.{total_of}
use Rattle.kh_work.specs.Bench.{bench_counts, bench_lines, bench_reply, bench_text}
use Rattle.kh_work.specs.declared.order.Order.{Order}
use Rattle.kh_work.specs.declared.order.Order.TheVariants.{Bench}
use Rattle.kh_work.specs.Orders.{order_for, order_of}
use Rattle.kh_work.specs.Answer.{IsAnswer, IsBlindReply, IsInputReply, IsOrderReply, ReadsUpTo}
use Rattle.kh_work.specs.Runs.{IsBlindAnswer}
use Rattle.kh_work.specs.Told.{AnswersOrder, AnswersWords}
use Rattle.kh_runs.specs.Told.{IsReadOut}
use Rattle.kh_inputs.proofs.DiagramReadings.{first_fault-accepted}
use Rattle.kh_runs.proofs.SourceAnswers.{AnswersSource-long, AnswersSource-other}
use Rattle.kh_work.proofs.ReplyLemmas.{IsInputReply-few, cond-false, cond-true}

-- more bytes than an order reads are answered by the line of its limit
pub AnswersOrder-long : (order : Order) (left : Option (List ℕ)) (reply : Reply) (limit : ℕ) → byte_limit order ≡ Some limit
    → reply ≡ too_many_bytes limit → IfSome left (λ all. limit < length all) → AnswersOrder order left reply
AnswersOrder-long order left reply limit reads is long =
    AnswersSource-long (IsInputReply order) left reply limit long
    (λ bytes more. subst (λ (l : Option ℕ). IsLimitedReply l bytes (IsOrderReply order bytes) reply) (sym reads) (inl (more, is)))

-- words are answered by the order of their command, or by the usage line
answer-command : (words : List (List ℕ)) (bytes : List ℕ) (command : Command) (order : Order) (reply : Reply) → IsCommand words command
    → order ≡ order_of command → IsInputReply order bytes reply → IsAnswer words bytes reply
unfolding IsAnswer
answer-command words bytes command order reply is_command is replied =
    inl (command, is_command, subst (λ (o : Order). IsInputReply o bytes reply) is replied)

pub IsBlindAnswer-usage : (words : List (List ℕ)) (reply : Reply) → IsUsage words → reply ≡ usage → IsBlindAnswer words reply
unfolding IsAnswer
IsBlindAnswer-usage words reply none is bytes = inr (none, is)

pub AnswersWords-command : {E : Type 0} (result : Result Reply E) (left : Option (List ℕ)) (words : List (List ℕ)) (command : Command)
    (order : Order) → IsCommand words command → order ≡ order_of command → IfOk result (AnswersOrder order left)
    → IfOk result (AnswersWords words left)
AnswersWords-command (Ok reply) left words command order is_command is told =
    AnswersSource-other (IsInputReply order) (IsAnswer words) left reply
    (λ bytes. answer-command words bytes command order reply is_command is) told
AnswersWords-command (Err stop) left words command order is_command is told = tt

pub IsBlindAnswer-command : {E : Type 0} (result : Result Reply E) (words : List (List ℕ)) (command : Command) (order : Order)
    → IsCommand words command → order ≡ order_of command → IfOk result (IsBlindReply order) → IfOk result (IsBlindAnswer words)
IsBlindAnswer-command (Ok reply) words command order is_command is replied =
    λ bytes. answer-command words bytes command order reply is_command is (replied bytes)
IsBlindAnswer-command (Err stop) words command order is_command is replied = tt

-- words that read up to a limit
pub usage_reads_nothing : {P : Type 0} (words : List (List ℕ)) (limit : ℕ) → IsUsage words → ReadsUpTo words limit → P
usage_reads_nothing words limit none reads = absurd (none reads.command reads.meant)

pub IsReadOut-command : {E : Type 0} (result : Result Reply E) (words : List (List ℕ)) (command : Command) (order : Order)
    (before after : Option (List ℕ)) → IsCommand words command → order ≡ order_of command
    → ((limit : ℕ) → byte_limit order ≡ Some limit → OnOk result (IsReadOut limit before after))
    → (limit : ℕ) → ReadsUpTo words limit → OnOk result (IsReadOut limit before after)
IsReadOut-command result words command order before after meant is read limit reads =
    let same : reads.command ≡ command = IsCommand-one words reads.command command reads.meant meant in
    read limit (ap byte_limit (is ∙ sym (ap order_of same)) ∙ reads.limited)

-- the table and the Jones line, where the cube has few enough generators
homology_reply-table : (field : ℕ) (code : Code) → generator_count code ≤ GENERATORS
    → reply_of Done (table_text (table field code) ++ jones_line code) ≡ homology_reply field code
unfolding homology_text
homology_reply-table field code few =
    let short : nat_lt GENERATORS (generator_count code) ≡ false = grind (arith, common_steps) in
    rw short refl

-- words are answered by a reply of what their command orders
pub answer-order : (words : List (List ℕ)) (bytes : List ℕ) (command : Command) (order : Order) (reply : Reply) {limit : ℕ}
    → IsCommand words command → order_of command ≡ order → byte_limit order ≡ Some limit → length bytes ≤ limit
    → IsOrderReply order bytes reply → IsAnswer words bytes reply
answer-order words bytes command order reply {limit = limit} is_command is reads few replied =
    answer-command words bytes command order reply is_command (sym is) (IsInputReply-few order bytes reply limit reads few replied)

-- and so where their command has this task
pub answer-task : (words : List (List ℕ)) (bytes : List ℕ) (command : Command) (task : Task) (reply : Reply) {limit : ℕ}
    → IsCommand words command → command.task ≡ task → byte_limit (order_for task command) ≡ Some limit → length bytes ≤ limit
    → IsOrderReply (order_for task command) bytes reply → IsAnswer words bytes reply
answer-task words bytes command task reply is_command is_task =
    answer-order words bytes command (order_for task command) reply is_command (ap (λ (t : Task). order_for t command) is_task)

-- the code of an accepted diagram is answered by its table and its Jones line
pub IsAnswer-table : (words : List (List ℕ)) (bytes : List ℕ) (command : Command) (code : Code) → IsCommand words command
    → command.task ≡ tasks.Homology → length bytes ≤ INPUT_BYTES → IsCodeRead bytes (Ok code) → IsTrue (accepted code)
    → generator_count code ≤ GENERATORS
    → IsAnswer words bytes (reply_of Done (table_text (table command.field code) ++ jones_line code))
IsAnswer-table words bytes command code is_command is_homology few_bytes read is_accepted few =
    answer-task words bytes command tasks.Homology (reply_of Done (table_text (table command.field code) ++ jones_line code)) is_command
    is_homology refl few_bytes
    (record {
      outcome = Ok code;
      read = (read, first_fault-accepted code is_accepted);
      answered = homology_reply-table command.field code few;
    })

-- and by its Jones line alone
pub IsAnswer-jones : (words : List (List ℕ)) (bytes : List ℕ) (command : Command) (code : Code) → IsCommand words command
    → command.task ≡ tasks.Jones → length bytes ≤ INPUT_BYTES → IsCodeRead bytes (Ok code) → IsTrue (accepted code)
    → IsAnswer words bytes (reply_of Done (jones_line code))
IsAnswer-jones words bytes command code is_command is_jones few_bytes read is_accepted =
    answer-task words bytes command tasks.Jones (reply_of Done (jones_line code)) is_command is_jones refl few_bytes
    (record { outcome = Ok code; read = (read, first_fault-accepted code is_accepted); answered = refl })

-- the text of a schedule, where the cube has few enough generators
schedule_reply-text : (field : ℕ) (code : Code) (script : List (ℕ × ScheduleLine)) → generator_count code ≤ GENERATORS
    → reply_of Done
    (answer_lines script (answers field code WORKERS (events_of script)) ++ (table_text (table field code) ++ jones_line code))
    ≡ schedule_reply field code script
unfolding schedule_text homology_text
schedule_reply-text field code script few =
    let short : nat_lt GENERATORS (generator_count code) ≡ false = grind (arith, common_steps) in
    rw short refl

-- the code of an accepted diagram with a script is answered by the lines of the script, its table and its Jones line
pub IsAnswer-schedule : (words : List (List ℕ)) (bytes : List ℕ) (command : Command) (code : Code) (script : List (ℕ × ScheduleLine))
    → IsCommand words command → command.task ≡ tasks.Schedule → length bytes ≤ INPUT_BYTES → IsCodeRead (code_part bytes) (Ok code)
    → IsTrue (accepted code) → IsSchedule (part_behind bytes) (Ok script) → generator_count code ≤ GENERATORS
    → IsAnswer words bytes (reply_of Done
    (answer_lines script (answers command.field code WORKERS (events_of script))
    ++ (table_text (table command.field code) ++ jones_line code)))
IsAnswer-schedule words bytes command code script is_command is_schedule few_bytes read is_accepted read_script few =
    answer-task words bytes command tasks.Schedule
    (reply_of Done
    (answer_lines script (answers command.field code WORKERS (events_of script))
    ++ (table_text (table command.field code) ++ jones_line code))) is_command is_schedule refl few_bytes
    (record {
      outcome = Ok code;
      read = (read, first_fault-accepted code is_accepted);
      answered = record { reading = Ok script; read = read_script; answered = schedule_reply-text command.field code script few };
    })

-- the code of an accepted diagram with a script is answered by what comes of the lines of the script
pub IsAnswer-edit : (words : List (List ℕ)) (bytes : List ℕ) (command : Command) (code : Code) (script : List (ℕ × EditLine))
    → IsCommand words command → command.task ≡ tasks.Edit → length bytes ≤ INPUT_BYTES → IsCodeRead (code_part bytes) (Ok code)
    → IsTrue (accepted code) → IsEdit (part_behind bytes) (Ok script)
    → IsAnswer words bytes (outcome_reply code script (edited (edits_in script) (opening_history code)))
unfolding edit_reply
IsAnswer-edit words bytes command code script is_command is_edit few_bytes read is_accepted read_script =
    answer-task words bytes command tasks.Edit (outcome_reply code script (edited (edits_in script) (opening_history code))) is_command is_edit
    refl few_bytes
    (record {
      outcome = Ok code;
      read = (read, first_fault-accepted code is_accepted);
      answered = record { reading = Ok script; read = read_script; answered = refl };
    })

-- a number is answered by the table of its diagram, where it has one
pub IsAnswer-number : (words : List (List ℕ)) (bytes : List ℕ) (command : Command) (number : ℕ) → IsCommand words command
    → command.task ≡ tasks.Bench → command.number ≡ Some number → IsAnswer words bytes (bench_reply command.field number)
IsAnswer-number words bytes command number is_command is_bench is_number =
    answer-command words bytes command (Bench command.field command.workers number) (bench_reply command.field number) is_command
    (sym
    (ap (λ (t : Task). order_for t command) is_bench
    ∙ ap (λ (o : Option ℕ). Bench command.field command.workers (unwrap_or o 0)) is_number)) refl

bench_reply-table : (field number : ℕ) → number < NUMBERS
    → bench_reply field number ≡ reply_of Done
    (bench_lines (bench_counts number (code_of_number number) (total_of (table field (code_of_number number))))
    ++ jones_line (code_of_number number))
unfolding bench_text
bench_reply-table field number small =
    cond-true (nat_lt number NUMBERS) (reply_of Done (bench_text field number (code_of_number number))) (too_large_number number)
    (lt-ltb number NUMBERS small)

bench_reply-limit : (field number : ℕ) → NUMBERS ≤ number → bench_reply field number ≡ too_large_number number
bench_reply-limit field number large =
    cond-false (nat_lt number NUMBERS) (reply_of Done (bench_text field number (code_of_number number))) (too_large_number number)
    (le-ltb number NUMBERS large)

pub IsAnswer-bench : (words : List (List ℕ)) (bytes : List ℕ) (command : Command) (number : ℕ) → IsCommand words command
    → command.task ≡ tasks.Bench → command.number ≡ Some number → number < NUMBERS
    → IsAnswer words bytes (reply_of Done
    (bench_lines (bench_counts number (code_of_number number) (total_of (table command.field (code_of_number number))))
    ++ jones_line (code_of_number number)))
IsAnswer-bench words bytes command number is_command is_bench is_number small =
    subst (IsAnswer words bytes) (bench_reply-table command.field number small)
    (IsAnswer-number words bytes command number is_command is_bench is_number)

pub IsAnswer-large : (words : List (List ℕ)) (bytes : List ℕ) (command : Command) (number : ℕ) → IsCommand words command
    → command.task ≡ tasks.Bench → command.number ≡ Some number → NUMBERS ≤ number → IsAnswer words bytes (too_large_number number)
IsAnswer-large words bytes command number is_command is_bench is_number large =
    subst (IsAnswer words bytes) (bench_reply-limit command.field number large)
    (IsAnswer-number words bytes command number is_command is_bench is_number)
