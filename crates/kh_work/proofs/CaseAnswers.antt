-- The cases of an answer that come before what a command tells, each as the answer to words and bytes. Words without a command
-- get the usage line, and too many bytes the limit, which is one of two. A text that is no code, and a code with a fault, are
-- refused; this is said of a whole input, and of the part before the first semicolon where a script or a second code stands
-- behind it. Then scripts, as they were read, get their replies, and codes with too many generators their number, for homology,
-- certify, reduced and schedule. Last, the verdict on a log is told. All unfold what an answer is, with the reading put in.
use Rattle.std.proofs.Common.{◌≡◌, ◌<◌, ◌≤◌, ◌⊎◌, inl, inr, ℕ, List, length, nat_lt, true, refl, sym, subst, Result, Ok, Err, Some}
use Rattle.std.specs.Prelude.{IsTrue, Option}
use Rattle.std.proofs.lemmas.Bool.{lt-ltb}
use Rattle.kh_types.specs.Acceptance.{accepted, first_fault}
use Rattle.kh_types.specs.Code.{Code}
use Rattle.kh_types.specs.Table.{Table}
use Rattle.kh_types.specs.declared.fault.CodeFault.{CodeFault}
use Rattle.kh_types.specs.declared.limits.TheConstants.{INPUT_BYTES}
use Rattle.circle_smoothing.specs.GeneratorCounts.{generator_count}
use Rattle.circle_smoothing.specs.declared.limits.TheConstants.{GENERATORS}
use Rattle.cancel_log.specs.Verdicts.{IsVerdict}
use Rattle.cancel_log.specs.declared.limits.TheConstants.{LOG_BYTES}
use Rattle.cancel_log.specs.declared.stop.LogStop.{LogStop}
use Rattle.reduced_cube.specs.Reduced.{is_mark}
use Rattle.undo_stack.specs.EditScript.{IsEdit}
use Rattle.undo_stack.specs.Schedule.{IsSchedule}
use Rattle.undo_stack.specs.declared.edit_line.EditLine.{EditLine}
use Rattle.undo_stack.specs.declared.schedule.ScheduleLine.{ScheduleLine}
use Rattle.undo_stack.specs.declared.stop.ScriptStop.{ScriptStop}
use Rattle.word_line.specs.Commands.{IsCommand, IsUsage}
use Rattle.word_line.specs.declared.command.Command.{Command}
use Rattle.word_line.specs.declared.command.Task.TheVariants as tasks
use Rattle.kh_inputs.specs.Inputs.{IsCodeRead, IsDiagramRead}
use Rattle.kh_inputs.specs.Parts.{code_part, part_behind}
use Rattle.kh_inputs.specs.CodeRefusals.{IsFaultRefusal}
use Rattle.kh_runs.specs.Refusals.{too_many_bytes, usage}
use Rattle.kh_replies.specs.Limits.{too_many_generators}
use Rattle.kh_runs.specs.Replies.{Reply, reply_of}
use Rattle.kh_runs.specs.declared.status.Status.TheVariants.{Done}
use Rattle.kh_work.specs.declared.order.Order.{Order}
use Rattle.kh_work.specs.declared.order.Order.TheVariants as orders
use Rattle.kh_work.specs.declared.order.CodeOrder.{CodeOrder}
use Rattle.kh_work.specs.declared.order.CodeOrder.TheVariants.{Reduced}
use Rattle.kh_work.specs.declared.order.ScriptOrder.{ScriptOrder}
use Rattle.kh_work.specs.Orders.{order_of}
use Rattle.kh_runs.specs.LimitedReplies.{IsLimitedReply}
use Rattle.kh_work.specs.Answer.{IsAnswer, IsOrderReply}
use Rattle.kh_work.specs.ByteLimits.{byte_limit}
use Rattle.kh_work.specs.Edit.{IsEditedReply}
use Rattle.kh_work.specs.Homology.{homology_reply}
use Rattle.kh_runs.specs.Homology.{homology_text}
use Rattle.kh_work.specs.Schedule.{IsScriptReply, schedule_reply, schedule_text}
use Rattle.kh_work.specs.Verify.{IsVerdictReply}
use Rattle.kh_work.proofs.AnswerLemmas.{answer-order, answer-task}
use Rattle.kh_inputs.proofs.DiagramReadings.{first_fault-accepted}
use Rattle.kh_work.proofs.ReducedLemmas.{order-reduced, reduced_reply-large}
use Rattle.kh_work.proofs.ReplyLemmas.{cond-true}

-- words without a command, and too many bytes

pub IsAnswer-usage : (words : List (List ℕ)) (bytes : List ℕ) → IsUsage words → IsAnswer words bytes usage
unfolding IsAnswer
IsAnswer-usage words bytes none = inr (none, refl)

pub IsAnswer-many_bytes : (words : List (List ℕ)) (bytes : List ℕ) (command : Command) (limit : ℕ) → IsCommand words command
    → byte_limit (order_of command) ≡ Some limit → limit < length bytes → IsAnswer words bytes (too_many_bytes limit)
unfolding IsAnswer
IsAnswer-many_bytes words bytes command limit meant reads many =
    let P : Option ℕ → Type 0 = λ most. IsLimitedReply most bytes (IsOrderReply (order_of command) bytes) (too_many_bytes limit) in
    inl (command, meant, subst P (sym reads) (inl (many, refl)))

-- the limits are two
same_limit : (limit other : ℕ) → Some other ≡ Some limit → limit ≡ other
same_limit limit other same = cc

pub byte_limit-two : (order : Order) (limit : ℕ) → byte_limit order ≡ Some limit → (limit ≡ LOG_BYTES) ⊎ (limit ≡ INPUT_BYTES)
byte_limit-two (orders.Code order) limit is = inr (same_limit limit INPUT_BYTES is)
byte_limit-two (orders.Script order) limit is = inr (same_limit limit INPUT_BYTES is)
byte_limit-two orders.Pair limit is = inr (same_limit limit INPUT_BYTES is)
byte_limit-two orders.Log limit is = inl (same_limit limit LOG_BYTES is)
byte_limit-two (orders.Bench field workers number) limit is = absurd (cc)

-- texts and codes that are refused

-- a refused diagram is its refusal
answer-refused : (words : List (List ℕ)) (bytes : List ℕ) (command : Command) (order : CodeOrder) (refusal : Reply)
    → IsCommand words command → order_of command ≡ orders.Code order → length bytes ≤ INPUT_BYTES → IsDiagramRead bytes (Err refusal)
    → IsAnswer words bytes refusal
answer-refused words bytes command order refusal meant is few refused =
    answer-order words bytes command (orders.Code order) refusal meant is refl few
    (record { outcome = Err refusal; read = refused; answered = refl })

-- more is read behind the first semicolon: a script, or a second code
abbrev ReadsBehind : Command → Type 0
ReadsBehind command = ((order : ScriptOrder) × (order_of command ≡ orders.Script order)) ⊎ (order_of command ≡ orders.Pair)

-- and so a refused diagram is before that
answer-refused_before : (words : List (List ℕ)) (bytes : List ℕ) (command : Command) (refusal : Reply) → IsCommand words command
    → ReadsBehind command → length bytes ≤ INPUT_BYTES → IsDiagramRead (code_part bytes) (Err refusal) → IsAnswer words bytes refusal
answer-refused_before words bytes command refusal meant (inl (order, is)) few refused =
    answer-order words bytes command (orders.Script order) refusal meant is refl few
    (record { outcome = Err refusal; read = refused; answered = refl })
answer-refused_before words bytes command refusal meant (inr is) few refused =
    answer-order words bytes command orders.Pair refusal meant is refl few
    (record { outcome = Err refusal; read = refused; answered = refl })

-- a code with a fault is a refused diagram
faulty-read : (text : List ℕ) (code : Code) (fault : CodeFault) (refusal : Reply) → IsCodeRead text (Ok code) → first_fault code ≡ Some fault
    → IsFaultRefusal fault refusal → IsDiagramRead text (Err refusal)
faulty-read text code fault refusal read breaks line =
    inr (record { code = code; fault = fault; read = read; breaks = breaks; line = line })

pub IsAnswer-unread : (words : List (List ℕ)) (bytes : List ℕ) (command : Command) (order : CodeOrder) (refusal : Reply)
    → IsCommand words command → order_of command ≡ orders.Code order → length bytes ≤ INPUT_BYTES → IsCodeRead bytes (Err refusal)
    → IsAnswer words bytes refusal
IsAnswer-unread words bytes command order refusal meant is few refused =
    answer-refused words bytes command order refusal meant is few (inl refused)

pub IsAnswer-faulty : (words : List (List ℕ)) (bytes : List ℕ) (command : Command) (order : CodeOrder) (code : Code) (fault : CodeFault)
    (refusal : Reply) → IsCommand words command → order_of command ≡ orders.Code order → length bytes ≤ INPUT_BYTES
    → IsCodeRead bytes (Ok code) → first_fault code ≡ Some fault → IsFaultRefusal fault refusal → IsAnswer words bytes refusal
IsAnswer-faulty words bytes command order code fault refusal meant is few read breaks line =
    answer-refused words bytes command order refusal meant is few (faulty-read bytes code fault refusal read breaks line)

pub IsAnswer-unread_before : (words : List (List ℕ)) (bytes : List ℕ) (command : Command) (refusal : Reply) → IsCommand words command
    → ReadsBehind command → length bytes ≤ INPUT_BYTES → IsCodeRead (code_part bytes) (Err refusal) → IsAnswer words bytes refusal
IsAnswer-unread_before words bytes command refusal meant behind few refused =
    answer-refused_before words bytes command refusal meant behind few (inl refused)

pub IsAnswer-faulty_before : (words : List (List ℕ)) (bytes : List ℕ) (command : Command) (code : Code) (fault : CodeFault) (refusal : Reply)
    → IsCommand words command → ReadsBehind command → length bytes ≤ INPUT_BYTES → IsCodeRead (code_part bytes) (Ok code)
    → first_fault code ≡ Some fault → IsFaultRefusal fault refusal → IsAnswer words bytes refusal
IsAnswer-faulty_before words bytes command code fault refusal meant behind few read breaks line =
    answer-refused_before words bytes command refusal meant behind few (faulty-read (code_part bytes) code fault refusal read breaks line)

-- scripts that are refused

pub IsAnswer-scheduled : (words : List (List ℕ)) (bytes : List ℕ) (command : Command) (code : Code)
    (reading : Result (List (ℕ × ScheduleLine)) ScriptStop) (reply : Reply) → IsCommand words command → command.task ≡ tasks.Schedule
    → length bytes ≤ INPUT_BYTES → IsCodeRead (code_part bytes) (Ok code) → IsTrue (accepted code)
    → IsSchedule (part_behind bytes) reading → IsScriptReply command.field code reading reply → IsAnswer words bytes reply
IsAnswer-scheduled words bytes command code reading reply meant is few read is_accepted script replied =
    answer-task words bytes command tasks.Schedule reply meant is refl few
    (record {
      outcome = Ok code;
      read = (read, first_fault-accepted code is_accepted);
      answered = record { reading = reading; read = script; answered = replied };
    })

pub IsAnswer-edited : (words : List (List ℕ)) (bytes : List ℕ) (command : Command) (code : Code)
    (reading : Result (List (ℕ × EditLine)) ScriptStop) (reply : Reply) → IsCommand words command → command.task ≡ tasks.Edit
    → length bytes ≤ INPUT_BYTES → IsCodeRead (code_part bytes) (Ok code) → IsTrue (accepted code)
    → IsEdit (part_behind bytes) reading → IsEditedReply code reading reply → IsAnswer words bytes reply
IsAnswer-edited words bytes command code reading reply meant is few read is_accepted script replied =
    answer-task words bytes command tasks.Edit reply meant is refl few
    (record {
      outcome = Ok code;
      read = (read, first_fault-accepted code is_accepted);
      answered = record { reading = reading; read = script; answered = replied };
    })

-- too many generators

-- the reply that tells their number
abbrev many_reply : Code → Reply
many_reply code = too_many_generators (generator_count code)

homology_reply-many : (field : ℕ) (code : Code) → GENERATORS < generator_count code → many_reply code ≡ homology_reply field code
homology_reply-many field code many =
    sym (cond-true (nat_lt GENERATORS (generator_count code)) (many_reply code) (reply_of Done (homology_text field code))
    (lt-ltb GENERATORS (generator_count code) many))

schedule_reply-many : (field : ℕ) (code : Code) (script : List (ℕ × ScheduleLine)) → GENERATORS < generator_count code
    → many_reply code ≡ schedule_reply field code script
schedule_reply-many field code script many =
    sym (cond-true (nat_lt GENERATORS (generator_count code)) (many_reply code) (reply_of Done (schedule_text field code script))
    (lt-ltb GENERATORS (generator_count code) many))

pub IsAnswer-many : (words : List (List ℕ)) (bytes : List ℕ) (command : Command) (code : Code) → IsCommand words command
    → command.task ≡ tasks.Homology → length bytes ≤ INPUT_BYTES → IsCodeRead bytes (Ok code) → IsTrue (accepted code)
    → GENERATORS < generator_count code → IsAnswer words bytes (too_many_generators (generator_count code))
IsAnswer-many words bytes command code meant is few read is_accepted many =
    answer-task words bytes command tasks.Homology (many_reply code) meant is refl few
    (record {
      outcome = Ok code;
      read = (read, first_fault-accepted code is_accepted);
      answered = homology_reply-many command.field code many;
    })

pub IsAnswer-many_certified : (words : List (List ℕ)) (bytes : List ℕ) (command : Command) (code : Code) → IsCommand words command
    → command.task ≡ tasks.Certify → length bytes ≤ INPUT_BYTES → IsCodeRead bytes (Ok code) → IsTrue (accepted code)
    → GENERATORS < generator_count code → IsAnswer words bytes (too_many_generators (generator_count code))
IsAnswer-many_certified words bytes command code meant is few read is_accepted many =
    answer-task words bytes command tasks.Certify (many_reply code) meant is refl few
    (record { outcome = Ok code; read = (read, first_fault-accepted code is_accepted); answered = inl (many, refl) })

pub IsAnswer-many_marked : (words : List (List ℕ)) (bytes : List ℕ) (command : Command) (mark : ℕ) (code : Code) → IsCommand words command
    → command.task ≡ tasks.Reduced → command.mark ≡ Some mark → length bytes ≤ INPUT_BYTES → IsCodeRead bytes (Ok code)
    → IsTrue (accepted code) → is_mark code mark ≡ true → GENERATORS < generator_count code
    → IsAnswer words bytes (too_many_generators (generator_count code))
IsAnswer-many_marked words bytes command mark code meant is given few read is_accepted marked many =
    answer-order words bytes command (orders.Code (Reduced command.field mark)) (many_reply code) meant
    (order-reduced command mark is given) refl few
    (record {
      outcome = Ok code;
      read = (read, first_fault-accepted code is_accepted);
      answered = reduced_reply-large command.field mark code marked (lt-ltb GENERATORS (generator_count code) many);
    })

pub IsAnswer-many_scheduled : (words : List (List ℕ)) (bytes : List ℕ) (command : Command) (code : Code) (script : List (ℕ × ScheduleLine))
    → IsCommand words command → command.task ≡ tasks.Schedule → length bytes ≤ INPUT_BYTES → IsCodeRead (code_part bytes) (Ok code)
    → IsTrue (accepted code) → IsSchedule (part_behind bytes) (Ok script) → GENERATORS < generator_count code
    → IsAnswer words bytes (too_many_generators (generator_count code))
IsAnswer-many_scheduled words bytes command code script meant is few read is_accepted is_script many =
    IsAnswer-scheduled words bytes command code (Ok script) (many_reply code) meant is few read is_accepted is_script
    (schedule_reply-many command.field code script many)

-- logs

-- what a log comes to is told
pub IsAnswer-verdict : (words : List (List ℕ)) (bytes : List ℕ) (command : Command) (verdict : Result Table LogStop) (reply : Reply)
    → IsCommand words command → command.task ≡ tasks.Verify → length bytes ≤ LOG_BYTES → IsVerdict bytes verdict
    → IsVerdictReply verdict reply → IsAnswer words bytes reply
IsAnswer-verdict words bytes command verdict reply meant is few reached told =
    answer-task words bytes command tasks.Verify reply meant is refl few
    (record { verdict = verdict; reached = reached; answered = told })
