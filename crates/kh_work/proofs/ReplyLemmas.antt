-- From what a text was read as to the reply of a command, step by step.
use Rattle.std.proofs.Common.{◌≡◌, ◌≤◌, ◌<◌, ◌++◌, ℕ, Bool, true, false, cond, nat_lt, List, length, IfOk, arith, inr, refl, ap, ap₂, sym, subst, ◌∙◌, Result, Ok, Err, None, Some}
use Rattle.std.specs.Prelude.{Option}
use Rattle.std.proofs.lemmas.Bool.{lt-ltb, le-ltb}
use Rattle.kh_types.specs.Code.{Code}
use Rattle.kh_types.specs.Table.{Table, table}
use Rattle.homology_tables.specs.Tables.{total_of}
use Rattle.kh_runs.specs.Homology.{jones_line}
use Rattle.undo_stack.specs.declared.schedule.ScheduleLine.{ScheduleLine}
use Rattle.undo_stack.specs.EditRuns.{edited}
use Rattle.undo_stack.specs.Histories.{opening_history}
use Rattle.undo_stack.specs.declared.edit_line.EditLine.{EditLine}
use Rattle.undo_stack.specs.declared.edit_run.EditFault.{EditFault}
use Rattle.undo_stack.specs.declared.stop.ScriptStop.{ScriptStop}
use Rattle.undo_stack.specs.declared.stop.ScriptStop.TheVariants as stops
use Rattle.circle_smoothing.specs.GeneratorCounts.{generator_count}
use Rattle.circle_smoothing.specs.declared.limits.TheConstants.{GENERATORS}
use Rattle.kh_runs.specs.declared.status.Status.TheVariants.{Done}
use Rattle.kh_runs.specs.Statuses.{IsReplyStatus}
use Rattle.braid_maker.specs.Closures.{code_of_number}
use Rattle.braid_maker.specs.declared.limits.TheConstants.{NUMBERS}
use Rattle.kh_work.specs.ByteLimits.{byte_limit}
use Rattle.kh_runs.specs.Replies.{Reply, reply_of}
use Rattle.kh_replies.specs.Limits.{too_large_number, too_many_generators}
use Rattle.kh_inputs.specs.Inputs.{IsDiagramRead}
use Rattle.kh_inputs.specs.DiagramReplies.{IsDiagramReply}
use Rattle.kh_inputs.proofs.ReplyStatuses.{diagram_reply-status}
use Rattle.kh_runs.proofs.StatusLemmas.{status-of}
use Rattle.kh_work.specs.Schedule.{IsScriptReply, schedule_reply, schedule_text}
use Rattle.kh_work.specs.Edit.{IsEditedReply, edit_reply, edit_status, edits_in}
use Rattle.kh_work.specs.Bench.{bench_counts, bench_lines, bench_reply, bench_text}
use Rattle.kh_work.specs.declared.order.Order.{Order}
use Rattle.kh_work.specs.declared.order.ScriptOrder.{ScriptOrder}
use Rattle.kh_work.specs.declared.order.ScriptOrder.TheVariants.{Edit, Schedule}
use Rattle.kh_runs.specs.LimitedReplies.{IsLimitedReply}
use Rattle.kh_work.specs.Answer.{IsInputReply, IsOrderReply, IsScriptedReply}

-- a diagram that is read is answered, and a refusal is its own answer
pub IsDiagramReply-read : {E : Type 0} (result : Result Reply E) (Answers : Code → Reply → Type 0) (text : List ℕ) (code : Code)
    → IsDiagramRead text (Ok code) → IfOk result (Answers code) → IfOk result (IsDiagramReply Answers text)
IsDiagramReply-read (Ok reply) Answers text code read replied = record { outcome = Ok code; read = read; answered = replied }
IsDiagramReply-read (Err stop) Answers text code read replied = tt

pub IsDiagramReply-refused : (Answers : Code → Reply → Type 0) (text : List ℕ) (reply : Reply) → IsDiagramRead text (Err reply)
    → IsDiagramReply Answers text reply
IsDiagramReply-refused Answers text reply read = record { outcome = Err reply; read = read; answered = refl }

-- bytes within the limit are answered
pub IsInputReply-few : (order : Order) (bytes : List ℕ) (reply : Reply) (limit : ℕ) → byte_limit order ≡ Some limit
    → length bytes ≤ limit → IsOrderReply order bytes reply → IsInputReply order bytes reply
IsInputReply-few order bytes reply limit reads few replied =
    subst (λ (most : Option ℕ). IsLimitedReply most bytes (IsOrderReply order bytes) reply) (sym reads) (inr (few, replied))

-- statuses

pub cond-true : (test : Bool) (this other : Reply) → test ≡ true → cond test this other ≡ this
cond-true true this other is = refl
cond-true false this other is = let e : false ≡ true = is in absurd (cc)

pub cond-false : (test : Bool) (this other : Reply) → test ≡ false → cond test this other ≡ other
cond-false true this other is = let e : true ≡ false = is in absurd (cc)
cond-false false this other is = refl

-- the diagram of a number is the one that is answered, and it has few enough generators
pub bench_reply-diagram : (field number : ℕ) (code diagram : Code) → number < NUMBERS → code ≡ diagram → diagram ≡ code_of_number number
    → reply_of Done (bench_text field number code) ≡ bench_reply field number
bench_reply-diagram field number code diagram small same is =
    ap (λ (c : Code). reply_of Done (bench_text field number c)) (same ∙ is)
    ∙ sym (cond-true (nat_lt number NUMBERS) (reply_of Done (bench_text field number (code_of_number number))) (too_large_number number)
    (lt-ltb number NUMBERS small))

-- a number that is none of a diagram is answered by the line of the limit
pub bench_reply-over : (field number told : ℕ) → (number < NUMBERS → ⊥) → told ≡ number → too_large_number told ≡ bench_reply field number
bench_reply-over field number told over same =
    ap too_large_number same
    ∙ sym (cond-false (nat_lt number NUMBERS) (reply_of Done (bench_text field number (code_of_number number))) (too_large_number number)
    (le-ltb number NUMBERS (omega (arith, over))))

pub generators_of_diagram : (number : ℕ) (code diagram : Code) → code ≡ diagram → diagram ≡ code_of_number number
    → ((n : ℕ) → generator_count (code_of_number n) ≤ GENERATORS) → generator_count code ≤ GENERATORS
generators_of_diagram number code diagram same is few =
    subst (λ (c : Code). generator_count c ≤ GENERATORS) (sym (same ∙ is)) (few number)

-- the reply with the table that was made
pub bench_reply-made : (reply : Reply) (field number : ℕ) (code counted : Code) (made : Table) → counted ≡ code → made ≡ table field code
    → reply ≡ reply_of Done (bench_lines (bench_counts number counted (total_of made)) ++ jones_line counted)
    → reply ≡ reply_of Done (bench_text field number code)
unfolding bench_text
bench_reply-made reply field number code counted made is_counted is_made is =
    is ∙ ap₂ (λ (c : Code) (t : Table). reply_of Done (bench_lines (bench_counts number c (total_of t)) ++ jones_line c)) is_counted is_made

schedule-status : (field : ℕ) (code : Code) (script : List (ℕ × ScheduleLine)) → IsReplyStatus (schedule_reply field code script).status
schedule-status field code script = go (nat_lt GENERATORS (generator_count code))
  where
    go : (many : Bool) → IsReplyStatus (cond many (too_many_generators (generator_count code)) (reply_of Done (schedule_text field code script))).status
    go true = tt
    go false = tt

script-status : (field : ℕ) (code : Code) (reading : Result (List (ℕ × ScheduleLine)) ScriptStop) (reply : Reply)
    → IsScriptReply field code reading reply → IsReplyStatus reply.status
script-status field code (Ok script) reply is = status-of reply _ is (schedule-status field code script)
script-status field code (Err (stops.LineLimit count)) reply is = status-of reply _ is tt
script-status field code (Err (stops.Line line)) reply is = status-of reply _ is tt
script-status field code (Err stops.NoMemory) reply is = absurd is

edit-status : (code : Code) (script : List (ℕ × EditLine)) → IsReplyStatus (edit_reply code script).status
unfolding edit_reply
edit-status code script = go (edited (edits_in script) (opening_history code)).fault
  where
    go : (fault : Option EditFault) → IsReplyStatus (edit_status fault)
    go None = tt
    go (Some fault) = tt

edited-status : (code : Code) (reading : Result (List (ℕ × EditLine)) ScriptStop) (reply : Reply) → IsEditedReply code reading reply
    → IsReplyStatus reply.status
edited-status code (Ok script) reply is = status-of reply _ is (edit-status code script)
edited-status code (Err (stops.LineLimit count)) reply is = status-of reply _ is tt
edited-status code (Err (stops.Line line)) reply is = status-of reply _ is tt
edited-status code (Err stops.NoMemory) reply is = absurd is

scripted_reply-status : (order : ScriptOrder) (script : List ℕ) (code : Code) (reply : Reply) → IsScriptedReply order script code reply
    → IsReplyStatus reply.status
scripted_reply-status Edit script code reply is = edited-status code is.reading reply is.answered
scripted_reply-status (Schedule field) script code reply is = script-status field code is.reading reply is.answered

-- what answers a code and a script has a status of a reply
pub scripted-status : {E : Type 0} (result : Result Reply E) (order : ScriptOrder) (text script : List ℕ)
    → IfOk result (IsDiagramReply (IsScriptedReply order script) text) → IfOk result (λ reply. IsReplyStatus reply.status)
scripted-status (Ok reply) order text script is =
    diagram_reply-status (IsScriptedReply order script) (scripted_reply-status order script) text reply is
scripted-status (Err stop) order text script is = tt
