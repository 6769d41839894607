-- There is an answer to all words and all bytes, and one alone, but where the words mean `certify` and it is done. It is shown
-- from the inside out: what a script was read as has one reply; each order has a reply to each input, and one alone, but for a
-- log that is done; so has a command, whether the bytes are within its limit or beyond it; and so have words, which mean one
-- command or none. Hence two answers are equal where the words do not mean `certify`, or where one of them is not done; and two
-- answers always have one status.
use Rattle.std.proofs.Common.{◌≡◌, ◌≢◌, ℕ, ◌<◌, ◌≤◌, ◌⊎◌, inl, inr, List, length, Bool, true, false, nat_lt, refl, sym, ap, subst, ◌∙◌, Result, Ok, Err, None, Some, arith}
use Rattle.std.specs.Prelude.{Option}
use Rattle.std.proofs.lemmas.Grind.{common_steps}
use Rattle.kh_types.specs.Code.{Code}
use Rattle.undo_stack.specs.declared.schedule.ScheduleLine.{ScheduleLine}
use Rattle.undo_stack.specs.declared.stop.ScriptStop.{ScriptStop}
use Rattle.undo_stack.specs.declared.stop.ScriptStop.TheVariants as stops
use Rattle.undo_stack.specs.Schedule.{IsSchedule}
use Rattle.undo_stack.specs.declared.limits.TheConstants.{SCRIPT_LINES}
use Rattle.undo_stack.specs.ScheduleSteps.{schedule_of}
use Rattle.undo_stack.proofs.ScheduleReadings.{IsSchedule-one, IsSchedule-schedule_of}
use Rattle.kh_work.proofs.EditLemmas.{IsEditReply-one, IsEditReply-some}
use Rattle.word_line.specs.declared.command.Task.{Task}
use Rattle.word_line.specs.declared.command.Task.TheVariants as tasks
use Rattle.word_line.specs.declared.command.Command.{Command}
use Rattle.word_line.specs.Commands.{IsCommand, IsUsage}
use Rattle.word_line.specs.Values.{IsFieldSize}
use Rattle.word_line.proofs.Readings.{IsCommand-decided, IsCommand-one, IsCommand-sizes}
use Rattle.kh_work.specs.ByteLimits.{byte_limit}
use Rattle.kh_work.proofs.VerifyLemmas.{IsVerifyReply-one, IsVerifyReply-some}
use Rattle.kh_runs.specs.Replies.{Reply}
use Rattle.kh_runs.specs.declared.status.Status.{Status}
use Rattle.kh_runs.specs.declared.status.Status.TheVariants as statuses
use Rattle.kh_runs.specs.declared.status.Status.TheVariants.{Done}
use Rattle.kh_runs.specs.Refusals.{usage, too_many_bytes, too_many_lines, refused_line}
use Rattle.kh_inputs.specs.Parts.{code_part, part_behind}
use Rattle.kh_inputs.proofs.DiagramReadings.{IsDiagramReply-some, IsDiagramReply-one}
use Rattle.kh_work.proofs.UnionReadings.{IsUnionReply-one, IsUnionReply-some}
use Rattle.kh_work.specs.Schedule.{schedule_reply, IsScriptReply, IsScheduleReply}
use Rattle.kh_work.specs.Bench.{bench_reply}
use Rattle.kh_work.proofs.CertifyReplies.{IsCertified-one, IsCertified-some}
use Rattle.kh_work.specs.Union.{IsUnionReply}
use Rattle.kh_work.specs.declared.order.Order.{Order}
use Rattle.kh_work.specs.declared.order.Order.TheVariants as orders
use Rattle.kh_work.specs.declared.order.CodeOrder.TheVariants.{Certify}
use Rattle.kh_work.specs.declared.order.ScriptOrder.TheVariants.{Edit, Schedule}
use Rattle.kh_work.specs.Orders.{order_for, order_of}
use Rattle.kh_runs.specs.LimitedReplies.{IsLimitedReply}
use Rattle.kh_runs.proofs.LimitedAnswers.{IsLimitedReply-one, IsLimitedReply-some}
use Rattle.kh_work.specs.Answer.{HaveOneReply, IsAnswer, IsCodeReply, IsCommandReply, IsOrderReply, IsScriptedReply}

-- what a script was read as is answered once
IsScriptReply-some : (field : ℕ) (code : Code) (text : List ℕ) (reading : Result (List (ℕ × ScheduleLine)) ScriptStop)
    → IsSchedule text reading → (reply : Reply) × IsScriptReply field code reading reply
IsScriptReply-some field code text (Ok script) read = (schedule_reply field code script, refl)
IsScriptReply-some field code text (Err (stops.LineLimit count)) read = (too_many_lines count SCRIPT_LINES, refl)
IsScriptReply-some field code text (Err (stops.Line line)) read = (refused_line line, refl)
IsScriptReply-some field code text (Err stops.NoMemory) read = absurd read

IsScriptReply-one : (field : ℕ) (code : Code) (reading : Result (List (ℕ × ScheduleLine)) ScriptStop) (a b : Reply)
    → IsScriptReply field code reading a → IsScriptReply field code reading b → a ≡ b
IsScriptReply-one field code (Ok script) a b is_a is_b = is_a ∙ sym is_b
IsScriptReply-one field code (Err (stops.LineLimit count)) a b is_a is_b = is_a ∙ sym is_b
IsScriptReply-one field code (Err (stops.Line line)) a b is_a is_b = is_a ∙ sym is_b
IsScriptReply-one field code (Err stops.NoMemory) a b is_a is_b = absurd is_a

IsScheduleReply-some : (field : ℕ) (code : Code) (text : List ℕ) → (reply : Reply) × IsScheduleReply field code text reply
IsScheduleReply-some field code text =
    let read = IsSchedule-schedule_of text in
    let reply = IsScriptReply-some field code text (schedule_of text) read in
    (reply.0, record { reading = schedule_of text; read = read; answered = reply.1 })

IsScheduleReply-one : (field : ℕ) (code : Code) (text : List ℕ) (a b : Reply) → IsScheduleReply field code text a
    → IsScheduleReply field code text b → a ≡ b
IsScheduleReply-one field code text a b is_a is_b =
    let same : is_a.reading ≡ is_b.reading = IsSchedule-one text is_a.reading is_b.reading is_a.read is_b.read in
    IsScriptReply-one field code is_b.reading a b (subst (λ reading. IsScriptReply field code reading a) same is_a.answered) is_b.answered

-- each order answers each input once, but for a log that is done

-- the field of a log is one of the fields
abbrev IsSized : Order → Type 0
IsSized (orders.Code (Certify field)) = IsFieldSize field
IsSized _ = Unit {0}

-- an order has one reply, or this reply of it is not done
abbrev IsFixed : Order → Reply → Type 0
IsFixed (orders.Code (Certify field)) reply = reply.status ≢ Done
IsFixed _ reply = Unit {0}

sized-order : (task : Task) (command : Command) → IsFieldSize command.field → IsSized (order_for task command)
sized-order tasks.Certify command sized = sized
sized-order _ command sized = tt

fixed-order : (task : Task) (command : Command) (reply : Reply) → (task ≢ tasks.Certify) ⊎ (reply.status ≢ Done)
    → IsFixed (order_for task command) reply
fixed-order tasks.Certify command reply (inl other) = absurd (other refl)
fixed-order tasks.Certify command reply (inr undone) = undone
fixed-order _ command reply either = tt

IsOrderReply-some : (order : Order) (bytes : List ℕ) → IsSized order → (reply : Reply) × IsOrderReply order bytes reply
IsOrderReply-some (orders.Code (Certify field)) bytes sized = IsCertified-some field bytes sized
IsOrderReply-some (orders.Code order) bytes sized = IsDiagramReply-some (IsCodeReply order) (λ code. (_, refl)) bytes
IsOrderReply-some (orders.Script Edit) bytes sized =
    IsDiagramReply-some (IsScriptedReply Edit (part_behind bytes)) (λ code. IsEditReply-some code (part_behind bytes)) (code_part bytes)
IsOrderReply-some (orders.Script (Schedule field)) bytes sized =
    IsDiagramReply-some (IsScriptedReply (Schedule field) (part_behind bytes)) (λ code. IsScheduleReply-some field code (part_behind bytes))
    (code_part bytes)
IsOrderReply-some orders.Pair bytes sized =
    IsDiagramReply-some (λ code. IsUnionReply code (part_behind bytes)) (λ code. IsUnionReply-some code (part_behind bytes)) (code_part bytes)
IsOrderReply-some orders.Log bytes sized = IsVerifyReply-some bytes
IsOrderReply-some (orders.Bench field workers number) bytes sized = (bench_reply field number, refl)

IsOrderReply-one : (order : Order) (bytes : List ℕ) (a b : Reply) → IsFixed order a → IsOrderReply order bytes a
    → IsOrderReply order bytes b → a ≡ b
IsOrderReply-one (orders.Code (Certify field)) bytes a b undone = IsCertified-one field bytes a b undone
IsOrderReply-one (orders.Code order) bytes a b fixed =
    IsDiagramReply-one (IsCodeReply order) (λ code x y is_x is_y. is_x ∙ sym is_y) bytes a b
IsOrderReply-one (orders.Script Edit) bytes a b fixed =
    IsDiagramReply-one (IsScriptedReply Edit (part_behind bytes)) (λ code. IsEditReply-one code (part_behind bytes)) (code_part bytes) a b
IsOrderReply-one (orders.Script (Schedule field)) bytes a b fixed =
    IsDiagramReply-one (IsScriptedReply (Schedule field) (part_behind bytes)) (λ code. IsScheduleReply-one field code (part_behind bytes))
    (code_part bytes) a b
IsOrderReply-one orders.Pair bytes a b fixed =
    IsDiagramReply-one (λ code. IsUnionReply code (part_behind bytes)) (λ code. IsUnionReply-one code (part_behind bytes)) (code_part bytes) a b
IsOrderReply-one orders.Log bytes a b fixed = IsVerifyReply-one bytes a b
IsOrderReply-one (orders.Bench field workers number) bytes a b fixed = λ is_a is_b. is_a ∙ sym is_b

-- commands

IsCommandReply-some : (command : Command) (bytes : List ℕ) → IsFieldSize command.field → (reply : Reply) × IsCommandReply command bytes reply
IsCommandReply-some command bytes sized =
    IsLimitedReply-some (byte_limit (order_of command)) bytes (IsOrderReply (order_of command) bytes)
    (IsOrderReply-some (order_of command) bytes (sized-order command.task command sized))

IsCommandReply-one : (command : Command) (bytes : List ℕ) (a b : Reply) → (command.task ≢ tasks.Certify) ⊎ (a.status ≢ Done)
    → IsCommandReply command bytes a → IsCommandReply command bytes b → a ≡ b
IsCommandReply-one command bytes a b either =
    IsLimitedReply-one (byte_limit (order_of command)) bytes (IsOrderReply (order_of command) bytes) a b
    (IsOrderReply-one (order_of command) bytes a b (fixed-order command.task command a either))

-- words

pub IsAnswer-some : (words : List (List ℕ)) (bytes : List ℕ) → (reply : Reply) × IsAnswer words bytes reply
unfolding IsAnswer
IsAnswer-some words bytes = answered (IsCommand-decided words)
  where
    answered : ((command : Command) × IsCommand words command) ⊎ IsUsage words → (reply : Reply) × IsAnswer words bytes reply
    answered (inl (command, is)) =
        let reply = IsCommandReply-some command bytes (IsCommand-sizes words command is).0 in
        (reply.0, inl (command, is, reply.1))
    answered (inr none) = (usage, inr (none, refl))

-- an answer is one, where that of each command that the words mean is
IsAnswer-fixed : (words : List (List ℕ)) (bytes : List ℕ) (a b : Reply)
    → ((command : Command) → IsCommand words command → (command.task ≢ tasks.Certify) ⊎ (a.status ≢ Done)) → IsAnswer words bytes a → IsAnswer words bytes b → a ≡ b
unfolding IsAnswer
IsAnswer-fixed words bytes a b fixed (inl (x, is_x, is_a)) (inl (y, is_y, is_b)) =
    let same : x ≡ y = IsCommand-one words x y is_x is_y in
    IsCommandReply-one y bytes a b (fixed y is_y) (subst (λ (command : Command). IsCommandReply command bytes a) same is_a) is_b
IsAnswer-fixed words bytes a b fixed (inl (x, is_x, is_a)) (inr is_b) = absurd (is_b.0 x is_x)
IsAnswer-fixed words bytes a b fixed (inr is_a) (inl (y, is_y, is_b)) = absurd (is_a.0 y is_y)
IsAnswer-fixed words bytes a b fixed (inr is_a) (inr is_b) = is_a.1 ∙ sym is_b.1

-- words that do not mean `certify` have one answer
pub IsAnswer-one : (words : List (List ℕ)) (bytes : List ℕ) (a b : Reply) → HaveOneReply words → IsAnswer words bytes a
    → IsAnswer words bytes b → a ≡ b
IsAnswer-one words bytes a b one = IsAnswer-fixed words bytes a b (λ command is. inl (one command is))

-- all words have one answer, where it is not done
pub IsAnswer-undone : (words : List (List ℕ)) (bytes : List ℕ) (a b : Reply) → a.status ≢ Done → IsAnswer words bytes a
    → IsAnswer words bytes b → a ≡ b
IsAnswer-undone words bytes a b undone = IsAnswer-fixed words bytes a b (λ command is. inr undone)

-- a status is that of what is done, or another
done_or : (status : Status) → (status ≡ Done) ⊎ (status ≢ Done)
done_or statuses.Done = inl refl
done_or statuses.CodeRefused = inr (λ same. cc)
done_or statuses.Usage = inr (λ same. cc)
done_or statuses.ReadFault = inr (λ same. cc)
done_or statuses.WriteFault = inr (λ same. cc)
done_or statuses.NoMemory = inr (λ same. cc)
done_or statuses.Limit = inr (λ same. cc)
done_or statuses.MoveRefused = inr (λ same. cc)

-- and so all answers have one status
pub IsAnswer-status : (words : List (List ℕ)) (bytes : List ℕ) (a b : Reply) → IsAnswer words bytes a → IsAnswer words bytes b
    → a.status ≡ b.status
IsAnswer-status words bytes a b is_a is_b = go (done_or a.status) (done_or b.status)
  where
    status : Reply → Status
    status reply = reply.status

    go : (a.status ≡ Done) ⊎ (a.status ≢ Done) → (b.status ≡ Done) ⊎ (b.status ≢ Done) → a.status ≡ b.status
    go (inl done) (inl also) = done ∙ sym also
    go (inl done) (inr undone) = ap status (sym (IsAnswer-undone words bytes b a undone is_b is_a))
    go (inr undone) other = ap status (IsAnswer-undone words bytes a b undone is_a is_b)

-- words that mean a command of another task than `certify` have one
pub HaveOneReply-task : (words : List (List ℕ)) (command : Command) (task : Task) → IsCommand words command → command.task ≡ task
    → task ≢ tasks.Certify → HaveOneReply words
HaveOneReply-task words command task meant is_task differs other is_other is_certify =
    let same : command ≡ other = IsCommand-one words command other meant is_other in
    differs (sym is_task ∙ ap (λ (c : Command). c.task) same ∙ is_certify)
