-- The answers of `certify` to the codes of diagrams, and of `verify` to logs.
use Rattle.std.proofs.Common.{◌≡◌, ◌≤◌, ◌++◌, ◌∙◌, ℕ, List, length, arith, inl, inr, refl, sym, ap, subst, Result, Ok, Err, Some}
use Rattle.std.specs.Prelude.{IsTrue, codes}
use Rattle.kh_types.specs.Code.{Code}
use Rattle.kh_types.specs.Acceptance.{accepted}
use Rattle.kh_types.specs.Table.{Table, table, table_text}
use Rattle.kh_types.specs.declared.limits.TheConstants.{INPUT_BYTES}
use Rattle.cancel_log.proofs.WholeLogs.{log-verified, verdict-table}
use Rattle.circle_smoothing.specs.GeneratorCounts.{generator_count}
use Rattle.circle_smoothing.specs.declared.limits.TheConstants.{GENERATORS}
use Rattle.cancel_log.specs.Verdicts.{IsLog, IsVerdict}
use Rattle.cancel_log.specs.declared.limits.TheConstants.{LOG_BYTES}
use Rattle.cancel_log.specs.declared.stop.LogStop.{LogStop}
use Rattle.cancel_log.specs.declared.stop.LogStop.TheVariants.{Line, SizeLimit, NoMemory}
use Rattle.word_line.specs.declared.command.Task.{Task}
use Rattle.word_line.specs.declared.command.Task.TheVariants as tasks
use Rattle.word_line.specs.declared.command.Command.{Command}
use Rattle.word_line.specs.Commands.{IsCommand}
use Rattle.word_line.proofs.Readings.{IsCommand-one}
use Rattle.kh_runs.specs.declared.status.Status.TheVariants.{CodeRefused, Done, Limit}
use Rattle.kh_inputs.specs.Inputs.{IsCodeRead}
use Rattle.kh_runs.specs.Refusals.{too_many_bytes}
use Rattle.kh_runs.specs.Replies.{Reply, reply_of}
use Rattle.kh_inputs.specs.DiagramReplies.{IsDiagramReply, IsOutcomeReply}
use Rattle.kh_inputs.proofs.DiagramReadings.{IsDiagramRead-one, first_fault-accepted}
use Rattle.kh_runs.specs.LimitedReplies.{IsLimitedReply}
use Rattle.kh_work.specs.Answer.{IsAnswer, IsCodeReply, IsCommandReply, IsInputReply}
use Rattle.kh_work.specs.Orders.{order_for}
use Rattle.kh_work.specs.declared.order.CodeOrder.TheVariants.{Certify}
use Rattle.kh_work.specs.Certify.{IsCertifyReply, IsCertificate}
use Rattle.kh_work.specs.Verify.{IsVerdictReply, IsVerifyReply, verified_text}
use Rattle.kh_work.proofs.AnswerLemmas.{answer-task}

-- words that mean a command are answered by a reply of it, and by nothing else
answered-command : (words : List (List ℕ)) (bytes : List ℕ) (command : Command) (reply : Reply) → IsCommand words command
    → IsAnswer words bytes reply → IsCommandReply command bytes reply
unfolding IsAnswer
answered-command words bytes command reply meant (inl (other, is_other, replied)) =
    let same : other ≡ command = IsCommand-one words other command is_other meant in
    subst (λ (c : Command). IsCommandReply c bytes reply) same replied
answered-command words bytes command reply meant (inr none) = absurd (none.0 command meant)

-- and where they mean a command of this task, by a reply of what it orders
answered-task : (words : List (List ℕ)) (bytes : List ℕ) (command : Command) (task : Task) (reply : Reply) → IsCommand words command
    → command.task ≡ task → IsAnswer words bytes reply → IsInputReply (order_for task command) bytes reply
answered-task words bytes command task reply meant is_task answered =
    subst (λ (t : Task). IsInputReply (order_for t command) bytes reply) is_task (answered-command words bytes command reply meant answered)

-- bytes within a limit are not refused for it
within_limit : (limit : ℕ) (bytes : List ℕ) (Answers : Reply → Type 0) (reply : Reply) → length bytes ≤ limit
    → IsLimitedReply (Some limit) bytes Answers reply → Answers reply
within_limit limit bytes Answers reply few (inl many) = absurd (omega (arith, few, many.0))
within_limit limit bytes Answers reply few (inr answered) = answered.1

-- the text of the code of an accepted diagram is answered as that code is
answered-code : (Answers : Code → Reply → Type 0) (bytes : List ℕ) (code : Code) (reply : Reply) → IsCodeRead bytes (Ok code)
    → IsTrue (accepted code) → IsDiagramReply Answers bytes reply → Answers code reply
answered-code Answers bytes code reply read is_accepted is =
    let same : is.outcome ≡ Ok code = IsDiagramRead-one bytes is.outcome (Ok code) is.read (read, first_fault-accepted code is_accepted) in
    subst (λ (outcome : Result Code Reply). IsOutcomeReply Answers outcome reply) same is.answered

-- a cube with few enough generators is answered by a log
few_certified : (field : ℕ) (code : Code) (reply : Reply) → generator_count code ≤ GENERATORS → IsCertifyReply field code reply
    → IsCertificate field code reply
few_certified field code reply few (inl many) = absurd (omega (arith, few, many.0))
few_certified field code reply few (inr log) = log.1

-- each log of an accepted diagram that is short enough answers its code
pub IsAnswer-log : (words : List (List ℕ)) (bytes : List ℕ) (command : Command) (code : Code) (text : List ℕ) → IsCommand words command
    → command.task ≡ tasks.Certify → length bytes ≤ INPUT_BYTES → IsCodeRead bytes (Ok code) → IsTrue (accepted code)
    → generator_count code ≤ GENERATORS → IsLog command.field code text → length text ≤ LOG_BYTES
    → IsAnswer words bytes (reply_of Done text)
IsAnswer-log words bytes command code text meant is_certify few_bytes read is_accepted few log short =
    answer-task words bytes command tasks.Certify (reply_of Done text) meant is_certify refl few_bytes
    (record {
      outcome = Ok code;
      read = (read, first_fault-accepted code is_accepted);
      answered = inr (few, record { status = refl; log = log; few = short });
    })

-- and nothing else does
pub IsAnswer-only_logs : (words : List (List ℕ)) (bytes : List ℕ) (command : Command) (code : Code) (reply : Reply)
    → IsCommand words command → command.task ≡ tasks.Certify → length bytes ≤ INPUT_BYTES → IsCodeRead bytes (Ok code)
    → IsTrue (accepted code) → generator_count code ≤ GENERATORS → IsAnswer words bytes reply → IsCertificate command.field code reply
IsAnswer-only_logs words bytes command code reply meant is_certify few_bytes read is_accepted few answered =
    let limited = answered-task words bytes command tasks.Certify reply meant is_certify answered in
    let Certified : Code → Reply → Type 0 = IsCodeReply (Certify command.field) in
    let replied = within_limit INPUT_BYTES bytes (IsDiagramReply Certified bytes) reply few_bytes limited in
    few_certified command.field code reply few (answered-code Certified bytes code reply read is_accepted replied)

-- a log is answered by the table that it proves
pub IsAnswer-verified : (words : List (List ℕ)) (bytes : List ℕ) (command : Command) (field : ℕ) (code : Code) → IsCommand words command
    → command.task ≡ tasks.Verify → length bytes ≤ LOG_BYTES → IsLog field code bytes
    → IsAnswer words bytes (reply_of Done (codes "verified\n" ++ table_text (table field code)))
IsAnswer-verified words bytes command field code meant is_verify few log =
    answer-task words bytes command tasks.Verify (reply_of Done (verified_text (table field code))) meant is_verify refl few
    (record {
      verdict = Ok (table field code);
      reached = log-verified field code bytes log;
      answered = refl;
    })

-- a reply that is done is no refusal
refusal_is_not_done : {P : Type 0} (reply refusal : Reply) → reply ≡ refusal → refusal.status ≡ CodeRefused → reply.status ≡ Done → P
refusal_is_not_done reply refusal is refused done =
    let e : CodeRefused ≡ Done = sym refused ∙ sym (ap (λ (r : Reply). r.status) is) ∙ done in absurd (cc)

-- and no limit
limit_is_not_done : {P : Type 0} (reply refusal : Reply) → reply ≡ refusal → refusal.status ≡ Limit → reply.status ≡ Done → P
limit_is_not_done reply refusal is limited done =
    let e : Limit ≡ Done = sym limited ∙ sym (ap (λ (r : Reply). r.status) is) ∙ done in absurd (cc)

-- bytes are a log of a diagram, and a text tells the table that it proves
abbrev Proves : List ℕ → List ℕ → Type 0
Proves bytes text =
    (field : ℕ) × (code : Code) × IsLog field code bytes × (text ≡ codes "verified\n" ++ table_text (table field code))

-- what a log comes to is told as done where it proves a table
done_verdict : (bytes : List ℕ) (verdict : Result Table LogStop) (reply : Reply) → IsVerdict bytes verdict → IsVerdictReply verdict reply
    → reply.status ≡ Done → Proves bytes reply.text
done_verdict bytes (Ok homology) reply reached told done =
    let proved = verdict-table bytes homology reached in
    (proved.0, proved.1, proved.2, ap (λ (r : Reply). r.text) told ∙ ap verified_text proved.3)
done_verdict bytes (Err (Line line cause)) reply reached told done = refusal_is_not_done reply _ told refl done
done_verdict bytes (Err (SizeLimit generators)) reply reached told done = limit_is_not_done reply _ told refl done
done_verdict bytes (Err NoMemory) reply reached told done = absurd told

-- and so is what is within the limit on bytes
done_within : (bytes : List ℕ) (reply : Reply) → IsLimitedReply (Some LOG_BYTES) bytes (IsVerifyReply bytes) reply → reply.status ≡ Done
    → Proves bytes reply.text
done_within bytes reply (inl many) done = limit_is_not_done reply (too_many_bytes LOG_BYTES) many.1 refl done
done_within bytes reply (inr few) done = done_verdict bytes few.1.verdict reply few.1.reached few.1.answered done

-- bytes that are answered as done are a log, and the reply tells the table that it proves
pub IsAnswer-only_verified : (words : List (List ℕ)) (bytes : List ℕ) (command : Command) (reply : Reply) → IsCommand words command
    → command.task ≡ tasks.Verify → IsAnswer words bytes reply → reply.status ≡ Done
    → (field : ℕ) × (code : Code) × IsLog field code bytes × (reply.text ≡ codes "verified\n" ++ table_text (table field code))
IsAnswer-only_verified words bytes command reply meant is_verify answered done =
    done_within bytes reply (answered-task words bytes command tasks.Verify reply meant is_verify answered) done

-- what `certify` answers is such a log
pub IsAnswer-certified : (words other : List (List ℕ)) (bytes : List ℕ) (command verifier : Command) (code : Code) (reply : Reply)
    → IsCommand words command → command.task ≡ tasks.Certify → length bytes ≤ INPUT_BYTES → IsCodeRead bytes (Ok code)
    → IsTrue (accepted code) → generator_count code ≤ GENERATORS → IsAnswer words bytes reply → IsCommand other verifier
    → verifier.task ≡ tasks.Verify
    → IsAnswer other reply.text (reply_of Done (codes "verified\n" ++ table_text (table command.field code)))
IsAnswer-certified words other bytes command verifier code reply meant is_certify few_bytes read is_accepted few answered is_meant is_verify =
    let made = IsAnswer-only_logs words bytes command code reply meant is_certify few_bytes read is_accepted few answered in
    IsAnswer-verified other reply.text verifier command.field code is_meant is_verify made.few made.log
