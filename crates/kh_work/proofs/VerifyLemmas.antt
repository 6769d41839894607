-- What answers the text of a log, and what is said of logs that are written.
use Rattle.std.proofs.Common.{◌≡◌, ◌≢◌, inl, inr, ℕ, List, IfOk, refl, sym, subst, ◌∙◌, Result, Ok, Err}
use Rattle.kh_types.specs.Table.{Table}
use Rattle.kh_lex.specs.Lines.{lines_of}
use Rattle.cancel_log.specs.Verdicts.{IsVerdict, IsVerdictOn}
use Rattle.cancel_log.specs.declared.stop.LogStop.{LogStop}
use Rattle.cancel_log.specs.declared.stop.LogStop.TheVariants.{Line, SizeLimit, NoMemory}
use Rattle.cancel_log.proofs.WholeLogs.{verdict-lines}
use Rattle.cancel_log.proofs.OneVerdict.{IsVerdict-one, IsVerdict-some}
use Rattle.kh_runs.specs.Replies.{Reply, reply_of}
use Rattle.kh_runs.specs.Refusals.{refused_log_line}
use Rattle.kh_replies.specs.Limits.{too_many_generators}
use Rattle.kh_runs.specs.declared.status.Status.TheVariants.{Done}
use Rattle.kh_work.specs.Verify.{IsVerdictReply, IsVerifyReply, cause_word, verified_text}

-- what a log comes to is answered once
IsVerdictReply-some : (text : List ℕ) (verdict : Result Table LogStop) → IsVerdict text verdict → (reply : Reply) × IsVerdictReply verdict reply
IsVerdictReply-some text (Ok homology) reached = (reply_of Done (verified_text homology), refl)
IsVerdictReply-some text (Err (Line line cause)) reached = (refused_log_line line (cause_word cause), refl)
IsVerdictReply-some text (Err (SizeLimit generators)) reached = (too_many_generators generators, refl)
IsVerdictReply-some text (Err NoMemory) reached = go (verdict-lines text (Err NoMemory) reached)
  where
    go : {P : Type 0} → IsVerdictOn (lines_of text) (Err NoMemory) → P
    go (inl start) = absurd start
    go (inr on) = absurd on.behind

IsVerdictReply-one : (verdict : Result Table LogStop) (a b : Reply) → IsVerdictReply verdict a → IsVerdictReply verdict b → a ≡ b
IsVerdictReply-one (Ok homology) a b is_a is_b = is_a ∙ sym is_b
IsVerdictReply-one (Err (Line line cause)) a b is_a is_b = is_a ∙ sym is_b
IsVerdictReply-one (Err (SizeLimit generators)) a b is_a is_b = is_a ∙ sym is_b
IsVerdictReply-one (Err NoMemory) a b is_a is_b = absurd is_a

pub IsVerifyReply-some : (text : List ℕ) → (reply : Reply) × IsVerifyReply text reply
IsVerifyReply-some text =
    let verdict = IsVerdict-some text in
    let reply = IsVerdictReply-some text verdict.0 verdict.1 in
    (reply.0, record { verdict = verdict.0; reached = verdict.1; answered = reply.1 })

pub IsVerifyReply-one : (text : List ℕ) (a b : Reply) → IsVerifyReply text a → IsVerifyReply text b → a ≡ b
IsVerifyReply-one text a b is_a is_b =
    let same : is_a.verdict ≡ is_b.verdict = IsVerdict-one text is_a.verdict is_b.verdict is_a.reached is_b.reached in
    IsVerdictReply-one is_b.verdict a b (subst (λ (v : Result Table LogStop). IsVerdictReply v a) same is_a.answered) is_b.answered

-- what a log comes to, once a table is proved, is a reply
pub told-table : {E : Type 0} (result : Result Reply E) (text : List ℕ) (homology : Table)
    → (Ok homology ≢ Err NoMemory → IsVerdict text (Ok homology))
    → IfOk result (λ reply. reply ≡ reply_of Done (verified_text homology)) → IfOk result (IsVerifyReply text)
told-table (Ok reply) text homology reached told =
    record { verdict = Ok homology; reached = reached (λ same. cc); answered = told }
told-table (Err stop) text homology reached told = tt
