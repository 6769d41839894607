-- A code and the text of a second one have one reply.
use Rattle.std.proofs.Common.{◌≡◌, ℕ, List, IfOk, refl, sym, subst, ◌∙◌, Result, Ok, Err}
use Rattle.kh_types.specs.Code.{Code}
use Rattle.kh_runs.specs.Replies.{Reply}
use Rattle.kh_inputs.specs.Inputs.{IsDiagramRead}
use Rattle.kh_inputs.proofs.DiagramReadings.{IsDiagramRead-one, IsDiagramRead-some}
use Rattle.kh_replies.specs.Union.{union_reply}
use Rattle.kh_work.specs.Union.{IsPairReply, IsUnionReply, second_refused}

IsPairReply-some : (first : Code) (outcome : Result Code Reply) → (reply : Reply) × IsPairReply first outcome reply
IsPairReply-some first (Ok second) = (union_reply first second, refl)
IsPairReply-some first (Err refusal) = (second_refused refusal, refl)

pub IsUnionReply-some : (first : Code) (text : List ℕ) → (reply : Reply) × IsUnionReply first text reply
IsUnionReply-some first text =
    let read = IsDiagramRead-some text in
    let reply = IsPairReply-some first read.0 in
    (reply.0, record { outcome = read.0; read = read.1; answered = reply.1 })

IsPairReply-one : (first : Code) (outcome : Result Code Reply) (a b : Reply) → IsPairReply first outcome a → IsPairReply first outcome b → a ≡ b
IsPairReply-one first (Ok second) a b is_a is_b = is_a ∙ sym is_b
IsPairReply-one first (Err refusal) a b is_a is_b = is_a ∙ sym is_b

pub IsUnionReply-one : (first : Code) (text : List ℕ) (a b : Reply) → IsUnionReply first text a → IsUnionReply first text b → a ≡ b
IsUnionReply-one first text a b is_a is_b =
    let same = IsDiagramRead-one text is_a.outcome is_b.outcome is_a.read is_b.read in
    IsPairReply-one first is_b.outcome a b (subst (λ outcome. IsPairReply first outcome a) same is_a.answered) is_b.answered

-- its status is one of a reply

-- a second code that is read is answered with the first, and a refusal of it is told behind a line
pub IsUnionReply-read : {E : Type 0} (result : Result Reply E) (first : Code) (text : List ℕ) (second : Code) → IsDiagramRead text (Ok second)
    → IfOk result (λ reply. reply ≡ union_reply first second) → IfOk result (λ reply. IsUnionReply first text reply)
IsUnionReply-read (Ok reply) first text second read is = record { outcome = Ok second; read = read; answered = is }
IsUnionReply-read (Err stop) first text second read is = tt

pub IsUnionReply-refused : {E : Type 0} (result : Result Reply E) (first : Code) (text : List ℕ) (refusal : Reply)
    → IsDiagramRead text (Err refusal) → IfOk result (λ reply. reply ≡ second_refused refusal)
    → IfOk result (λ reply. IsUnionReply first text reply)
IsUnionReply-refused (Ok reply) first text refusal read is = record { outcome = Err refusal; read = read; answered = is }
IsUnionReply-refused (Err stop) first text refusal read is = tt
