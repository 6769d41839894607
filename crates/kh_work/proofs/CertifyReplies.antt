-- The replies of `certify` to texts: there is one to each, and one alone where it is not done.
use Rattle.std.proofs.Common.{◌≡◌, ◌≢◌, ◌∙◌, ℕ, inl, inr, List, Bool, true, false, nat_lt, IsTrue, refl, sym, ap, subst, Result, Ok, Err, None, arith}
use Rattle.std.specs.Prelude.{is_none}
use Rattle.std.proofs.lemmas.Bool.{ltb-false, ltb-true}
use Rattle.kh_types.specs.Acceptance.{accepted, first_fault}
use Rattle.kh_types.specs.Code.{Code}
use Rattle.circle_smoothing.specs.GeneratorCounts.{generator_count}
use Rattle.circle_smoothing.specs.declared.limits.TheConstants.{GENERATORS}
use Rattle.cancel_log.proofs.LogsExist.{log-some}
use Rattle.word_line.specs.Values.{IsFieldSize}
use Rattle.kh_inputs.specs.DiagramReplies.{IsDiagramReply, IsOutcomeReply}
use Rattle.kh_inputs.specs.Inputs.{IsDiagramRead}
use Rattle.kh_replies.specs.Limits.{too_many_generators}
use Rattle.kh_runs.specs.Replies.{Reply, reply_of}
use Rattle.kh_runs.specs.declared.status.Status.TheVariants.{Done}
use Rattle.kh_inputs.proofs.DiagramReadings.{IsDiagramRead-one, IsDiagramRead-some}
use Rattle.kh_inputs.proofs.ReadCodes.{four_slots-read}
use Rattle.kh_inputs.proofs.TextFaults.{few_crossings-read, few_loops-read}
use Rattle.kh_work.specs.Certify.{IsCertifyReply}

-- a code without a fault is accepted
pub accepted-faultless : (code : Code) → first_fault code ≡ None → IsTrue (accepted code)
unfolding accepted
accepted-faultless code none = ap is_none none

-- a diagram that is read has too many generators, or a log that is short enough
certified-by : (field : ℕ) (bytes : List ℕ) (code : Code) → IsFieldSize field → IsDiagramRead bytes (Ok code)
    → (many : Bool) → nat_lt GENERATORS (generator_count code) ≡ many → (reply : Reply) × IsCertifyReply field code reply
certified-by field bytes code sized read true is =
    (too_many_generators (generator_count code), inl (ltb-true GENERATORS (generator_count code) is, refl))
certified-by field bytes code sized read false is =
    let few = ltb-false GENERATORS (generator_count code) is in
    let log = log-some field code sized (accepted-faultless code read.1) (four_slots-read bytes code read.0)
    (few_crossings-read bytes code read.0) (few_loops-read bytes code read.0) few in
    (reply_of Done log.0, inr (few, record { status = refl; log = log.1; few = log.2 }))

-- so what a text was read as is answered
certified-some : (field : ℕ) (bytes : List ℕ) (outcome : Result Code Reply) → IsFieldSize field
    → IsDiagramRead bytes outcome → (reply : Reply) × IsDiagramReply (IsCertifyReply field) bytes reply
certified-some field bytes (Ok code) sized read =
    let reply = certified-by field bytes code sized read (nat_lt GENERATORS (generator_count code)) refl in
    (reply.0, record { outcome = Ok code; read = read; answered = reply.1 })
certified-some field bytes (Err refusal) sized read = (refusal, record { outcome = Err refusal; read = read; answered = refl })

-- and each text is
pub IsCertified-some : (field : ℕ) (bytes : List ℕ) → IsFieldSize field → (reply : Reply) × IsDiagramReply (IsCertifyReply field) bytes reply
IsCertified-some field bytes sized =
    let read = IsDiagramRead-some bytes in certified-some field bytes read.0 sized read.1

-- a reply that is not done is one
IsCertifyReply-one : (field : ℕ) (code : Code) (a b : Reply) → a.status ≢ Done → IsCertifyReply field code a
    → IsCertifyReply field code b → a ≡ b
IsCertifyReply-one field code a b undone (inl is_a) (inl is_b) = is_a.1 ∙ sym is_b.1
IsCertifyReply-one field code a b undone (inl is_a) (inr is_b) = absurd (omega (arith, is_a.0, is_b.0))
IsCertifyReply-one field code a b undone (inr is_a) is_b = absurd (undone is_a.1.status)

-- and so is one to what a text was read as
certified-one : (field : ℕ) (outcome : Result Code Reply) (a b : Reply) → a.status ≢ Done
    → IsOutcomeReply (IsCertifyReply field) outcome a → IsOutcomeReply (IsCertifyReply field) outcome b → a ≡ b
certified-one field (Ok code) a b undone is_a is_b = IsCertifyReply-one field code a b undone is_a is_b
certified-one field (Err refusal) a b undone is_a is_b = is_a ∙ sym is_b

-- and to a text
pub IsCertified-one : (field : ℕ) (bytes : List ℕ) (a b : Reply) → a.status ≢ Done
    → IsDiagramReply (IsCertifyReply field) bytes a → IsDiagramReply (IsCertifyReply field) bytes b → a ≡ b
IsCertified-one field bytes a b undone is_a is_b =
    let same : is_a.outcome ≡ is_b.outcome = IsDiagramRead-one bytes is_a.outcome is_b.outcome is_a.read is_b.read in
    certified-one field is_b.outcome a b undone
    (subst (λ (outcome : Result Code Reply). IsOutcomeReply (IsCertifyReply field) outcome a) same is_a.answered) is_b.answered
