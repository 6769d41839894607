-- A text is read as one diagram, or refused with one reply.
use Rattle.std.proofs.Common.{◌≡◌, ℕ, ◌⊎◌, inl, inr, List, IsTrue, refl, sym, ap, subst, ◌∙◌, Result, Ok, Err, None, Some}
use Rattle.std.specs.Prelude.{Option}
use Rattle.kh_types.specs.Code.{Code}
use Rattle.kh_types.specs.Acceptance.{accepted, first_fault}
use Rattle.kh_types.specs.declared.fault.CodeFault.{CodeFault}
use Rattle.kh_runs.specs.Replies.{Reply}
use Rattle.kh_inputs.specs.CodeRefusals.{IsFaultRefusal}
use Rattle.kh_inputs.specs.Inputs.{input_form, IsCodeRead, IsFaulty, IsDiagramRead}
use Rattle.kh_inputs.specs.DiagramReplies.{IsOutcomeReply, IsDiagramReply}
use Rattle.kh_inputs.proofs.TextFaults.{text-fault, IsFaultRefusal-some, IsFaultRefusal-one}
use Rattle.kh_inputs.proofs.TextReadings.{IsReadAs-some, IsCodeRead-one}
use Rattle.kh_types.proofs.FaultLemmas.{none_is}

-- codes and diagrams

pub first_fault-accepted : (code : Code) → IsTrue (accepted code) → first_fault code ≡ None
unfolding accepted
first_fault-accepted code is_accepted = none_is (first_fault code) is_accepted

IsDiagramRead-code : (bytes : List ℕ) (code : Code) (fault : Option CodeFault) → IsCodeRead bytes (Ok code) → first_fault code ≡ fault
    → (outcome : Result Code Reply) × IsDiagramRead bytes outcome
IsDiagramRead-code bytes code None read is_fault = (Ok code, (read, is_fault))
IsDiagramRead-code bytes code (Some fault) read is_fault =
    let refusal = IsFaultRefusal-some fault (text-fault bytes code fault read is_fault) in
    (Err refusal.0, inr (record { code = code; fault = fault; read = read; breaks = is_fault; line = refusal.1 }))

IsDiagramRead-outcome : (bytes : List ℕ) (outcome : Result Code Reply) → IsCodeRead bytes outcome
    → (diagram : Result Code Reply) × IsDiagramRead bytes diagram
IsDiagramRead-outcome bytes (Ok code) read = IsDiagramRead-code bytes code (first_fault code) read refl
IsDiagramRead-outcome bytes (Err reply) read = (Err reply, inl read)

pub IsDiagramRead-some : (bytes : List ℕ) → (outcome : Result Code Reply) × IsDiagramRead bytes outcome
IsDiagramRead-some bytes =
    let code = IsReadAs-some (input_form bytes) bytes in
    IsDiagramRead-outcome bytes code.0 code.1

faulty_code : (bytes : List ℕ) (code : Code) (reply : Reply) → IsCodeRead bytes (Ok code) → first_fault code ≡ None → IsFaulty bytes reply → ⊥
faulty_code bytes code reply read none faulty =
    let same : ◌≡◌ {A = Result Code Reply} (Ok code) (Ok faulty.code) = IsCodeRead-one bytes (Ok code) (Ok faulty.code) read faulty.read in
    let e : code ≡ faulty.code = cc in
    let both : Some faulty.fault ≡ None = sym faulty.breaks ∙ ap first_fault (sym e) ∙ none in cc

IsFaulty-one : (bytes : List ℕ) (a b : Reply) → IsFaulty bytes a → IsFaulty bytes b → a ≡ b
IsFaulty-one bytes a b is_a is_b =
    let same : ◌≡◌ {A = Result Code Reply} (Ok is_a.code) (Ok is_b.code) = IsCodeRead-one bytes (Ok is_a.code) (Ok is_b.code) is_a.read is_b.read in
    let e : is_a.code ≡ is_b.code = cc in
    let faults : Some is_a.fault ≡ Some is_b.fault = sym is_a.breaks ∙ ap first_fault e ∙ is_b.breaks in
    let f : is_a.fault ≡ is_b.fault = cc in
    IsFaultRefusal-one is_b.fault a b (subst (λ fault. IsFaultRefusal fault a) f is_a.line) is_b.line

refused_reply : (bytes : List ℕ) (a b : Reply) → IsCodeRead bytes (Err a) ⊎ IsFaulty bytes a → IsCodeRead bytes (Err b) ⊎ IsFaulty bytes b
    → a ≡ b
refused_reply bytes a b (inl is_a) (inl is_b) =
    let same : ◌≡◌ {A = Result Code Reply} (Err a) (Err b) = IsCodeRead-one bytes (Err a) (Err b) is_a is_b in cc
refused_reply bytes a b (inl is_a) (inr is_b) =
    let same : ◌≡◌ {A = Result Code Reply} (Err a) (Ok is_b.code) = IsCodeRead-one bytes (Err a) (Ok is_b.code) is_a is_b.read in absurd (cc)
refused_reply bytes a b (inr is_a) (inl is_b) =
    let same : ◌≡◌ {A = Result Code Reply} (Ok is_a.code) (Err b) = IsCodeRead-one bytes (Ok is_a.code) (Err b) is_a.read is_b in absurd (cc)
refused_reply bytes a b (inr is_a) (inr is_b) = IsFaulty-one bytes a b is_a is_b

refused_or_read : (bytes : List ℕ) (code : Code) (reply : Reply) → IsDiagramRead bytes (Ok code) → IsDiagramRead bytes (Err reply) → ⊥
refused_or_read bytes code reply read (inl refusal) =
    let same : ◌≡◌ {A = Result Code Reply} (Ok code) (Err reply) = IsCodeRead-one bytes (Ok code) (Err reply) read.0 refusal in cc
refused_or_read bytes code reply read (inr faulty) = faulty_code bytes code reply read.0 read.1 faulty

pub IsDiagramRead-one : (bytes : List ℕ) (a b : Result Code Reply) → IsDiagramRead bytes a → IsDiagramRead bytes b → a ≡ b
IsDiagramRead-one bytes (Ok x) (Ok y) is_x is_y = IsCodeRead-one bytes (Ok x) (Ok y) is_x.0 is_y.0
IsDiagramRead-one bytes (Ok x) (Err b) is_x is_b = absurd (refused_or_read bytes x b is_x is_b)
IsDiagramRead-one bytes (Err a) (Ok y) is_a is_y = absurd (refused_or_read bytes y a is_y is_a)
IsDiagramRead-one bytes (Err a) (Err b) is_a is_b = ap Err (refused_reply bytes a b is_a is_b)

-- replies, where each diagram has one

pub IsDiagramReply-some : (Answers : Code → Reply → Type 0) → ((code : Code) → (reply : Reply) × Answers code reply) → (text : List ℕ)
    → (reply : Reply) × IsDiagramReply Answers text reply
IsDiagramReply-some Answers some text = replied (IsDiagramRead-some text)
  where
    replied : (outcome : Result Code Reply) × IsDiagramRead text outcome → (reply : Reply) × IsDiagramReply Answers text reply
    replied (Ok code, read) = let reply = some code in (reply.0, record { outcome = Ok code; read = read; answered = reply.1 })
    replied (Err refusal, read) = (refusal, record { outcome = Err refusal; read = read; answered = refl })

IsOutcomeReply-one : (Answers : Code → Reply → Type 0) → ((code : Code) (a b : Reply) → Answers code a → Answers code b → a ≡ b)
    → (outcome other : Result Code Reply) (a b : Reply) → outcome ≡ other → IsOutcomeReply Answers outcome a → IsOutcomeReply Answers other b
    → a ≡ b
IsOutcomeReply-one Answers one (Ok x) (Ok y) a b same is_a is_b =
    let e : x ≡ y = cc in
    let P : Code → Type 0 = λ code. Answers code a in
    one y a b (subst P e is_a) is_b
IsOutcomeReply-one Answers one (Ok x) (Err s) a b same is_a is_b = absurd (cc)
IsOutcomeReply-one Answers one (Err r) (Ok y) a b same is_a is_b = absurd (cc)
IsOutcomeReply-one Answers one (Err r) (Err s) a b same is_a is_b = let e : r ≡ s = cc in is_a ∙ e ∙ sym is_b

pub IsDiagramReply-one : (Answers : Code → Reply → Type 0) → ((code : Code) (a b : Reply) → Answers code a → Answers code b → a ≡ b)
    → (text : List ℕ) (a b : Reply) → IsDiagramReply Answers text a → IsDiagramReply Answers text b → a ≡ b
IsDiagramReply-one Answers one text a b is_a is_b =
    IsOutcomeReply-one Answers one is_a.outcome is_b.outcome a b (IsDiagramRead-one text is_a.outcome is_b.outcome is_a.read is_b.read)
    is_a.answered is_b.answered
