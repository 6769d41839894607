-- Whether a line is longer than a code may be shows in what is kept of it.
use Rattle.std.proofs.Common.{◌≡◌, inl, inr, ℕ, ◌+◌, ◌<◌, ◌≤◌, List, length, take, ap, subst, ◌∙◌, arith, Some, Result, Ok, Err}
use Rattle.std.specs.Prelude.{IfOk}
use Rattle.std.proofs.lemmas.List.{length-take, take_all}
use Rattle.kh_types.specs.declared.limits.TheConstants.{INPUT_BYTES}
use Rattle.kh_runs.specs.LimitedReplies.{IsLimitedReply}
use Rattle.kh_runs.specs.Refusals.{too_many_bytes}
use Rattle.kh_runs.specs.Replies.{Reply}

-- it is longer, and refused
pub IsLimitedReply-long : (bytes line : List ℕ) (Answers : Reply → Type 0) → bytes ≡ take (INPUT_BYTES + 1) line → INPUT_BYTES < length bytes
    → (reply : Reply) → reply ≡ too_many_bytes INPUT_BYTES → IsLimitedReply (Some INPUT_BYTES) line Answers reply
IsLimitedReply-long bytes line Answers kept long reply refused =
    inl (omega (arith, long, ap length kept, length-take (INPUT_BYTES + 1) line), refused)

-- it is not, and all of it is kept
pub IsLimitedReply-short : (bytes line : List ℕ) (Answers : List ℕ → Reply → Type 0) → bytes ≡ take (INPUT_BYTES + 1) line → length bytes ≤ INPUT_BYTES
    → (reply : Reply) → Answers bytes reply → IsLimitedReply (Some INPUT_BYTES) line (Answers line) reply
IsLimitedReply-short bytes line Answers kept short reply answered =
    let few : length line ≤ INPUT_BYTES = omega (arith, short, ap length kept, length-take (INPUT_BYTES + 1) line) in
    let same : bytes ≡ line = kept ∙ take_all (INPUT_BYTES + 1) line (omega (arith, few)) in
    inr (few, subst (λ l. Answers l reply) same answered)

-- the same of a result
pub IfOk-long : {E : Type 0} (result : Result Reply E) (bytes : List ℕ) (Answers : List ℕ → Reply → Type 0) → INPUT_BYTES < length bytes
    → IfOk result (λ reply. reply ≡ too_many_bytes INPUT_BYTES)
    → IfOk result (λ reply. (line : List ℕ) → bytes ≡ take (INPUT_BYTES + 1) line → IsLimitedReply (Some INPUT_BYTES) line (Answers line) reply)
IfOk-long (Ok reply) bytes Answers long refused = λ line kept. IsLimitedReply-long bytes line (Answers line) kept long reply refused
IfOk-long (Err stop) bytes Answers long refused = tt

pub IfOk-short : {E : Type 0} (result : Result Reply E) (bytes : List ℕ) (Answers : List ℕ → Reply → Type 0) → length bytes ≤ INPUT_BYTES
    → IfOk result (Answers bytes)
    → IfOk result (λ reply. (line : List ℕ) → bytes ≡ take (INPUT_BYTES + 1) line → IsLimitedReply (Some INPUT_BYTES) line (Answers line) reply)
IfOk-short (Ok reply) bytes Answers short answered = λ line kept. IsLimitedReply-short bytes line Answers kept short reply answered
IfOk-short (Err stop) bytes Answers short answered = tt
