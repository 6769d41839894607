-- Bytes within a limit or beyond it have one reply.
use Rattle.std.proofs.Common.{◌≡◌, ℕ, ◌≤◌, ◌<◌, Bool, true, false, List, length, inl, inr, refl, sym, ◌∙◌, nat_lt, None, Some, arith}
use Rattle.std.specs.Prelude.{Option}
use Rattle.std.proofs.lemmas.Grind.{common_steps}
use Rattle.kh_runs.specs.LimitedReplies.{IsLimitedReply}
use Rattle.kh_runs.specs.Refusals.{too_many_bytes}
use Rattle.kh_runs.specs.Replies.{Reply}

IsLimitedReply-size : (limit : ℕ) (bytes : List ℕ) (Answers : Reply → Type 0) → ((reply : Reply) × Answers reply) → (long : Bool)
    → nat_lt limit (length bytes) ≡ long → (reply : Reply) × IsLimitedReply (Some limit) bytes Answers reply
IsLimitedReply-size limit bytes Answers some true is_long =
    let many : limit < length bytes = grind (arith, common_steps) in (too_many_bytes limit, inl (many, refl))
IsLimitedReply-size limit bytes Answers some false is_long =
    let few : length bytes ≤ limit = grind (arith, common_steps) in (some.0, inr (few, some.1))

pub IsLimitedReply-some : (limit : Option ℕ) (bytes : List ℕ) (Answers : Reply → Type 0) → ((reply : Reply) × Answers reply)
    → (reply : Reply) × IsLimitedReply limit bytes Answers reply
IsLimitedReply-some None bytes Answers some = some
IsLimitedReply-some (Some limit) bytes Answers some = IsLimitedReply-size limit bytes Answers some (nat_lt limit (length bytes)) refl

pub IsLimitedReply-one : (limit : Option ℕ) (bytes : List ℕ) (Answers : Reply → Type 0) (a b : Reply) → (Answers a → Answers b → a ≡ b)
    → IsLimitedReply limit bytes Answers a → IsLimitedReply limit bytes Answers b → a ≡ b
IsLimitedReply-one None bytes Answers a b one is_a is_b = one is_a is_b
IsLimitedReply-one (Some limit) bytes Answers a b one (inl is_a) (inl is_b) = is_a.1 ∙ sym is_b.1
IsLimitedReply-one (Some limit) bytes Answers a b one (inl is_a) (inr is_b) = absurd (omega (arith, is_a.0, is_b.0))
IsLimitedReply-one (Some limit) bytes Answers a b one (inr is_a) (inl is_b) = absurd (omega (arith, is_a.0, is_b.0))
IsLimitedReply-one (Some limit) bytes Answers a b one (inr is_a) (inr is_b) = one is_a.1 is_b.1
