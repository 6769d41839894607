-- Replies to bytes up to a limit.
use Rattle.std.specs.Prelude.{◌≡◌, ◌⊎◌, ℕ, ◌<◌, ◌≤◌, List, length, Option, Some, None}
use Rattle.kh_runs.specs.Replies.{Reply}
use Rattle.kh_runs.specs.Refusals.{too_many_bytes}

-- bytes are more than a limit, and refused for it; or they are not, and answered
abbrev pub IsLimitedReply : Option ℕ → List ℕ → (Reply → Type 0) → Reply → Type 0
IsLimitedReply None bytes Answers reply = Answers reply
IsLimitedReply (Some limit) bytes Answers reply =
    ((limit < length bytes) × (reply ≡ too_many_bytes limit)) ⊎ ((length bytes ≤ limit) × Answers reply)
