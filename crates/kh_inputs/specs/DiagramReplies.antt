-- The reply to a text that is to be that of an accepted diagram.
use Rattle.std.specs.Prelude.{◌≡◌, ℕ, List, Result, Ok, Err}
use Rattle.kh_types.specs.Code.{Code}
use Rattle.kh_runs.specs.Replies.{Reply}
use Rattle.kh_inputs.specs.Inputs.{IsDiagramRead}

-- the reply to what a text was read as: to the code of a diagram one of those that answer it, and a refusal itself
abbrev pub IsOutcomeReply : (Code → Reply → Type 0) → Result Code Reply → Reply → Type 0
IsOutcomeReply Answers (Ok code) reply = Answers code reply
IsOutcomeReply Answers (Err refusal) reply = reply ≡ refusal

-- a text is read as a diagram, and that is answered, or it is refused
pub record IsDiagramReply (Answers : Code → Reply → Type 0) (text : List ℕ) (reply : Reply) : Type 0 where
  pub outcome : Result Code Reply
  pub read : IsDiagramRead text outcome
  pub answered : IsOutcomeReply Answers outcome reply
