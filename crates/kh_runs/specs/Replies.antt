-- Replies: what a run answers, as plain data.
use Rattle.std.specs.Prelude.{ℕ, List}
use Rattle.kh_runs.specs.declared.status.Status.{Status}
use Rattle.kh_runs.specs.declared.reply.Reply.TheInside.{Inside}

-- a status and the bytes to write
pub record Reply : Type 0 where
  pub status : Status
  pub text : List ℕ

-- the reply of a status and the bytes to write
abbrev pub reply_of : Status → List ℕ → Reply
reply_of status text = record { status = status; text = text }

-- the reply that contracts see
abbrev pub reply_inside : Inside → Reply
reply_inside reply = reply_of reply.status reply.text.items
