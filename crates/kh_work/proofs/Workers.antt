-- What a command answers does not depend on the number of its workers.
use Rattle.std.proofs.Common.{◌≡◌, ℕ, inl, inr, List, subst, None, Some}
use Rattle.std.specs.Prelude.{Option}
use Rattle.word_line.specs.declared.command.Task.{Task}
use Rattle.word_line.specs.declared.command.Task.TheVariants.{Homology}
use Rattle.word_line.specs.declared.command.Command.{Command}
use Rattle.word_line.specs.Commands.{IsCommand}
use Rattle.word_line.proofs.Readings.{IsCommand-one}
use Rattle.kh_types.specs.declared.limits.TheConstants.{INPUT_BYTES}
use Rattle.kh_work.specs.Orders.{order_for}
use Rattle.kh_runs.specs.Replies.{Reply}
use Rattle.kh_runs.specs.LimitedReplies.{IsLimitedReply}
use Rattle.kh_work.specs.Answer.{IsAnswer, IsCommandReply, IsInputReply, IsOrderReply}

-- the command with another number of workers
abbrev with_count : Command → ℕ → Command
with_count command workers = record command { workers = workers }

IsLimitedReply-weaker : (limit : Option ℕ) (bytes : List ℕ) (Answers Other : Reply → Type 0) (reply : Reply)
    → (Answers reply → Other reply) → IsLimitedReply limit bytes Answers reply → IsLimitedReply limit bytes Other reply
IsLimitedReply-weaker None bytes Answers Other reply weaker is = weaker is
IsLimitedReply-weaker (Some limit) bytes Answers Other reply weaker (inl many) = inl many
IsLimitedReply-weaker (Some limit) bytes Answers Other reply weaker (inr few) = inr (few.0, weaker few.1)

-- a table is the same, however many make it, and what else is ordered is the same order
IsInputReply-workers : (task : Task) (command : Command) (workers : ℕ) (bytes : List ℕ) (reply : Reply)
    → IsInputReply (order_for task command) bytes reply → IsInputReply (order_for task (with_count command workers)) bytes reply
IsInputReply-workers Homology command workers bytes reply =
    IsLimitedReply-weaker (Some INPUT_BYTES) bytes (IsOrderReply (order_for Homology command) bytes)
    (IsOrderReply (order_for Homology (with_count command workers)) bytes) reply
    (λ is. record { outcome = is.outcome; read = is.read; answered = is.answered })
IsInputReply-workers _ command workers bytes reply = λ is. is

pub IsAnswer-workers : (words other : List (List ℕ)) (command : Command) (workers : ℕ) (bytes : List ℕ) (reply : Reply)
    → IsCommand words command → IsCommand other (record command { workers = workers }) → IsAnswer words bytes reply
    → IsAnswer other bytes reply
unfolding IsAnswer
IsAnswer-workers words other command workers bytes reply is is_other (inl (meant, is_meant, replied)) =
    let same : meant ≡ command = IsCommand-one words meant command is_meant is in
    inl (
      with_count command workers,
      is_other,
      IsInputReply-workers command.task command workers bytes reply
          (subst (λ (c : Command). IsCommandReply c bytes reply) same replied),
    )
IsAnswer-workers words other command workers bytes reply is is_other (inr none) = absurd (none.0 command is)
