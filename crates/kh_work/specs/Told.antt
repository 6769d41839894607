-- Which replies answer words and orders over a source, some of whose bytes may not be known.
use Rattle.std.specs.Prelude.{ℕ, List}
use Rattle.std.specs.declared.option.Option.{Option}
use Rattle.kh_runs.specs.Replies.{Reply}
use Rattle.kh_runs.specs.Runs.{AnswersSource}
use Rattle.kh_work.specs.Answer.{IsAnswer, IsInputReply}
use Rattle.kh_work.specs.declared.order.Order.{Order}

-- a reply is an answer to words and some bytes: all that a source had left, where these are known
abbrev pub AnswersWords : List (List ℕ) → Option (List ℕ) → Reply → Type 0
AnswersWords words left reply = AnswersSource (IsAnswer words) left reply

-- a reply is one of an order to some bytes: all that a source had left, where these are known
abbrev pub AnswersOrder : Order → Option (List ℕ) → Reply → Type 0
AnswersOrder order left reply = AnswersSource (IsInputReply order) left reply
