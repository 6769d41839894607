-- Replies in frames, so that a list of them is read in one way.
use Rattle.std.specs.Prelude.{◌≡◌, ◌⊎◌, ℕ, ◌^◌, ◌<◌, List, [], ◌∷◌, ◌++◌, length, codes, Some}
use Rattle.std.specs.Fmt.{decimal}
use Rattle.kh_types.specs.declared.limits.TheConstants.{INPUT_BYTES}
use Rattle.kh_runs.specs.LimitedReplies.{IsLimitedReply}
use Rattle.kh_runs.specs.Replies.{Reply, reply_of}
use Rattle.kh_runs.specs.Statuses.{status_number}
use Rattle.kh_runs.specs.declared.status.Status.TheVariants.{NoMemory}
use Rattle.line_answers.specs.Questions.{Question}

-- the first line of what is written, with the version of the frames
abbrev pub first_line : List ℕ
first_line = codes "answers 1\n"

-- the frame of a reply: a line with the number of its line, its field, its status and how many bytes its text has, and then its text
abbrev pub frame : ℕ → ℕ → Reply → List ℕ
frame number field reply =
    codes "code " ++ (decimal number ++ (codes " field " ++ (decimal field ++ (codes " status " ++ (decimal (status_number reply.status)
    ++ (codes " bytes " ++ (decimal (length reply.text) ++ (codes "\n" ++ reply.text))))))))

-- the frame of a reply to a question
abbrev pub frame_of : Question → Reply → List ℕ
frame_of question reply = frame question.line.number question.field reply

-- a text is the frames of replies to questions, one a question, in their order
abbrev pub AreFrames : (Question → Reply → Type 0) → List Question → List ℕ → Type 0
AreFrames Answers [] text = text ≡ []
AreFrames Answers (question ∷ questions) text =
    (reply : Reply) × (later : List ℕ) × Answers question reply × AreFrames Answers questions later × (text ≡ frame_of question reply ++ later)

-- the reply to a line over a field: if it has more bytes than a code may have, it is refused for it, else answered
abbrev pub IsReplyTo : (ℕ → List ℕ → Reply → Type 0) → ℕ → List ℕ → Reply → Type 0
IsReplyTo Answers field line reply = IsLimitedReply (Some INPUT_BYTES) line (Answers field line) reply

-- the same of a question
abbrev pub IsAnswerTo : (ℕ → List ℕ → Reply → Type 0) → Question → Reply → Type 0
IsAnswerTo Answers question reply = IsReplyTo Answers question.field question.line.bytes reply

-- the reply that stands for one for which memory was wanting: its status, and no text
abbrev pub no_memory : Reply
no_memory = reply_of NoMemory []

-- the reply to a question, or that one in its place
abbrev pub IsAnswerOrNone : (ℕ → List ℕ → Reply → Type 0) → Question → Reply → Type 0
IsAnswerOrNone Answers question reply = IsAnswerTo Answers question reply ⊎ (reply ≡ no_memory)

-- numbers in a frame that a u64 holds
pub record IsSmallFrame (number field : ℕ) (reply : Reply) : Type 0 where
  pub few_lines : number < 2 ^ 64
  pub few_elements : field < 2 ^ 64
  pub size : length reply.text < 2 ^ 64
