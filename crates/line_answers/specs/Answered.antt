-- What is written of the answers to questions.
use Rattle.std.specs.Prelude.{◌≡◌, ℕ, Bool, true, List, take, Option, Result, Ok, Err}
use Rattle.std.specs.Io.KnownBytes.{Appends}
use Rattle.kh_runs.specs.Replies.{Reply}
use Rattle.line_answers.specs.declared.frame.FrameStop.{FrameStop}
use Rattle.line_answers.specs.declared.frame.FrameStop.TheVariants.{NoMemory}
use Rattle.line_answers.specs.Frames.{AreFrames, IsAnswerOrNone, IsAnswerTo}
use Rattle.line_answers.specs.Questions.{Question}

-- a sink has gained a prefix of a text; out of memory nothing
pub record IsPartWritten (text : List ℕ) (before after : Option (List ℕ)) (stop : FrameStop) : Type 0 where
  pub size : ℕ
  pub written : Appends before after (take size text)
  pub none : stop ≡ NoMemory → size ≡ 0

-- a sink has gained a prefix of the frames of answers to questions, or of replies for want of memory; where it ended out of memory, whole
-- frames of the first of them
pub record ArePartlyAnswered (Answers : ℕ → List ℕ → Reply → Type 0) (asked : List Question) (before after : Option (List ℕ))
    (stop : FrameStop) : Type 0 where
  pub text : List ℕ
  pub frames : AreFrames (IsAnswerOrNone Answers) asked text
  pub size : ℕ
  pub written : Appends before after (take size text)
  pub whole : stop ≡ NoMemory → (count : ℕ) × AreFrames (IsAnswerOrNone Answers) (take count asked) (take size text)

-- a sink has gained the frames of answers to questions, or of replies for want of memory; and where it is told that there was none of these,
-- of answers alone
pub record AreAllAnswered (Answers : ℕ → List ℕ → Reply → Type 0) (asked : List Question) (before after : Option (List ℕ))
    (whole : Bool) : Type 0 where
  pub text : List ℕ
  pub frames : AreFrames (IsAnswerOrNone Answers) asked text
  pub written : Appends before after text
  pub answers : whole ≡ true → AreFrames (IsAnswerTo Answers) asked text

-- questions are answered, all of them or a part
abbrev pub AreAnswered : (ℕ → List ℕ → Reply → Type 0) → List Question → Option (List ℕ) → Option (List ℕ) → Result Bool FrameStop → Type 0
AreAnswered Answers asked before after (Ok whole) = AreAllAnswered Answers asked before after whole
AreAnswered Answers asked before after (Err stop) = ArePartlyAnswered Answers asked before after stop
