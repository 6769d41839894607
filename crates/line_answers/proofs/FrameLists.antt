-- Frames of questions, one behind the other.
use Rattle.std.proofs.Common.{inr, ℕ, List, [], ◌∷◌, ◌++◌, refl, sym, ap, ◌∙◌, append_assoc, append-nil}
use Rattle.std.specs.List.{AllByRecursion}
use Rattle.kh_runs.specs.Replies.{Reply}
use Rattle.line_answers.specs.Frames.{AreFrames, IsAnswerOrNone, frame_of, no_memory}
use Rattle.line_answers.specs.Questions.{Question}

-- frames behind frames
pub AreFrames-append : (Answers : Question → Reply → Type 0) (first second : List Question) (a b : List ℕ) → AreFrames Answers first a
    → AreFrames Answers second b → AreFrames Answers (first ++ second) (a ++ b)
AreFrames-append Answers [] second a b is_a is_b = rw is_a is_b
AreFrames-append Answers (question ∷ first) second a b (reply, later, answer, frames, same) is_b = (
  reply,
  later ++ b,
  answer,
  AreFrames-append Answers first second later b frames is_b,
  ap (λ l. l ++ b) same ∙ append_assoc (frame_of question reply) later b,
)

-- the frame of one question
pub AreFrames-one : (Answers : Question → Reply → Type 0) (question : Question) (reply : Reply) → Answers question reply
    → AreFrames Answers (question ∷ []) (frame_of question reply)
AreFrames-one Answers question reply answer = (reply, [], answer, refl, sym (append-nil (frame_of question reply)))

-- answers that mean more, to questions of a kind
pub AreFrames-map : (Kind : Question → Type 0) (Answers Others : Question → Reply → Type 0)
    → ((question : Question) (reply : Reply) → Kind question → Answers question reply → Others question reply)
    → (asked : List Question) (text : List ℕ) → AllByRecursion Kind asked → AreFrames Answers asked text → AreFrames Others asked text
AreFrames-map Kind Answers Others also [] text all is = is
AreFrames-map Kind Answers Others also (question ∷ asked) text all (reply, later, answer, frames, same) =
    (reply, later, also question reply all.0 answer, AreFrames-map Kind Answers Others also asked later all.1 frames, same)

-- there are frames of answers to all questions: those that say that there was no memory
pub AreFrames-some : (Answers : ℕ → List ℕ → Reply → Type 0) (asked : List Question) → (text : List ℕ) × AreFrames (IsAnswerOrNone Answers) asked text
AreFrames-some Answers [] = ([], refl)
AreFrames-some Answers (question ∷ asked) =
    let later = AreFrames-some Answers asked in
    (frame_of question no_memory ++ later.0, (no_memory, later.0, inr refl, later.1, refl))
