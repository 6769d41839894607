-- What is written of the answers to questions, one after the other.
use Rattle.std.proofs.Common.{◌≡◌, ℕ, ◌+◌, ◌<◌, min, Bool, ◌&&◌, List, [], ◌∷◌, ◌++◌, length, take, drop, map, get_or, sym, ap, subst, ◌∙◌, arith, Option, Result, Ok, Err}
use Rattle.std.proofs.Math.Seq.{take-append-add}
use Rattle.std.proofs.lemmas.Bool.{and_parts}
use Rattle.std.proofs.lemmas.List.{map-append, map_more, take-append-drop, take-append-le, take_min}
use Rattle.std.specs.Io.KnownBytes.{Appends}
use Rattle.kh_io.proofs.KnownBytes.{Appends-trans}
use Rattle.kh_runs.specs.Replies.{Reply}
use Rattle.line_answers.specs.Answered.{AreAllAnswered, AreAnswered, ArePartlyAnswered, IsPartWritten}
use Rattle.line_answers.specs.Frames.{IsAnswerOrNone, IsAnswerTo, frame_of}
use Rattle.line_answers.specs.Questions.{NumberedLine, Question, question}
use Rattle.line_answers.specs.declared.frame.FrameStop.{FrameStop}
use Rattle.line_answers.proofs.FrameLists.{AreFrames-append, AreFrames-one, AreFrames-some}

-- all that is there of a list is taken by its length, or by less
pub take-within : {X : Type 0} (n : ℕ) (xs more : List X) → take n xs ≡ take (min n (length xs)) (xs ++ more)
take-within n xs more = sym (take_min n xs) ∙ sym (take-append-le (min n (length xs)) xs more (omega arith))

-- what comes of two outcomes, one behind the other
abbrev pub behind : Bool → Result Bool FrameStop → Result Bool FrameStop
behind whole (Ok later) = Ok (whole && later)
behind whole (Err stop) = Err stop

-- some questions are answered, and those behind them or a part of them
pub AreAnswered-behind : (Answers : ℕ → List ℕ → Reply → Type 0) (first second : List Question) (a b c : Option (List ℕ)) (whole : Bool)
    (result : Result Bool FrameStop) → AreAllAnswered Answers first a b whole → AreAnswered Answers second b c result
    → AreAnswered Answers (first ++ second) a c (behind whole result)
AreAnswered-behind Answers first second a b c whole (Ok later) one two = record {
  text = one.text ++ two.text;
  frames = AreFrames-append (IsAnswerOrNone Answers) first second one.text two.text one.frames two.frames;
  written = Appends-trans a b c one.text two.text one.written two.written;
  answers = λ both. let parts = and_parts whole later both in
      AreFrames-append (IsAnswerTo Answers) first second one.text two.text (one.answers parts.0) (two.answers parts.1);
}
AreAnswered-behind Answers first second a b c whole (Err stop) one part = record {
  text = one.text ++ part.text;
  frames = AreFrames-append (IsAnswerOrNone Answers) first second one.text part.text one.frames part.frames;
  size = length one.text + part.size;
  written = subst (Appends a c) (sym (take-append-add one.text part.text part.size))
      (Appends-trans a b c one.text (take part.size part.text) one.written part.written);
  whole = λ memory. let count = part.whole memory in (
    length first + count.0,
    rw (take-append-add first second count.0, take-append-add one.text part.text part.size)
        (AreFrames-append (IsAnswerOrNone Answers) first (take count.0 second) one.text (take part.size part.text) one.frames count.1),
  );
}

-- questions are answered in part, and so are more of them
pub AreAnswered-before : (Answers : ℕ → List ℕ → Reply → Type 0) (first second : List Question) (a b : Option (List ℕ)) (stop : FrameStop)
    → ArePartlyAnswered Answers first a b stop → ArePartlyAnswered Answers (first ++ second) a b stop
AreAnswered-before Answers first second a b stop part =
    let more = AreFrames-some Answers second in
    let same = take-within part.size part.text more.0 in
    record {
      text = part.text ++ more.0;
      frames = AreFrames-append (IsAnswerOrNone Answers) first second part.text more.0 part.frames more.1;
      size = min part.size (length part.text);
      written = subst (Appends a b) same part.written;
      whole = λ memory. let count = part.whole memory in (
        min count.0 (length first),
        rw (← take-within count.0 first second, ← same) count.1,
      );
    }

-- the frame is written in part
pub AreAnswered-part : (Answers : ℕ → List ℕ → Reply → Type 0) (asked : Question) (reply : Reply) (a b : Option (List ℕ)) (stop : FrameStop)
    → IsAnswerOrNone Answers asked reply → IsPartWritten (frame_of asked reply) a b stop → AreAnswered Answers (asked ∷ []) a b (Err stop)
AreAnswered-part Answers asked reply a b stop answer part = record {
  text = frame_of asked reply;
  frames = AreFrames-one (IsAnswerOrNone Answers) asked reply answer;
  size = part.size;
  written = part.written;
  whole = λ memory. (0, ap (λ (n : ℕ). take n (frame_of asked reply)) (part.none memory));
}

-- a line over one field more
pub fields-more : (line : NumberedLine) (fields : List ℕ) (place field : ℕ) → place < length fields → field ≡ get_or fields place field
    → map (question line) (take (place + 1) fields) ≡ map (question line) (take place fields) ++ question line field ∷ []
fields-more line fields place field below is =
    map_more (question line) fields place field below
    ∙ ap (λ (f : ℕ). map (question line) (take place fields) ++ question line f ∷ []) (sym is)

-- over the fields so far and those to come it is asked over all
pub fields-all : (line : NumberedLine) (fields : List ℕ) (place : ℕ)
    → map (question line) (take place fields) ++ map (question line) (drop place fields) ≡ map (question line) fields
fields-all line fields place = sym (map-append (question line) (take place fields) (drop place fields)) ∙ ap (map (question line)) (take-append-drop place fields)
