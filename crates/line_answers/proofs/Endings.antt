-- How a list ends: what was read, what is written, and why.
use Rattle.std.proofs.Common.{◌≡◌, ℕ, ◌+◌, min, List, [], ◌∷◌, ◌++◌, length, take, sym, ap, subst, ◌∙◌, append_assoc, arith, Option}
use Rattle.std.proofs.Math.Seq.{take-length}
use Rattle.std.proofs.lemmas.Grind.{flat_map-append}
use Rattle.std.specs.List.{AllByRecursion, flat_map}
use Rattle.std.specs.Io.KnownBytes.{Appends}
use Rattle.kh_lex.specs.Lines.{HasNoLineFeed, with_feed}
use Rattle.kh_lex.proofs.LineCuts.{CutsLines-lines_of}
use Rattle.kh_runs.specs.Replies.{Reply}
use Rattle.line_answers.specs.Frames.{AreFrames, IsAnswerOrNone, first_line}
use Rattle.line_answers.specs.ListRuns.{EndsLines, WritesAnswers, WritesPrefix}
use Rattle.line_answers.specs.Questions.{Question, asked_by, numbered, questions}
use Rattle.line_answers.proofs.AnsweredLists.{take-within}
use Rattle.line_answers.proofs.FrameLists.{AreFrames-append, AreFrames-some}

-- lines that were read and those that are buffered are all that line feeds end
pub record IsCut (taken : List ℕ) (lines : List (List ℕ)) : Type 0 where
  pub more : List (List ℕ)
  pub ends : EndsLines taken (lines ++ more)

AllByRecursion-append : (first second : List (List ℕ)) → AllByRecursion HasNoLineFeed first → AllByRecursion HasNoLineFeed second
    → AllByRecursion HasNoLineFeed (first ++ second)
AllByRecursion-append [] second a b = b
AllByRecursion-append (line ∷ first) second a b = (a.0, AllByRecursion-append first second a.1 b)

pub IsCut-of : (taken rest : List ℕ) (lines : List (List ℕ)) → taken ≡ flat_map with_feed lines ++ rest → AllByRecursion HasNoLineFeed lines
    → IsCut taken lines
IsCut-of taken rest lines parts whole =
    let cut = CutsLines-lines_of rest in
    record {
      more = cut.first;
      ends = record {
        rest = cut.last;
        parts = parts ∙ ap (λ l. flat_map with_feed lines ++ l) cut.parts ∙ sym (append_assoc (flat_map with_feed lines) (flat_map with_feed cut.first) cut.last)
            ∙ ap (λ l. l ++ cut.last) (sym (flat_map-append with_feed lines cut.first));
        whole = AllByRecursion-append lines cut.first whole cut.first_whole;
        no_more = cut.last_whole;
      };
    }

numbered-append : (number : ℕ) (first second : List (List ℕ)) → numbered number (first ++ second) ≡ numbered number first ++ numbered (number + length first) second
numbered-append number [] second = ap (λ n. numbered n second) (omega arith)
numbered-append number (line ∷ first) second =
    ap (λ l. record { number = number; bytes = line } ∷ l) (numbered-append (number + 1) first second
    ∙ ap (λ n. numbered (number + 1) first ++ numbered n second) (omega arith))

-- more lines ask more, behind what is asked
pub questions-append : (fields : List ℕ) (lines more : List (List ℕ))
    → (later : List Question) × (questions fields (lines ++ more) ≡ questions fields lines ++ later)
questions-append fields lines more = (
  flat_map (asked_by fields) (numbered (1 + length lines) more),
  ap (λ l. flat_map (asked_by fields) l) (numbered-append 1 lines more)
      ∙ flat_map-append (asked_by fields) (numbered 1 lines) (numbered (1 + length lines) more),
)

-- a prefix of the answers to some questions is one of the answers to more
pub WritesPrefix-of : (Answers : ℕ → List ℕ → Reply → Type 0) (all asked later : List Question) (before after : Option (List ℕ)) (text : List ℕ)
    (size : ℕ) → all ≡ asked ++ later → AreFrames (IsAnswerOrNone Answers) asked text → Appends before after (take size (first_line ++ text))
    → WritesPrefix (IsAnswerOrNone Answers) all before after
WritesPrefix-of Answers all asked later before after text size parts frames written =
    let more = AreFrames-some Answers later in
    let same : take size (first_line ++ text) ≡ take (min size (length (first_line ++ text))) (first_line ++ (text ++ more.0)) =
    take-within size (first_line ++ text) more.0
    ∙ ap (take (min size (length (first_line ++ text)))) (append_assoc first_line text more.0) in
    record {
      text = text ++ more.0;
      frames = rw parts (AreFrames-append (IsAnswerOrNone Answers) asked later text more.0 frames more.1);
      count = min size (length (first_line ++ text));
      written = subst (Appends before after) same written;
    }

-- answers to the first of some questions are answers to the first of more
pub WritesAnswers-of : (Answers : ℕ → List ℕ → Reply → Type 0) (all asked later : List Question) (before after : Option (List ℕ)) (text : List ℕ)
    (count : ℕ) → all ≡ asked ++ later → AreFrames (IsAnswerOrNone Answers) (take count asked) text → Appends before after (first_line ++ text)
    → (count : ℕ) × WritesAnswers (IsAnswerOrNone Answers) (take count all) before after
WritesAnswers-of Answers all asked later before after text count parts frames written =
    let same : take count asked ≡ take (min count (length asked)) all =
    take-within count asked later ∙ ap (take (min count (length asked))) (sym parts) in (
      min count (length asked),
      record {
        text = text;
        frames = subst (λ l. AreFrames (IsAnswerOrNone Answers) l text) same frames;
        written = written;
      },
    )

-- answers to all of some questions are answers to the first of more
pub WritesAnswers-all : (Answers : ℕ → List ℕ → Reply → Type 0) (all asked later : List Question) (before after : Option (List ℕ)) (text : List ℕ)
    → all ≡ asked ++ later → AreFrames (IsAnswerOrNone Answers) asked text → Appends before after (first_line ++ text)
    → (count : ℕ) × WritesAnswers (IsAnswerOrNone Answers) (take count all) before after
WritesAnswers-all Answers all asked later before after text parts frames written =
    WritesAnswers-of Answers all asked later before after text (length asked) parts
    (subst (λ l. AreFrames (IsAnswerOrNone Answers) l text) (sym (take-length asked)) frames) written

-- and a prefix of their answers
pub WritesPrefix-all : (Answers : ℕ → List ℕ → Reply → Type 0) (all asked later : List Question) (before after : Option (List ℕ)) (text : List ℕ)
    → all ≡ asked ++ later → AreFrames (IsAnswerOrNone Answers) asked text → Appends before after (first_line ++ text)
    → WritesPrefix (IsAnswerOrNone Answers) all before after
WritesPrefix-all Answers all asked later before after text parts frames written =
    WritesPrefix-of Answers all asked later before after text (length (first_line ++ text)) parts frames
    (subst (Appends before after) (sym (take-length (first_line ++ text))) written)
