-- How far a list is answered, between two lines.
use Rattle.std.proofs.lemmas.Bool.{and_parts}
use Rattle.std.proofs.Common.{◌≡◌, Bool, true, ◌&&◌, ℕ, ◌+◌, ◌≤◌, List, [], ◌∷◌, ◌++◌, length, refl, sym, ap, subst, ◌∙◌, append_assoc, append-nil, codes, arith, Option}
use Rattle.std.proofs.lemmas.Grind.{flat_map-append}
use Rattle.std.proofs.lemmas.List.{length-append}
use Rattle.std.specs.List.{AllByRecursion, flat_map}
use Rattle.std.specs.Io.KnownBytes.{Appends, Consumes}
use Rattle.kh_io.proofs.KnownBytes.{Appends-trans, Consumes-trans}
use Rattle.kh_lex.specs.Lines.{CutsLines, HasNoLineFeed, last_line, with_feed}
use Rattle.kh_runs.specs.Replies.{Reply}
use Rattle.kh_runs.specs.Told.{Seen}
use Rattle.line_reader.specs.Advances.{IsAdvanced}
use Rattle.line_answers.specs.Frames.{AreFrames, IsAnswerOrNone, IsAnswerTo, first_line}
use Rattle.line_answers.specs.Answered.{AreAllAnswered}
use Rattle.line_answers.specs.ListRuns.{EndsLines}
use Rattle.line_answers.specs.Questions.{asked_by, numbered_line, questions}
use Rattle.line_answers.proofs.FrameLists.{AreFrames-append}
use Rattle.line_answers.proofs.Numbering.{questions-push}

-- bytes were taken of a source: lines that line feeds end, and what is buffered now
pub record IsReadTo (before after : Option (List ℕ)) (buffered : List ℕ) (lines : List (List ℕ)) : Type 0 where
  pub taken : List ℕ
  pub consumed : Consumes before after taken
  pub parts : taken ≡ flat_map with_feed lines ++ buffered
  pub whole : AllByRecursion HasNoLineFeed lines

-- questions are answered behind the first line
pub record IsWrittenTo (Answers : ℕ → List ℕ → Reply → Type 0) (fields : List ℕ) (lines : List (List ℕ)) (before after : Option (List ℕ))
    (whole : Bool) : Type 0 where
  pub text : List ℕ
  pub frames : AreFrames (IsAnswerOrNone Answers) (questions fields lines) text
  pub written : Appends before after (first_line ++ text)
  pub answers : whole ≡ true → AreFrames (IsAnswerTo Answers) (questions fields lines) text

-- lines were read and answered, and the next one has this number
pub record Progress (Answers : ℕ → List ℕ → Reply → Type 0) (fields : List ℕ) (source_before source_now sink_before sink_now : Seen)
    (buffered : List ℕ) (number : ℕ) (whole : Bool) : Type 0 where
  pub lines : List (List ℕ)
  pub count : number ≡ 1 + length lines
  pub read : IsReadTo source_before.bytes source_now.bytes buffered lines
  pub answered : IsWrittenTo Answers fields lines sink_before.bytes sink_now.bytes whole
  pub source_stayed : source_now.faults ≡ source_before.faults
  pub sink_stayed : sink_now.faults ≡ sink_before.faults

-- bytes are taken behind these lines
pub taken-behind : (before between after : Option (List ℕ)) (buffered rest bytes : List ℕ) (lines : List (List ℕ))
    → IsReadTo before between buffered lines → IsAdvanced buffered rest between after bytes
    → (taken : List ℕ) × Consumes before after taken × (taken ≡ flat_map with_feed lines ++ (bytes ++ rest))
taken-behind before between after buffered rest bytes lines read next = (
  read.taken ++ next.given,
  Consumes-trans before between after read.taken next.given read.consumed next.consumed,
  ap (λ l. l ++ next.given) read.parts ∙ append_assoc (flat_map with_feed lines) buffered next.given
      ∙ ap (λ l. flat_map with_feed lines ++ l) next.same,
)

AllByRecursion-push : (lines : List (List ℕ)) (line : List ℕ) → AllByRecursion HasNoLineFeed lines → HasNoLineFeed line
    → AllByRecursion HasNoLineFeed (lines ++ line ∷ [])
AllByRecursion-push [] line all one = (one, tt)
AllByRecursion-push (first ∷ lines) line all one = (all.0, AllByRecursion-push lines line all.1 one)

feeds-push : (lines : List (List ℕ)) (line : List ℕ)
    → flat_map with_feed (lines ++ line ∷ []) ≡ flat_map with_feed lines ++ with_feed line
feeds-push lines line =
    flat_map-append with_feed lines (line ∷ []) ∙ ap (λ l. flat_map with_feed lines ++ l) (append-nil (with_feed line))

-- a line more is read
pub IsReadTo-line : (before between after : Option (List ℕ)) (buffered rest line : List ℕ) (lines : List (List ℕ))
    → IsReadTo before between buffered lines → HasNoLineFeed line → IsAdvanced buffered rest between after (line ++ codes "\n")
    → IsReadTo before after rest (lines ++ line ∷ [])
IsReadTo-line before between after buffered rest line lines read none next =
    let took = taken-behind before between after buffered rest (with_feed line) lines read next in
    record {
      taken = took.0;
      consumed = took.1;
      parts = took.2 ∙ sym (append_assoc (flat_map with_feed lines) (with_feed line) rest) ∙ ap (λ l. l ++ rest) (sym (feeds-push lines line));
      whole = AllByRecursion-push lines line read.whole none;
    }

-- a line more is answered
pub IsWrittenTo-line : (Answers : ℕ → List ℕ → Reply → Type 0) (fields : List ℕ) (lines : List (List ℕ)) (line : List ℕ)
    (before between after : Option (List ℕ)) (whole later : Bool) → IsWrittenTo Answers fields lines before between whole
    → AreAllAnswered Answers (asked_by fields (numbered_line (1 + length lines) line)) between after later
    → IsWrittenTo Answers fields (lines ++ line ∷ []) before after (whole && later)
IsWrittenTo-line Answers fields lines line before between after whole later so_far more = record {
  text = so_far.text ++ more.text;
  frames = rw (questions-push fields lines line) (AreFrames-append (IsAnswerOrNone Answers) (questions fields lines)
      (asked_by fields (numbered_line (1 + length lines) line)) so_far.text more.text so_far.frames more.frames);
  written = subst (Appends before after) (append_assoc first_line so_far.text more.text)
      (Appends-trans before between after (first_line ++ so_far.text) more.text so_far.written more.written);
  answers = λ both. let parts = and_parts whole later both in
      rw (questions-push fields lines line) (AreFrames-append (IsAnswerTo Answers) (questions fields lines)
      (asked_by fields (numbered_line (1 + length lines) line)) so_far.text more.text (so_far.answers parts.0) (more.answers parts.1));
}

-- what was read ends lines, where no line feed is buffered
pub EndsLines-rest : (taken rest : List ℕ) (lines : List (List ℕ)) → taken ≡ flat_map with_feed lines ++ rest
    → AllByRecursion HasNoLineFeed lines → HasNoLineFeed rest → EndsLines taken lines
EndsLines-rest taken rest lines parts whole none = record { rest = rest; parts = parts; whole = whole; no_more = none }

-- what was read is all lines
pub CutsLines-rest : (taken rest : List ℕ) (lines : List (List ℕ)) → taken ≡ flat_map with_feed lines ++ rest
    → AllByRecursion HasNoLineFeed lines → HasNoLineFeed rest → CutsLines taken (lines ++ last_line rest)
CutsLines-rest taken rest lines parts whole none =
    record { first = lines; last = rest; parts = parts; all = refl; first_whole = whole; last_whole = none }

-- each line takes a byte
pub lines-are-bytes : (lines : List (List ℕ)) (rest : List ℕ) → length lines ≤ length (flat_map with_feed lines ++ rest)
lines-are-bytes [] rest = omega arith
lines-are-bytes (line ∷ lines) rest =
    let more = lines-are-bytes lines rest in
    let same : with_feed line ++ flat_map with_feed lines ++ rest ≡ line ++ (10 ∷ (flat_map with_feed lines ++ rest)) =
    append_assoc (with_feed line) (flat_map with_feed lines) rest ∙ append_assoc line (codes "\n") (flat_map with_feed lines ++ rest) in
    rw same (omega (arith, more, length-append line (10 ∷ (flat_map with_feed lines ++ rest))))
