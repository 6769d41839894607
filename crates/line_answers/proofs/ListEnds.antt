-- The run of a list, as it ends.
use Rattle.std.proofs.lemmas.Bool.{and_parts}
use Rattle.std.proofs.Common.{◌≡◌, Bool, true, false, ◌&&◌, ◌≢◌, inl, inr, ℕ, ◌+◌, ◌-◌, ◌^◌, ◌≤◌, List, [], ◌∷◌, ◌++◌, length, take, refl, sym, ap, subst, ◌∙◌, append_assoc, append-nil, codes, arith, Option}
use Rattle.std.proofs.Math.Seq.{take-append-add}
use Rattle.std.proofs.lemmas.List.{length-append, length_push}
use Rattle.std.specs.Io.KnownBytes.{Appends, Consumes}
use Rattle.std.specs.List.{flat_map}
use Rattle.kh_io.specs.Faults.{Rose}
use Rattle.kh_io.proofs.KnownBytes.{Appends-trans}
use Rattle.kh_lex.specs.Lines.{CutsLines, last_line, with_feed}
use Rattle.kh_runs.specs.Replies.{Reply}
use Rattle.kh_runs.specs.Told.{Seen}
use Rattle.kh_runs.specs.declared.status.Status.TheVariants as statuses
use Rattle.line_reader.specs.Advances.{IsLineTaken, IsSpent, IsStopped}
use Rattle.line_reader.specs.Lines.{Kept}
use Rattle.line_reader.specs.declared.reading.LineStop.{LineStop}
use Rattle.line_reader.specs.declared.reading.LineStop.TheVariants as line_stops
use Rattle.line_answers.specs.Answered.{AreAllAnswered, ArePartlyAnswered}
use Rattle.line_answers.specs.Frames.{AreFrames, IsAnswerOrNone, IsAnswerTo, first_line}
use Rattle.line_answers.specs.ListRuns.{AreRead, IsListRun, WritesAnswers, WritesPrefix, end_status, frame_stop, line_stop, stop_status}
use Rattle.line_answers.specs.Questions.{Question, asked_by, numbered_line, questions}
use Rattle.line_answers.specs.declared.frame.FrameStop.{FrameStop}
use Rattle.line_answers.specs.declared.frame.FrameStop.TheVariants as frame_stops
use Rattle.line_answers.proofs.Endings.{IsCut-of, WritesAnswers-all, WritesAnswers-of, WritesPrefix-all, WritesPrefix-of, questions-append}
use Rattle.line_answers.proofs.FrameLists.{AreFrames-append}
use Rattle.line_answers.proofs.Numbering.{questions-last, questions-push}
use Rattle.line_answers.proofs.Progress.{CutsLines-rest, EndsLines-rest, IsReadTo-line, IsWrittenTo-line, Progress, lines-are-bytes, taken-behind}
use Rattle.line_reader.proofs.Taken.{Consumes-none}

-- there is no next line
pub IsListRun-stopped : (Answers : ℕ → List ℕ → Reply → Type 0) (fields : List ℕ) (source_before source_between source_after sink_before sink_after : Seen)
    (buffered rest : List ℕ) (number : ℕ) (whole : Bool) (stop : LineStop) → Progress Answers fields source_before source_between sink_before sink_after buffered number whole
    → IsStopped buffered rest source_between.bytes source_after.bytes stop
    → (stop ≡ line_stops.Fault → Rose source_between.faults source_after.faults)
    → (stop ≢ line_stops.Fault → source_after.faults ≡ source_between.faults)
    → IsListRun Answers fields source_before source_after sink_before sink_after (stop_status (line_stop stop))
IsListRun-stopped Answers fields source_before source_between source_after sink_before sink_after buffered rest number whole line_stops.Fault so_far stopped rose stayed =
    let took = taken-behind source_before.bytes source_between.bytes source_after.bytes buffered rest stopped.part so_far.lines so_far.read stopped.taken in
    let ended : took.0 ≡ flat_map with_feed so_far.lines ++ stopped.part =
    took.2 ∙ ap (λ l. flat_map with_feed so_far.lines ++ (stopped.part ++ l)) (stopped.emptied refl)
    ∙ ap (λ l. flat_map with_feed so_far.lines ++ l) (append-nil stopped.part) in
    let ends = EndsLines-rest took.0 stopped.part so_far.lines ended so_far.read.whole stopped.whole in
    let answered = so_far.answered in
    record {
      taken = took.0;
      consumed = took.1;
      lines = so_far.lines;
      read = inl ends;
      done = λ is. cc;
      read_fault = λ is. (
        subst (λ n. Rose n source_after.faults) so_far.source_stayed (rose refl),
        ends,
        record { text = answered.text; frames = answered.frames; written = answered.written },
      );
      write_fault = λ is. cc;
      begun = WritesPrefix-all Answers (questions fields so_far.lines) (questions fields so_far.lines) [] sink_before.bytes sink_after.bytes answered.text
          (sym (append-nil (questions fields so_far.lines))) answered.frames answered.written;
      memory = λ is. cc;
      limit = λ is. cc;
      ended = inr (inl refl);
      quiet_source = λ other. absurd (other refl);
      quiet_sink = λ _. so_far.sink_stayed;
    }
IsListRun-stopped Answers fields source_before source_between source_after sink_before sink_after buffered rest number whole line_stops.Limit so_far stopped rose stayed =
    let took = taken-behind source_before.bytes source_between.bytes source_after.bytes buffered rest stopped.part so_far.lines so_far.read stopped.taken in
    let cut = IsCut-of took.0 (stopped.part ++ rest) so_far.lines took.2 so_far.read.whole in
    let later = questions-append fields so_far.lines cut.more in
    let long = stopped.long refl in
    record {
      taken = took.0;
      consumed = took.1;
      lines = so_far.lines ++ cut.more;
      read = inl cut.ends;
      done = λ is. cc;
      read_fault = λ is. cc;
      write_fault = λ is. cc;
      begun = WritesPrefix-all Answers (questions fields (so_far.lines ++ cut.more)) (questions fields so_far.lines) later.0 sink_before.bytes sink_after.bytes
          so_far.answered.text later.1 so_far.answered.frames so_far.answered.written;
      memory = λ is. cc;
      limit = λ _. (
        rw took.2 (part-long (flat_map with_feed so_far.lines) stopped.part rest long),
        WritesAnswers-all Answers (questions fields (so_far.lines ++ cut.more)) (questions fields so_far.lines) later.0 sink_before.bytes sink_after.bytes
            so_far.answered.text later.1 so_far.answered.frames so_far.answered.written,
      );
      ended = inr (inr (inr (inl refl)));
      quiet_source = λ _. stayed (λ is. cc) ∙ so_far.source_stayed;
      quiet_sink = λ _. so_far.sink_stayed;
    }
  where
    part-long : (a b c : List ℕ) → 2 ^ 64 - 1 ≤ length b → 2 ^ 64 - 2 ≤ length (a ++ (b ++ c))
    part-long a b c long = omega (arith, long, length-append a (b ++ c), length-append b c)
IsListRun-stopped Answers fields source_before source_between source_after sink_before sink_after buffered rest number whole line_stops.NoMemory so_far stopped rose stayed =
    let took = taken-behind source_before.bytes source_between.bytes source_after.bytes buffered rest stopped.part so_far.lines so_far.read stopped.taken in
    let cut = IsCut-of took.0 (stopped.part ++ rest) so_far.lines took.2 so_far.read.whole in
    let later = questions-append fields so_far.lines cut.more in
    record {
      taken = took.0;
      consumed = took.1;
      lines = so_far.lines ++ cut.more;
      read = inl cut.ends;
      done = λ is. cc;
      read_fault = λ is. cc;
      write_fault = λ is. cc;
      begun = WritesPrefix-all Answers (questions fields (so_far.lines ++ cut.more)) (questions fields so_far.lines) later.0 sink_before.bytes sink_after.bytes
          so_far.answered.text later.1 so_far.answered.frames so_far.answered.written;
      memory = λ _. inr (WritesAnswers-all Answers (questions fields (so_far.lines ++ cut.more)) (questions fields so_far.lines) later.0 sink_before.bytes sink_after.bytes
          so_far.answered.text later.1 so_far.answered.frames so_far.answered.written);
      limit = λ is. cc;
      ended = inr (inr (inr (inr refl)));
      quiet_source = λ _. stayed (λ is. cc) ∙ so_far.source_stayed;
      quiet_sink = λ _. so_far.sink_stayed;
    }

-- the turns are at their end
pub IsListRun-limit : (Answers : ℕ → List ℕ → Reply → Type 0) (fields : List ℕ) (source_before source_after sink_before sink_after : Seen)
    (buffered : List ℕ) (number : ℕ) (whole : Bool) → Progress Answers fields source_before source_after sink_before sink_after buffered number whole → 2 ^ 64 - 1 ≤ number
    → IsListRun Answers fields source_before source_after sink_before sink_after statuses.Limit
IsListRun-limit Answers fields source_before source_after sink_before sink_after buffered number whole so_far many =
    let read = so_far.read in
    let cut = IsCut-of read.taken buffered so_far.lines read.parts read.whole in
    let later = questions-append fields so_far.lines cut.more in
    let bytes = lines-are-bytes so_far.lines buffered in
    record {
      taken = read.taken;
      consumed = read.consumed;
      lines = so_far.lines ++ cut.more;
      read = inl cut.ends;
      done = λ is. cc;
      read_fault = λ is. cc;
      write_fault = λ is. cc;
      begun = WritesPrefix-all Answers (questions fields (so_far.lines ++ cut.more)) (questions fields so_far.lines) later.0 sink_before.bytes sink_after.bytes
          so_far.answered.text later.1 so_far.answered.frames so_far.answered.written;
      memory = λ is. cc;
      limit = λ _. (
        rw read.parts (omega (arith, bytes, many, so_far.count)),
        WritesAnswers-all Answers (questions fields (so_far.lines ++ cut.more)) (questions fields so_far.lines) later.0 sink_before.bytes sink_after.bytes
            so_far.answered.text later.1 so_far.answered.frames so_far.answered.written,
      );
      ended = inr (inr (inr (inl refl)));
      quiet_source = λ _. so_far.source_stayed;
      quiet_sink = λ _. so_far.sink_stayed;
    }

-- all lines were read, and this is what they ask
record IsReadWhole (fields : List ℕ) (before after : Option (List ℕ)) (number : ℕ) (lines : List (List ℕ)) (rest : List ℕ) : Type 0 where
  taken : List ℕ
  consumed : Consumes before after taken
  cuts : CutsLines taken (lines ++ last_line rest)
  asked : questions fields (lines ++ last_line rest) ≡ questions fields lines ++ asked_by fields (numbered_line number rest)

IsReadWhole-of : (Answers : ℕ → List ℕ → Reply → Type 0) (fields : List ℕ) (source_before source_between source_after sink_before sink_between : Seen)
    (buffered rest : List ℕ) (number : ℕ) (whole : Bool) (found : Kept)
    → (so_far : Progress Answers fields source_before source_between sink_before sink_between buffered number whole)
    → (taken : IsLineTaken buffered rest source_between.bytes source_after.bytes [] found) → IsSpent rest source_after.bytes
    → IsReadWhole fields source_before.bytes source_after.bytes number so_far.lines taken.line
IsReadWhole-of Answers fields source_before source_between source_after sink_before sink_between buffered rest number whole found so_far taken spent =
    let took = taken-behind source_before.bytes source_between.bytes source_after.bytes buffered rest (taken.line ++ []) so_far.lines so_far.read taken.taken in
    let ended : took.0 ≡ flat_map with_feed so_far.lines ++ taken.line =
    took.2 ∙ ap (λ l. flat_map with_feed so_far.lines ++ ((taken.line ++ []) ++ l)) spent.1
    ∙ ap (λ l. flat_map with_feed so_far.lines ++ l) (append-nil (taken.line ++ []) ∙ append-nil taken.line) in
    record {
      taken = took.0;
      consumed = took.1;
      cuts = CutsLines-rest took.0 taken.line so_far.lines ended so_far.read.whole taken.whole;
      asked = questions-last fields so_far.lines taken.line
          ∙ ap (λ n. questions fields so_far.lines ++ asked_by fields (numbered_line n taken.line)) (sym so_far.count);
    }

-- what is behind the last line feed is answered: the list is at its end
pub IsListRun-done : (Answers : ℕ → List ℕ → Reply → Type 0) (fields : List ℕ) (source_before source_between source_after sink_before sink_between sink_after : Seen)
    (buffered rest : List ℕ) (number : ℕ) (whole later : Bool) (found : Kept)
    → Progress Answers fields source_before source_between sink_before sink_between buffered number whole
    → (taken : IsLineTaken buffered rest source_between.bytes source_after.bytes [] found) → IsSpent rest source_after.bytes
    → AreAllAnswered Answers (asked_by fields (numbered_line number taken.line)) sink_between.bytes sink_after.bytes later
    → source_after.faults ≡ source_between.faults → sink_after.faults ≡ sink_between.faults
    → IsListRun Answers fields source_before source_after sink_before sink_after (end_status (whole && later))
IsListRun-done Answers fields source_before source_between source_after sink_before sink_between sink_after buffered rest number whole later found so_far taken spent last source_stayed sink_stayed =
    go (whole && later) answers
  where
    all : IsReadWhole fields source_before.bytes source_after.bytes number so_far.lines taken.line
    all = IsReadWhole-of Answers fields source_before source_between source_after sink_before sink_between buffered rest number whole found so_far taken spent

    asked : List Question
    asked = questions fields (so_far.lines ++ last_line taken.line)

    text : List ℕ
    text = so_far.answered.text ++ last.text

    frames : AreFrames (IsAnswerOrNone Answers) asked text
    frames = rw all.asked (AreFrames-append (IsAnswerOrNone Answers) (questions fields so_far.lines) (asked_by fields (numbered_line number taken.line))
        so_far.answered.text last.text so_far.answered.frames last.frames)

    answers : (whole && later) ≡ true → AreFrames (IsAnswerTo Answers) asked text
    answers both = let parts = and_parts whole later both in
        rw all.asked (AreFrames-append (IsAnswerTo Answers) (questions fields so_far.lines) (asked_by fields (numbered_line number taken.line))
        so_far.answered.text last.text (so_far.answered.answers parts.0) (last.answers parts.1))

    written : Appends sink_before.bytes sink_after.bytes (first_line ++ text)
    written = subst (Appends sink_before.bytes sink_after.bytes) (append_assoc first_line so_far.answered.text last.text)
        (Appends-trans sink_before.bytes sink_between.bytes sink_after.bytes (first_line ++ so_far.answered.text) last.text so_far.answered.written last.written)

    go : (b : Bool) → (b ≡ true → AreFrames (IsAnswerTo Answers) asked text)
        → IsListRun Answers fields source_before source_after sink_before sink_after (end_status b)
    go true exact = record {
      taken = all.taken;
      consumed = all.consumed;
      lines = so_far.lines ++ last_line taken.line;
      read = inr (spent.0, all.cuts);
      done = λ _. (spent.0, all.cuts, record { text = text; frames = exact refl; written = written });
      read_fault = λ is. cc;
      write_fault = λ is. cc;
      begun = WritesPrefix-all Answers asked asked [] sink_before.bytes sink_after.bytes text (sym (append-nil asked)) frames written;
      memory = λ is. cc;
      limit = λ is. cc;
      ended = inl refl;
      quiet_source = λ _. source_stayed ∙ so_far.source_stayed;
      quiet_sink = λ _. sink_stayed ∙ so_far.sink_stayed;
    }
    go false exact = record {
      taken = all.taken;
      consumed = all.consumed;
      lines = so_far.lines ++ last_line taken.line;
      read = inr (spent.0, all.cuts);
      done = λ is. cc;
      read_fault = λ is. cc;
      write_fault = λ is. cc;
      begun = WritesPrefix-all Answers asked asked [] sink_before.bytes sink_after.bytes text (sym (append-nil asked)) frames written;
      memory = λ _. inr (WritesAnswers-all Answers asked asked [] sink_before.bytes sink_after.bytes text (sym (append-nil asked)) frames written);
      limit = λ is. cc;
      ended = inr (inr (inr (inr refl)));
      quiet_source = λ _. source_stayed ∙ so_far.source_stayed;
      quiet_sink = λ _. sink_stayed ∙ so_far.sink_stayed;
    }

-- what is written where a frame is not
record IsHalted (Answers : ℕ → List ℕ → Reply → Type 0) (all asked : List Question) (before after : Option (List ℕ)) (stop : FrameStop) : Type 0 where
  begun : WritesPrefix (IsAnswerOrNone Answers) all before after
  memory : stop ≡ frame_stops.NoMemory → (count : ℕ) × WritesAnswers (IsAnswerOrNone Answers) (take count all) before after

IsHalted-of : (Answers : ℕ → List ℕ → Reply → Type 0) (all answered asked later : List Question) (before between after : Option (List ℕ)) (text : List ℕ)
    (stop : FrameStop) → all ≡ (answered ++ asked) ++ later → AreFrames (IsAnswerOrNone Answers) answered text
    → Appends before between (first_line ++ text) → ArePartlyAnswered Answers asked between after stop → IsHalted Answers all asked before after stop
IsHalted-of Answers all answered asked later before between after text stop parts frames written part =
    let size = length (first_line ++ text) + part.size in
    let some : Appends before after (first_line ++ (text ++ take part.size part.text)) =
    subst (Appends before after) (append_assoc first_line text (take part.size part.text))
    (Appends-trans before between after (first_line ++ text) (take part.size part.text) written part.written) in
    let same : take size (first_line ++ (text ++ part.text)) ≡ first_line ++ (text ++ take part.size part.text) =
    ap (take size) (sym (append_assoc first_line text part.text)) ∙ take-append-add (first_line ++ text) part.text part.size
    ∙ append_assoc first_line text (take part.size part.text) in
    record {
      begun = WritesPrefix-of Answers all (answered ++ asked) later before after (text ++ part.text) size parts
          (AreFrames-append (IsAnswerOrNone Answers) answered asked text part.text frames part.frames) (subst (Appends before after) (sym same) some);
      memory = λ none. let count = part.whole none in
          WritesAnswers-of Answers all (answered ++ asked) later before after (text ++ take part.size part.text) (length answered + count.0) parts
          (rw (take-append-add answered asked count.0)
          (AreFrames-append (IsAnswerOrNone Answers) answered (take count.0 asked) text (take part.size part.text) frames count.1)) some;
    }

-- a frame is not written whole, or there is no memory for it
pub IsListRun-unwritten : (Answers : ℕ → List ℕ → Reply → Type 0) (fields : List ℕ) (source_before source_after sink_before sink_between sink_after : Seen)
    (taken : List ℕ) (all : List (List ℕ)) (stop : FrameStop) → Consumes source_before.bytes source_after.bytes taken
    → AreRead source_after.bytes taken all → (answered asked later : List Question) → questions fields all ≡ (answered ++ asked) ++ later
    → (text : List ℕ) → AreFrames (IsAnswerOrNone Answers) answered text → Appends sink_before.bytes sink_between.bytes (first_line ++ text)
    → ArePartlyAnswered Answers asked sink_between.bytes sink_after.bytes stop
    → (stop ≡ frame_stops.Fault → Rose sink_between.faults sink_after.faults) → (stop ≢ frame_stops.Fault → sink_after.faults ≡ sink_between.faults)
    → source_after.faults ≡ source_before.faults → sink_between.faults ≡ sink_before.faults
    → IsListRun Answers fields source_before source_after sink_before sink_after (stop_status (frame_stop stop))
IsListRun-unwritten Answers fields source_before source_after sink_before sink_between sink_after taken all frame_stops.Fault consumed read answered asked later parts text frames written part rose stayed source_stayed sink_stayed =
    let halted = IsHalted-of Answers (questions fields all) answered asked later sink_before.bytes sink_between.bytes sink_after.bytes text frame_stops.Fault parts frames written part in
    record {
      taken = taken;
      consumed = consumed;
      lines = all;
      read = read;
      done = λ is. cc;
      read_fault = λ is. cc;
      write_fault = λ _. subst (λ n. Rose n sink_after.faults) sink_stayed (rose refl);
      begun = halted.begun;
      memory = λ is. cc;
      limit = λ is. cc;
      ended = inr (inr (inl refl));
      quiet_source = λ _. source_stayed;
      quiet_sink = λ other. absurd (other refl);
    }
IsListRun-unwritten Answers fields source_before source_after sink_before sink_between sink_after taken all frame_stops.NoMemory consumed read answered asked later parts text frames written part rose stayed source_stayed sink_stayed =
    let halted = IsHalted-of Answers (questions fields all) answered asked later sink_before.bytes sink_between.bytes sink_after.bytes text frame_stops.NoMemory parts frames written part in
    record {
      taken = taken;
      consumed = consumed;
      lines = all;
      read = read;
      done = λ is. cc;
      read_fault = λ is. cc;
      write_fault = λ is. cc;
      begun = halted.begun;
      memory = λ _. inr (halted.memory refl);
      limit = λ is. cc;
      ended = inr (inr (inr (inr refl)));
      quiet_source = λ _. source_stayed;
      quiet_sink = λ _. stayed (λ is. cc) ∙ sink_stayed;
    }

-- the frames of a line that a line feed ends are not written whole
pub IsListRun-ended : (Answers : ℕ → List ℕ → Reply → Type 0) (fields : List ℕ) (source_before source_between source_after sink_before sink_between sink_after : Seen)
    (buffered rest : List ℕ) (number : ℕ) (whole : Bool) (found : Kept) (stop : FrameStop)
    → Progress Answers fields source_before source_between sink_before sink_between buffered number whole
    → (taken : IsLineTaken buffered rest source_between.bytes source_after.bytes (codes "\n") found)
    → ArePartlyAnswered Answers (asked_by fields (numbered_line number taken.line)) sink_between.bytes sink_after.bytes stop
    → (stop ≡ frame_stops.Fault → Rose sink_between.faults sink_after.faults) → (stop ≢ frame_stops.Fault → sink_after.faults ≡ sink_between.faults)
    → source_after.faults ≡ source_between.faults
    → IsListRun Answers fields source_before source_after sink_before sink_after (stop_status (frame_stop stop))
IsListRun-ended Answers fields source_before source_between source_after sink_before sink_between sink_after buffered rest number whole found stop so_far taken part rose stayed source_stayed =
    let read = IsReadTo-line source_before.bytes source_between.bytes source_after.bytes buffered rest taken.line so_far.lines so_far.read taken.whole taken.taken in
    let cut = IsCut-of read.taken rest (so_far.lines ++ taken.line ∷ []) read.parts read.whole in
    let later = questions-append fields (so_far.lines ++ taken.line ∷ []) cut.more in
    let parts : questions fields ((so_far.lines ++ taken.line ∷ []) ++ cut.more)
    ≡ (questions fields so_far.lines ++ asked_by fields (numbered_line number taken.line)) ++ later.0 =
    later.1 ∙ ap (λ l. l ++ later.0) (questions-push fields so_far.lines taken.line
    ∙ ap (λ n. questions fields so_far.lines ++ asked_by fields (numbered_line n taken.line)) (sym so_far.count)) in
    IsListRun-unwritten Answers fields source_before source_after sink_before sink_between sink_after read.taken
    ((so_far.lines ++ taken.line ∷ []) ++ cut.more) stop read.consumed (inl cut.ends) (questions fields so_far.lines)
    (asked_by fields (numbered_line number taken.line)) later.0 parts so_far.answered.text so_far.answered.frames so_far.answered.written
    part rose stayed (source_stayed ∙ so_far.source_stayed) so_far.sink_stayed

-- those of what follows the last line feed are not
pub IsListRun-last : (Answers : ℕ → List ℕ → Reply → Type 0) (fields : List ℕ) (source_before source_between source_after sink_before sink_between sink_after : Seen)
    (buffered rest : List ℕ) (number : ℕ) (whole : Bool) (found : Kept) (stop : FrameStop)
    → Progress Answers fields source_before source_between sink_before sink_between buffered number whole
    → (taken : IsLineTaken buffered rest source_between.bytes source_after.bytes [] found) → IsSpent rest source_after.bytes
    → ArePartlyAnswered Answers (asked_by fields (numbered_line number taken.line)) sink_between.bytes sink_after.bytes stop
    → (stop ≡ frame_stops.Fault → Rose sink_between.faults sink_after.faults) → (stop ≢ frame_stops.Fault → sink_after.faults ≡ sink_between.faults)
    → source_after.faults ≡ source_between.faults
    → IsListRun Answers fields source_before source_after sink_before sink_after (stop_status (frame_stop stop))
IsListRun-last Answers fields source_before source_between source_after sink_before sink_between sink_after buffered rest number whole found stop so_far taken spent part rose stayed source_stayed =
    let all = IsReadWhole-of Answers fields source_before source_between source_after sink_before sink_between buffered rest number whole found so_far taken spent in
    IsListRun-unwritten Answers fields source_before source_after sink_before sink_between sink_after all.taken
    (so_far.lines ++ last_line taken.line) stop all.consumed (inr (spent.0, all.cuts)) (questions fields so_far.lines)
    (asked_by fields (numbered_line number taken.line)) [] (all.asked ∙ sym (append-nil _)) so_far.answered.text so_far.answered.frames so_far.answered.written
    part rose stayed (source_stayed ∙ so_far.source_stayed) so_far.sink_stayed

-- the first line is not written whole
pub IsListRun-unbegun : (Answers : ℕ → List ℕ → Reply → Type 0) (fields : List ℕ) (source sink_before sink_after : Seen) (count : ℕ)
    → Appends sink_before.bytes sink_after.bytes (take count first_line) → Rose sink_before.faults sink_after.faults
    → IsListRun Answers fields source source sink_before sink_after statuses.WriteFault
IsListRun-unbegun Answers fields source sink_before sink_after count written rose = record {
  taken = [];
  consumed = Consumes-none source.bytes;
  lines = [];
  read = inl (record { rest = []; parts = refl; whole = tt; no_more = refl });
  done = λ is. cc;
  read_fault = λ is. cc;
  write_fault = λ _. rose;
  begun = record { text = []; frames = refl; count = count; written = subst (λ l. Appends sink_before.bytes sink_after.bytes (take count l)) (sym (append-nil first_line)) written };
  memory = λ is. cc;
  limit = λ is. cc;
  ended = inr (inr (inl refl));
  quiet_source = λ _. refl;
  quiet_sink = λ other. absurd (other refl);
}

-- the first line is written
pub Progress-begun : (Answers : ℕ → List ℕ → Reply → Type 0) (fields : List ℕ) (source sink_before sink_after : Seen)
    → Appends sink_before.bytes sink_after.bytes first_line → sink_after.faults ≡ sink_before.faults
    → Progress Answers fields source source sink_before sink_after [] 1 true
Progress-begun Answers fields source sink_before sink_after written stayed = record {
  lines = [];
  count = refl;
  read = record { taken = []; consumed = Consumes-none source.bytes; parts = refl; whole = tt };
  answered = record {
    text = [];
    frames = refl;
    written = subst (Appends sink_before.bytes sink_after.bytes) (sym (append-nil first_line)) written;
    answers = λ _. refl;
  };
  source_stayed = refl;
  sink_stayed = stayed;
}

-- a line more is answered
pub Progress-line : (Answers : ℕ → List ℕ → Reply → Type 0) (fields : List ℕ) (source_before source_between source_after sink_before sink_between sink_after : Seen)
    (buffered rest : List ℕ) (number : ℕ) (whole later : Bool) (found : Kept)
    → Progress Answers fields source_before source_between sink_before sink_between buffered number whole
    → (taken : IsLineTaken buffered rest source_between.bytes source_after.bytes (codes "\n") found)
    → AreAllAnswered Answers (asked_by fields (numbered_line number taken.line)) sink_between.bytes sink_after.bytes later
    → source_after.faults ≡ source_between.faults → sink_after.faults ≡ sink_between.faults
    → Progress Answers fields source_before source_after sink_before sink_after rest (number + 1) (whole && later)
Progress-line Answers fields source_before source_between source_after sink_before sink_between sink_after buffered rest number whole later found so_far taken more source_stayed sink_stayed = record {
  lines = so_far.lines ++ taken.line ∷ [];
  count = omega (arith, so_far.count, length_push so_far.lines taken.line);
  read = IsReadTo-line source_before.bytes source_between.bytes source_after.bytes buffered rest taken.line so_far.lines so_far.read taken.whole taken.taken;
  answered = IsWrittenTo-line Answers fields so_far.lines taken.line sink_before.bytes sink_between.bytes sink_after.bytes whole later so_far.answered
      (subst (λ (n : ℕ). AreAllAnswered Answers (asked_by fields (numbered_line n taken.line)) sink_between.bytes sink_after.bytes later) so_far.count more);
  source_stayed = source_stayed ∙ so_far.source_stayed;
  sink_stayed = sink_stayed ∙ so_far.sink_stayed;
}

-- nothing is read or written for want of memory
pub IsListRun-unmade : (Answers : ℕ → List ℕ → Reply → Type 0) (fields : List ℕ) (source sink_before sink_after : Seen)
    → Appends sink_before.bytes sink_after.bytes [] → sink_after.faults ≡ sink_before.faults
    → IsListRun Answers fields source source sink_before sink_after statuses.NoMemory
IsListRun-unmade Answers fields source sink_before sink_after nothing stayed = record {
  taken = [];
  consumed = Consumes-none source.bytes;
  lines = [];
  read = inl (record { rest = []; parts = refl; whole = tt; no_more = refl });
  done = λ is. cc;
  read_fault = λ is. cc;
  write_fault = λ is. cc;
  begun = record { text = []; frames = refl; count = 0; written = nothing };
  memory = λ _. inl nothing;
  limit = λ is. cc;
  ended = inr (inr (inr (inr refl)));
  quiet_source = λ _. refl;
  quiet_sink = λ _. stayed;
}
