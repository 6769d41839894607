-- A run over a list keeps its headline.
use Rattle.std.proofs.Common.{◌≡◌, ◌⊎◌, inl, inr, ℕ, ◌+◌, ◌≤◌, Bool, true, false, cond, List, [], ◌∷◌, ◌++◌, length, map, refl, sym, ap, subst, ◌∙◌, append-nil, arith, Option, None, Some}
use Rattle.std.proofs.lemmas.List.{length-append}
use Rattle.std.specs.List.{AllByRecursion, flat_map}
use Rattle.std.specs.Io.KnownBytes.{Consumes, IsAtEnd}
use Rattle.kh_types.specs.Code.{Code}
use Rattle.kh_lex.specs.Lines.{lines_of}
use Rattle.kh_lex.proofs.LineCuts.{lines_of-CutsLines}
use Rattle.line_reader.specs.Lines.{has_code}
use Rattle.word_line.specs.declared.scan_command.Fields.{Fields}
use Rattle.word_line.specs.declared.scan_command.Fields.TheVariants.{All, One}
use Rattle.word_line.specs.declared.scan_command.ScanCommand.TheVariants.{Each}
use Rattle.word_line.specs.ScanCommands.{IsScanCommand}
use Rattle.word_line.specs.Values.{IsFieldSize}
use Rattle.word_line.proofs.ScanReadings.{IsScanCommand-sizes}
use Rattle.kh_inputs.specs.Inputs.{IsDiagramText}
use Rattle.kh_runs.specs.Homology.{jones_line, homology_text}
use Rattle.kh_runs.specs.Replies.{Reply, reply_of}
use Rattle.kh_runs.specs.Told.{Seen}
use Rattle.kh_runs.specs.declared.status.Status.{Status}
use Rattle.kh_runs.specs.declared.status.Status.TheVariants.{Done, Limit, NoMemory, ReadFault, WriteFault}
use Rattle.kh_inputs.proofs.TextFaults.{few_crossings-read}
use Rattle.kh_runs.proofs.WrittenHomology.{homology_text-headline}
use Rattle.euler_laws.proofs.TableSums.{sum-table}
use Rattle.line_answers.specs.Frames.{AreFrames, IsAnswerTo}
use Rattle.line_answers.specs.ListRuns.{IsListRun, WritesAnswers}
use Rattle.line_answers.specs.Questions.{NumberedLine, Question, asked_by, numbered, question, questions}
use Rattle.line_answers.proofs.FrameLists.{AreFrames-map}
use Rattle.scan_main.specs.ScanRuns.{HasHomology, IsScanRun, IsTableTo, KeepsListHeadline}
use Rattle.line_answers.specs.Scans.{IsTextReply, sizes_of}
use Rattle.scan_main.proofs.ScanAnswers.{IsScanReply-one, table-reply}

-- the reply to the text of an accepted diagram is its homology
HasHomology-reply : (asked : Question) (reply : Reply) (code : Code) → IsFieldSize asked.field → IsDiagramText asked.line.bytes code
    → reply ≡ reply_of Done (homology_text asked.field code) → HasHomology asked.field code reply
HasHomology-reply asked reply code sized text is = record {
  status = ap (λ (r : Reply). r.status) is;
  text = ap (λ (r : Reply). r.text) is ∙ homology_text-headline asked.field code;
  sum = sum-table asked.field code sized text.is_accepted (few_crossings-read asked.line.bytes code text.read);
}

-- an answer over one of the four fields
pub IsTableTo-answer : (asked : Question) (reply : Reply) → IsFieldSize asked.field → IsAnswerTo IsTextReply asked reply → IsTableTo asked reply
IsTableTo-answer asked reply sized answer = record {
  answer = answer;
  homology = λ code text. HasHomology-reply asked reply code sized text
      (IsScanReply-one asked.field asked.line.bytes reply (reply_of Done (homology_text asked.field code)) answer
      (table-reply asked.line.bytes asked.field code text));
}

abbrev Sized : Question → Type 0
Sized asked = IsFieldSize asked.field

sized-over : (line : NumberedLine) (sizes : List ℕ) → AllByRecursion IsFieldSize sizes → AllByRecursion Sized (map (question line) sizes)
sized-over line [] all = tt
sized-over line (size ∷ sizes) all = (all.0, sized-over line sizes all.1)

sized-by : (sizes : List ℕ) (line : NumberedLine) → AllByRecursion IsFieldSize sizes → AllByRecursion Sized (asked_by sizes line)
sized-by sizes line all = go (has_code line.bytes)
  where
    go : (b : Bool) → AllByRecursion Sized (cond b (map (question line) sizes) [])
    go true = sized-over line sizes all
    go false = tt

sized-append : (first second : List Question) → AllByRecursion Sized first → AllByRecursion Sized second → AllByRecursion Sized (first ++ second)
sized-append [] second a b = b
sized-append (asked ∷ first) second a b = (a.0, sized-append first second a.1 b)

sized-lines : (sizes : List ℕ) (number : ℕ) (lines : List (List ℕ)) → AllByRecursion IsFieldSize sizes
    → AllByRecursion Sized (flat_map (asked_by sizes) (numbered number lines))
sized-lines sizes number [] all = tt
sized-lines sizes number (line ∷ lines) all =
    sized-append (asked_by sizes (record { number = number; bytes = line })) (flat_map (asked_by sizes) (numbered (number + 1) lines))
    (sized-by sizes (record { number = number; bytes = line }) all) (sized-lines sizes (number + 1) lines all)

-- the fields that words name are of the four
sizes-named : (words : List (List ℕ)) (fields : Fields) → IsScanCommand words (Each fields) → AllByRecursion IsFieldSize (sizes_of fields)
sizes-named words (One size) meant = (IsScanCommand-sizes words (Each (One size)) meant, tt)
sizes-named words All meant = (inl refl, (inr (inl refl), (inr (inr (inl refl)), (inr (inr (inr refl)), tt))))

-- all that a source had is taken where nothing is left
taken-whole : (before after : Option (List ℕ)) (bytes taken : List ℕ) → before ≡ Some bytes → Consumes before after taken → IsAtEnd after
    → taken ≡ bytes
taken-whole before after bytes taken is consumed ended = go after (subst (λ b. Consumes b after taken) is consumed) ended
  where
    go : (after : Option (List ℕ)) → Consumes (Some bytes) after taken → IsAtEnd after → taken ≡ bytes
    go None consumed ended = absurd consumed
    go (Some rest) consumed ended = sym (append-nil taken) ∙ ap (λ l. taken ++ l) (sym ended) ∙ sym consumed

-- no more than it had is taken
taken-within : (before after : Option (List ℕ)) (bytes taken : List ℕ) → before ≡ Some bytes → Consumes before after taken
    → length taken ≤ length bytes
taken-within before after bytes taken is consumed = go after (subst (λ b. Consumes b after taken) is consumed)
  where
    go : (after : Option (List ℕ)) → Consumes (Some bytes) after taken → length taken ≤ length bytes
    go None consumed = absurd consumed
    go (Some rest) consumed = omega (arith, ap length consumed, length-append taken rest)

pub headline-list : (words : List (List ℕ)) (source_before source_after sink_before sink_after : Seen) (same_source same_sink : Type 0) (status : Status)
    → IsScanRun words source_before source_after sink_before sink_after same_source same_sink status
    → KeepsListHeadline words source_before source_after sink_before sink_after status
headline-list words source_before source_after sink_before sink_after same_source same_sink status is_run bytes fields is_bytes short meant undisturbed =
    go run.ended
  where
    run : IsListRun IsTextReply (sizes_of fields) source_before source_after sink_before sink_after status
    run = is_run.list fields meant

    finished : status ≡ Done → (status ≡ Done) × WritesAnswers IsTableTo (questions (sizes_of fields) (lines_of bytes)) sink_before.bytes sink_after.bytes
    finished is =
        let done = run.done is in
        let lines : run.lines ≡ lines_of bytes =
        lines_of-CutsLines run.taken run.lines done.1
        ∙ ap lines_of (taken-whole source_before.bytes source_after.bytes bytes run.taken is_bytes run.consumed done.0) in (
          is,
          record {
            text = done.2.text;
            frames = AreFrames-map Sized (IsAnswerTo IsTextReply) IsTableTo IsTableTo-answer (questions (sizes_of fields) (lines_of bytes)) done.2.text
                (sized-lines (sizes_of fields) 1 (lines_of bytes) (sizes-named words fields meant))
                (subst (λ l. AreFrames (IsAnswerTo IsTextReply) (questions (sizes_of fields) l) done.2.text) lines done.2.frames);
            written = done.2.written;
          },
        )

    go : (status ≡ Done) ⊎ (status ≡ ReadFault) ⊎ (status ≡ WriteFault) ⊎ (status ≡ Limit) ⊎ (status ≡ NoMemory)
        → (status ≡ Done) × WritesAnswers IsTableTo (questions (sizes_of fields) (lines_of bytes)) sink_before.bytes sink_after.bytes
    go (inl is) = finished is
    go (inr (inl is)) = absurd (undisturbed.reading (run.read_fault is).0)
    go (inr (inr (inl is))) = absurd (undisturbed.writing (run.write_fault is))
    go (inr (inr (inr (inl is)))) =
        let long = run.limit is in
        let within = taken-within source_before.bytes source_after.bytes bytes run.taken is_bytes run.consumed in
        absurd (omega (arith, long, within, short))
    go (inr (inr (inr (inr is)))) = absurd (undisturbed.memory is)
