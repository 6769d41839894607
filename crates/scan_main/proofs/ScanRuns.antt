-- A run over one diagram keeps the headline, and what a run has come to.
use Rattle.std.proofs.Common.{◌≡◌, ℕ, inl, inr, List, [], refl, sym, ap, subst, ◌∙◌, Result, Ok, Err, None, Some}
use Rattle.std.specs.Prelude.{IfOk, IfSome, OnOk}
use Rattle.std.specs.declared.option.Option.{Option}
use Rattle.kh_types.specs.Code.{Code}
use Rattle.kh_types.specs.declared.limits.TheConstants.{INPUT_BYTES}
use Rattle.line_reader.proofs.Taken.{Consumes-none}
use Rattle.word_line.specs.declared.command.WordStop.{WordStop}
use Rattle.word_line.specs.declared.command.WordStop.TheVariants as word_stops
use Rattle.word_line.specs.declared.scan_command.Fields.{Fields}
use Rattle.word_line.specs.declared.scan_command.ScanCommand.{ScanCommand}
use Rattle.word_line.specs.declared.scan_command.ScanCommand.TheVariants.{Alone, Each}
use Rattle.line_answers.specs.ListRuns.{IsListRun}
use Rattle.line_answers.proofs.ListEnds.{IsListRun-unmade}
use Rattle.word_line.specs.ScanCommands.{IsScanCommand, IsScanUsage}
use Rattle.kh_runs.specs.declared.status.Status.{Status}
use Rattle.kh_runs.specs.declared.status.Status.TheVariants.{Done, CodeRefused, Usage, ReadFault, WriteFault, NoMemory, Limit, MoveRefused}
use Rattle.kh_inputs.specs.DiagramReplies.{IsDiagramReply}
use Rattle.kh_inputs.specs.Inputs.{IsDiagramRead, IsDiagramText}
use Rattle.kh_runs.specs.Homology.{jones_line, homology_text}
use Rattle.kh_runs.specs.Replies.{Reply, reply_of}
use Rattle.kh_runs.specs.Runs.{AnswersSource, IsBlind, IsReplied, IsWritten, status_of}
use Rattle.kh_runs.specs.Statuses.{IsReplyStatus, IsWhole}
use Rattle.kh_runs.specs.Told.{Gives, IsReadOut, Seen}
use Rattle.kh_runs.specs.declared.stop.ReplyStop.{ReplyStop}
use Rattle.kh_runs.specs.declared.stop.ReplyStop.TheVariants as stops
use Rattle.kh_runs.proofs.RunLemmas.{IsRun-written, whole-undisturbed}
use Rattle.kh_runs.proofs.SourceAnswers.{AnswersSource-blind, AnswersSource-known, AnswersSource-other}
use Rattle.kh_inputs.proofs.TextFaults.{few_crossings-read}
use Rattle.kh_runs.proofs.WrittenHomology.{written-headline}
use Rattle.euler_laws.proofs.TableSums.{sum-table}
use Rattle.scan_main.specs.ScanRuns.{IsAnsweredOver, IsDoneFor, IsReadOver, IsReplyToNone, IsScanRun, KeepsScanHeadline}
use Rattle.line_answers.specs.Scans.{IsScanAnswer, IsScanReply, IsTableReply, IsTextReply, ReadsUpTo, request_of, scan_usage, sizes_of}
use Rattle.scan_main.proofs.ScanAnswers.{IsScanAnswer-one, IsScanCommand-size, alone-or-each, same-fields, table-reply}

pub IsScanAnswer-command : (words : List (List ℕ)) (bytes : List ℕ) (field : ℕ) (reply : Reply)
    → IsScanCommand words (Alone field) → IsScanReply field bytes reply → IsScanAnswer words bytes reply
unfolding IsScanAnswer
IsScanAnswer-command words bytes field reply meant replied = inl (field, meant, replied)

answered-command : {E : Type 0} (result : Result Reply E) (words : List (List ℕ)) (left : Option (List ℕ)) (field : ℕ)
    → IsScanCommand words (Alone field) → IfOk result (AnswersSource (IsScanReply field) left)
    → IfOk result (AnswersSource (IsScanAnswer words) left)
answered-command (Ok reply) words left field meant told =
    AnswersSource-other (IsScanReply field) (IsScanAnswer words) left reply
    (λ bytes. IsScanAnswer-command words bytes field reply meant) told
answered-command (Err stop) words left field meant told = tt

IsBlind-usage : (words : List (List ℕ)) (reply : Reply) → IsScanUsage words → reply ≡ scan_usage → IsBlind (IsScanAnswer words) reply
unfolding IsScanAnswer
IsBlind-usage words reply none is bytes = inr (none, is)

whole-status : (status : Status) → IsReplyStatus status → IsWhole status
whole-status Done is = tt
whole-status CodeRefused is = tt
whole-status Usage is = absurd is
whole-status ReadFault is = absurd is
whole-status WriteFault is = absurd is
whole-status NoMemory is = absurd is
whole-status Limit is = tt
whole-status MoveRefused is = tt

pub whole-replied : {E : Type 0} (result : Result Reply E) → IfOk result (λ reply. IsReplyStatus reply.status)
    → IfOk result (λ reply. IsWhole reply.status)
whole-replied (Ok reply) is = whole-status reply.status is
whole-replied (Err stop) is = tt

pub usage-replied : {E : Type 0} (result : Result Reply E) (P : Type 0) → IfOk result (λ reply. IsReplyStatus reply.status)
    → IfOk result (λ reply. reply.status ≡ Usage → P)
usage-replied (Ok reply) P is = λ is_usage. absurd (subst IsReplyStatus is_usage is)
usage-replied (Err stop) P is = tt

IsReadOut-command : {E : Type 0} (result : Result Reply E) (words : List (List ℕ)) (before after : Option (List ℕ))
    → OnOk result (IsReadOut INPUT_BYTES before after) → (limit : ℕ) → ReadsUpTo words limit → OnOk result (IsReadOut limit before after)
IsReadOut-command result words before after read limit reads =
    subst (λ (n : ℕ). OnOk result (IsReadOut n before after)) (sym reads.limited) read

-- words that ask for one diagram are answered over it
pub IsReplied-alone : (words : List (List ℕ)) (field : ℕ) (source_before source_after : Seen) (same_source : Type 0) (made : Result Reply ReplyStop)
    → IsScanCommand words (Alone field) → IsReadOver field source_before source_after made
    → IsReplied (request_of words) source_before source_after same_source made
IsReplied-alone words field source_before source_after same_source made meant read = record {
  answered = answered-command made words source_before.bytes field meant read.answered;
  blind = λ none. absurd (none (Alone field) meant);
  whole = whole-replied made read.status;
  usage_only = usage-replied made (IsScanUsage words) read.status;
  unread = λ none. absurd (none (Alone field) meant);
  taken = read.taken;
  read_out = IsReadOut-command made words source_before.bytes source_after.bytes read.read_out;
  fault = read.fault;
  stayed = read.stayed;
}

no-fault : (stop : ReplyStop) → stop ≡ stops.NoMemory → ◌≡◌ {A = Result Reply ReplyStop} (Err stop) (Err stops.ReadFault) → ⊥
no-fault stop is bad = cc

-- words that give no command get the usage line, or there is no memory
pub IsReplied-none : (words : List (List ℕ)) (source : Seen) (same_source : Type 0) (stop : WordStop) (made : Result Reply ReplyStop)
    → (stop ≡ word_stops.Usage → IsScanUsage words) → IsReplyToNone stop made → same_source
    → IsReplied (request_of words) source source same_source made
IsReplied-none words source same_source word_stops.Usage (Ok reply) none is same =
    let usage_of = none refl in
    record {
      answered = AnswersSource-blind (IsScanAnswer words) source.bytes reply (IsBlind-usage words reply usage_of is);
      blind = λ _. IsBlind-usage words reply usage_of is;
      whole = subst (λ (r : Reply). IsWhole r.status) (sym is) tt;
      usage_only = λ _. usage_of;
      unread = λ _. same;
      taken = record { bytes = []; taken = Consumes-none source.bytes };
      read_out = λ limit reads. absurd (usage_of (Alone reads.field) reads.meant);
      fault = λ bad. cc;
      stayed = λ _. refl;
    }
IsReplied-none words source same_source word_stops.Usage (Err stop) none is same = record {
  answered = tt;
  blind = λ _. tt;
  whole = tt;
  usage_only = tt;
  unread = λ _. same;
  taken = record { bytes = []; taken = Consumes-none source.bytes };
  read_out = λ limit reads. tt;
  fault = λ bad. absurd (no-fault stop is bad);
  stayed = λ _. refl;
}
IsReplied-none words source same_source word_stops.NoMemory (Ok reply) none is same = absurd is
IsReplied-none words source same_source word_stops.NoMemory (Err stop) none is same = record {
  answered = tt;
  blind = λ _. tt;
  whole = tt;
  usage_only = tt;
  unread = λ _. same;
  taken = record { bytes = []; taken = Consumes-none source.bytes };
  read_out = λ limit reads. tt;
  fault = λ bad. absurd (no-fault stop is bad);
  stayed = λ _. refl;
}

-- a text that is read as a diagram, or refused
pub IsDiagramReply-scanned : {E : Type 0} (result : Result Reply E) (field : ℕ) (text : List ℕ) (code : Code)
    → IsDiagramRead text (Ok code) → IfOk result (IsTableReply field code) → IfOk result (IsDiagramReply (IsTableReply field) text)
IsDiagramReply-scanned (Ok reply) field text code read answered = record { outcome = Ok code; read = read; answered = answered }
IsDiagramReply-scanned (Err stop) field text code read answered = tt

pub IsDiagramReply-refused : (field : ℕ) (text : List ℕ) (refusal : Reply) → IsDiagramRead text (Err refusal)
    → IsDiagramReply (IsTableReply field) text refusal
IsDiagramReply-refused field text refusal read = record { outcome = Err refusal; read = read; answered = refl }

-- the answer to the text of an accepted diagram is its table and the Jones line
table-answer : (words : List (List ℕ)) (bytes : List ℕ) (field : ℕ) (code : Code) → IsScanCommand words (Alone field)
    → IsDiagramText bytes code → IsScanAnswer words bytes (reply_of Done (homology_text field code))
table-answer words bytes field code meant text =
    IsScanAnswer-command words bytes field (reply_of Done (homology_text field code)) meant (table-reply bytes field code text)

pub headline-run : (words : List (List ℕ)) (source_before source_after sink_before sink_after : Seen)
    (same_source same_sink : Type 0) (status : Status)
    → IsScanRun words source_before source_after sink_before sink_after same_source same_sink status
    → KeepsScanHeadline words source_before source_after sink_before sink_after status
headline-run words source_before source_after sink_before sink_after same_source same_sink status is_run
    bytes field code is_bytes meant text undisturbed =
    let run = is_run.one (λ fields each. alone-or-each words field fields meant each) in
    let whole = whole-undisturbed (request_of words) source_before source_after sink_before sink_after same_source same_sink status run undisturbed in
    let told = run.answered whole in
    let answer = AnswersSource-known (IsScanAnswer words) source_before.bytes bytes told.0 is_bytes told.1 in
    written-headline status sink_before.bytes sink_after.bytes field code told.0
    (sum-table field code (IsScanCommand-size words field meant) text.is_accepted (few_crossings-read bytes code text.read))
    (IsScanAnswer-one words bytes told.0 (reply_of Done (homology_text field code)) answer (table-answer words bytes field code meant text))
    told.2

-- a run whose words ask for one diagram
IsScanRun-alone : (words : List (List ℕ)) (field : ℕ) (source_before source_after sink_before sink_after : Seen) (same_source same_sink : Type 0)
    (status : Status) → IsScanCommand words (Alone field)
    → IsAnsweredOver field source_before source_after sink_before sink_after same_sink status
    → IsScanRun words source_before source_after sink_before sink_after same_source same_sink status
IsScanRun-alone words field source_before source_after sink_before sink_after same_source same_sink status meant answered = record {
  one = λ no_list. IsRun-written (request_of words) source_before source_after sink_before sink_after same_source same_sink answered.made status
      (IsReplied-alone words field source_before source_after same_source answered.made meant answered.read) answered.written;
  list = λ fields each. absurd (alone-or-each words field fields meant each);
}

-- a run whose words ask for a list
IsScanRun-each : (words : List (List ℕ)) (fields : Fields) (source_before source_after sink_before sink_after : Seen) (same_source same_sink : Type 0)
    (status : Status) → IsScanCommand words (Each fields)
    → IsListRun IsTextReply (sizes_of fields) source_before source_after sink_before sink_after status
    → IsScanRun words source_before source_after sink_before sink_after same_source same_sink status
IsScanRun-each words fields source_before source_after sink_before sink_after same_source same_sink status meant run = record {
  one = λ no_list. absurd (no_list fields meant);
  list = λ others each.
      subst (λ (f : Fields). IsListRun IsTextReply (sizes_of f) source_before source_after sink_before sink_after status)
      (same-fields words fields others meant each) run;
}

-- a run whose words mean a command
pub IsScanRun-command : (words : List (List ℕ)) (command : ScanCommand) (source_before source_after sink_before sink_after : Seen)
    (same_source same_sink : Type 0) (status : Status) → IsScanCommand words command
    → IsDoneFor command source_before source_after sink_before sink_after same_sink status
    → IsScanRun words source_before source_after sink_before sink_after same_source same_sink status
IsScanRun-command words (Alone field) source_before source_after sink_before sink_after same_source same_sink status meant is =
    IsScanRun-alone words field source_before source_after sink_before sink_after same_source same_sink status meant is
IsScanRun-command words (Each fields) source_before source_after sink_before sink_after same_source same_sink status meant is =
    IsScanRun-each words fields source_before source_after sink_before sink_after same_source same_sink status meant is

-- a run without a command
pub IsScanRun-none : (words : List (List ℕ)) (source sink_before sink_after : Seen) (same_source same_sink : Type 0) (stop : WordStop)
    (made : Result Reply ReplyStop) (status : Status) → (stop ≡ word_stops.Usage → IsScanUsage words) → IsReplyToNone stop made → same_source
    → IsWritten made sink_before sink_after same_sink status
    → IsScanRun words source source sink_before sink_after same_source same_sink status
IsScanRun-none words source sink_before sink_after same_source same_sink stop made status none is same written = record {
  one = λ no_list. IsRun-written (request_of words) source source sink_before sink_after same_source same_sink made status
      (IsReplied-none words source same_source stop made none is same) written;
  list = λ fields each. list-none words fields source sink_before sink_after same_sink stop made status none is written each;
}
  where
    list-none : (words : List (List ℕ)) (fields : Fields) (source sink_before sink_after : Seen) (same_sink : Type 0) (stop : WordStop)
        (made : Result Reply ReplyStop) (status : Status) → (stop ≡ word_stops.Usage → IsScanUsage words) → IsReplyToNone stop made
        → IsWritten made sink_before sink_after same_sink status → IsScanCommand words (Each fields)
        → IsListRun IsTextReply (sizes_of fields) source source sink_before sink_after status
    list-none words fields source sink_before sink_after same_sink word_stops.Usage made status none is written each =
        absurd (none refl (Each fields) each)
    list-none words fields source sink_before sink_after same_sink word_stops.NoMemory (Ok reply) status none is written each = absurd is
    list-none words fields source sink_before sink_after same_sink word_stops.NoMemory (Err stop) status none is written each =
        rw (written.0 ∙ ap status_of is) (IsListRun-unmade IsTextReply (sizes_of fields) source sink_before sink_after written.2 written.3)
