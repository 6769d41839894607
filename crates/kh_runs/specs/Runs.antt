-- The promises of a run, whatever answers it.
use Rattle.std.specs.Prelude.{◌≡◌, ◌≢◌, ◌⊎◌, ℕ, List, [], IfOk, IfSome, OnOk, Result, Ok, Err}
use Rattle.std.specs.declared.option.Option.{Option}
use Rattle.std.specs.Io.KnownBytes.{Appends}
use Rattle.kh_io.specs.Faults.{Rose}
use Rattle.kh_runs.specs.declared.stop.ReplyStop.{ReplyStop}
use Rattle.kh_runs.specs.declared.stop.ReplyStop.TheVariants as stops
use Rattle.kh_runs.specs.declared.status.Status.{Status}
use Rattle.kh_runs.specs.declared.status.Status.TheVariants.{Usage, ReadFault, WriteFault, NoMemory}
use Rattle.kh_runs.specs.Statuses.{IsWhole}
use Rattle.kh_runs.specs.Replies.{Reply}
use Rattle.kh_runs.specs.Told.{Gives, GivesPrefix, IsReadOut, IsTaken, Seen}

-- what is asked of a run: which replies answer the bytes of an input, whether nothing is read for them, up to which limit something is,
-- and whether the request is none
pub record Request : Type 1 where
  pub Answers : List ℕ → Reply → Type 0
  pub ReadsNothing : Type 0
  pub ReadsUpTo : ℕ → Type 0
  pub IsUsage : Type 0

-- a reply answers some bytes: all that a source had left, where these are known
pub record AnswersSource (Answers : List ℕ → Reply → Type 0) (left : Option (List ℕ)) (reply : Reply) : Type 0 where
  pub bytes : List ℕ
  pub all : IfSome left (λ known. bytes ≡ known)
  pub answers : Answers bytes reply

-- a reply is an answer whatever the bytes of the input are
abbrev pub IsBlind : (List ℕ → Reply → Type 0) → Reply → Type 0
IsBlind Answers reply = (bytes : List ℕ) → Answers bytes reply

-- a run has come to a reply to a request, or to a stop without one, before it writes; the source was as seen before and after it, and
-- may be the same
pub record IsReplied (request : Request) (source_before source_after : Seen) (same_source : Type 0)
    (made : Result Reply ReplyStop) : Type 0 where
  pub answered : IfOk made (AnswersSource request.Answers source_before.bytes)
  pub blind : request.ReadsNothing → IfOk made (IsBlind request.Answers)
  pub whole : IfOk made (λ reply. IsWhole reply.status)
  pub usage_only : IfOk made (λ reply. reply.status ≡ Usage → request.IsUsage)
  pub unread : request.ReadsNothing → same_source
  pub taken : IsTaken source_before.bytes source_after.bytes
  pub read_out : (limit : ℕ) → request.ReadsUpTo limit → OnOk made (IsReadOut limit source_before.bytes source_after.bytes)
  pub fault : made ≡ Err stops.ReadFault → Rose source_before.faults source_after.faults
  pub stayed : made ≢ Err stops.ReadFault → source_after.faults ≡ source_before.faults

-- the status of a stop without a reply
abbrev pub status_of : ReplyStop → Status
status_of stops.ReadFault = ReadFault
status_of stops.NoMemory = NoMemory

-- a sink has gained a reply, whole, without a fault, and the status is its status; or its count of faults rose, and it has gained a
-- prefix. Without a reply it is the same
abbrev pub IsWritten : Result Reply ReplyStop → Seen → Seen → Type 0 → Status → Type 0
IsWritten (Ok reply) before after same_sink status =
    (Gives reply status before.bytes after.bytes × (after.faults ≡ before.faults))
    ⊎ ((status ≡ WriteFault) × Rose before.faults after.faults × GivesPrefix reply before.bytes after.bytes)
IsWritten (Err stop) before after same_sink status =
    (status ≡ status_of stop) × same_sink × Appends before.bytes after.bytes [] × (after.faults ≡ before.faults)

-- a run on a request ended with this status; the source and the sink were as seen before and after it, and each may be the same
pub record IsRun (request : Request) (source_before source_after sink_before sink_after : Seen)
    (same_source same_sink : Type 0) (status : Status) : Type 0 where
  -- what is written is an answer, whole, and the status is its status: an answer to all that the source had left, or to some bytes where
  -- nothing is known of these
  pub answered : IsWhole status → (reply : Reply)
      × AnswersSource request.Answers source_before.bytes reply × Gives reply status sink_before.bytes sink_after.bytes
  -- a request for which nothing is read is answered so whatever the bytes are, and the source is not read
  pub blind_answered : request.ReadsNothing → IsWhole status
      → (reply : Reply) × IsBlind request.Answers reply × Gives reply status sink_before.bytes sink_after.bytes
  pub unread : request.ReadsNothing → same_source
  pub usage_only : status ≡ Usage → request.IsUsage
  -- the source loses a prefix of its bytes, and a request for which it is read takes all, those beyond the limit excepted
  pub taken : IsTaken source_before.bytes source_after.bytes
  pub read_out : (limit : ℕ) → request.ReadsUpTo limit → status ≢ ReadFault → status ≢ NoMemory
      → IsReadOut limit source_before.bytes source_after.bytes
  -- a fault comes only where its count rose, and without one the count is what it was
  pub read_fault : status ≡ ReadFault → Rose source_before.faults source_after.faults
  pub write_fault : status ≡ WriteFault → Rose sink_before.faults sink_after.faults
  pub quiet_source : status ≢ ReadFault → source_after.faults ≡ source_before.faults
  pub quiet_sink : status ≢ WriteFault → sink_after.faults ≡ sink_before.faults
  -- the sink keeps what it had, and gains some bytes behind it, whatever is known of the source
  pub gained : (bytes : List ℕ) × Appends sink_before.bytes sink_after.bytes bytes
  -- on a fault of reading and out of memory nothing is written, and on a fault of writing a prefix of an answer
  pub unwritten : (status ≡ ReadFault) ⊎ (status ≡ NoMemory) → same_sink
  pub prefix_written : status ≡ WriteFault → (reply : Reply)
      × AnswersSource request.Answers source_before.bytes reply × GivesPrefix reply sink_before.bytes sink_after.bytes
  pub blind_prefix : request.ReadsNothing → status ≡ WriteFault
      → (reply : Reply) × IsBlind request.Answers reply × GivesPrefix reply sink_before.bytes sink_after.bytes
  -- where no count rose, the answer is written, unless there was no memory
  pub complete : ¬ Rose source_before.faults source_after.faults → ¬ Rose sink_before.faults sink_after.faults
      → IsWhole status ⊎ (status ≡ NoMemory)
