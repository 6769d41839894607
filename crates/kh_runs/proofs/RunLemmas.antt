-- What is written of a reply is what a run promises, whatever answers it. There are four cases of how the reply was made and
-- written, and in each every promise of a run is met, or what it supposes is not so. The reply is written whole, with its own
-- status, and the sink had no fault; or the sink had one, and the first bytes of the reply are written; or the source had a
-- fault, or memory ran out, and nothing is written. At last, a run that no fault of reading, of writing or of memory disturbed
-- has written its answer whole.
use Rattle.std.proofs.Common.{◌≡◌, ◌⊎◌, inl, inr, [], take, sym, subst, refl, ◌∙◌, Result, Ok, Err}
use Rattle.std.specs.Io.KnownBytes.{Appends}
use Rattle.kh_io.specs.Faults.{Rose}
use Rattle.kh_runs.specs.declared.stop.ReplyStop.{ReplyStop}
use Rattle.kh_runs.specs.declared.stop.ReplyStop.TheVariants as stops
use Rattle.kh_runs.specs.declared.status.Status.{Status}
use Rattle.kh_runs.specs.declared.status.Status.TheVariants.{Usage, ReadFault, WriteFault, NoMemory}
use Rattle.kh_runs.specs.Replies.{Reply}
use Rattle.kh_runs.specs.Runs.{IsReplied, IsRun, IsWritten, Request}
use Rattle.kh_runs.specs.Statuses.{IsWhole}
use Rattle.kh_runs.specs.Told.{Gives, GivesPrefix, IsUndisturbed, Seen}

not_stopped : (status : Status) → IsWhole status → (status ≡ ReadFault) ⊎ (status ≡ NoMemory) → ⊥
not_stopped status whole (inl same) = subst IsWhole same whole
not_stopped status whole (inr same) = subst IsWhole same whole

not_both : (status : Status) → status ≡ WriteFault → (status ≡ ReadFault) ⊎ (status ≡ NoMemory) → ⊥
not_both status is (inl same) = let both : WriteFault ≡ ReadFault = sym is ∙ same in cc
not_both status is (inr same) = let both : WriteFault ≡ NoMemory = sym is ∙ same in cc

run_whole : (request : Request) (source_before source_after sink_before sink_after : Seen) (same_source same_sink : Type 0)
    (reply : Reply) (status : Status) → IsReplied request source_before source_after same_source (Ok reply)
    → Gives reply status sink_before.bytes sink_after.bytes → sink_after.faults ≡ sink_before.faults
    → IsRun request source_before source_after sink_before sink_after same_source same_sink status
run_whole request source_before source_after sink_before sink_after same_source same_sink reply status replied gives quiet =
    let whole : IsWhole status = subst IsWhole (sym gives.status) replied.whole in
    record {
      answered = λ w. (reply, replied.answered, gives);
      blind_answered = λ nothing w. (reply, replied.blind nothing, gives);
      usage_only = λ is. replied.usage_only (sym gives.status ∙ is);
      unread = replied.unread;
      taken = replied.taken;
      read_out = λ limit reads no_fault memory. replied.read_out limit reads;
      read_fault = λ is. absurd (subst IsWhole is whole);
      write_fault = λ is. absurd (subst IsWhole is whole);
      quiet_source = λ no_fault. replied.stayed (λ is. cc);
      quiet_sink = λ no_fault. quiet;
      unwritten = λ stopped. absurd (not_stopped status whole stopped);
      gained = (reply.text, gives.written);
      prefix_written = λ is. absurd (subst IsWhole is whole);
      blind_prefix = λ nothing is. absurd (subst IsWhole is whole);
      complete = λ read wrote. inl whole;
    }

run_cut : (request : Request) (source_before source_after sink_before sink_after : Seen) (same_source same_sink : Type 0)
    (reply : Reply) (status : Status) → IsReplied request source_before source_after same_source (Ok reply) → status ≡ WriteFault
    → Rose sink_before.faults sink_after.faults → GivesPrefix reply sink_before.bytes sink_after.bytes
    → IsRun request source_before source_after sink_before sink_after same_source same_sink status
run_cut request source_before source_after sink_before sink_after same_source same_sink reply status replied is_fault rose prefix =
    record {
      answered = λ whole. absurd (subst IsWhole is_fault whole);
      blind_answered = λ nothing whole. absurd (subst IsWhole is_fault whole);
      usage_only = λ is. let both : WriteFault ≡ Usage = sym is_fault ∙ is in absurd (cc);
      unread = replied.unread;
      taken = replied.taken;
      read_out = λ limit reads no_fault memory. replied.read_out limit reads;
      read_fault = λ is. absurd (not_both status is_fault (inl is));
      write_fault = λ is. rose;
      quiet_source = λ no_fault. replied.stayed (λ is. cc);
      quiet_sink = λ no_fault. absurd (no_fault is_fault);
      unwritten = λ stopped. absurd (not_both status is_fault stopped);
      gained = (take prefix.count reply.text, prefix.written);
      prefix_written = λ is. (reply, replied.answered, prefix);
      blind_prefix = λ nothing is. (reply, replied.blind nothing, prefix);
      complete = λ read wrote. absurd (wrote rose);
    }

run_unread : (request : Request) (source_before source_after sink_before sink_after : Seen) (same_source same_sink : Type 0)
    (status : Status) → IsReplied request source_before source_after same_source (Err stops.ReadFault) → status ≡ ReadFault → same_sink
    → Appends sink_before.bytes sink_after.bytes [] → sink_after.faults ≡ sink_before.faults
    → IsRun request source_before source_after sink_before sink_after same_source same_sink status
run_unread request source_before source_after sink_before sink_after same_source same_sink status replied is_fault same nothing quiet =
    record {
      answered = λ whole. absurd (subst IsWhole is_fault whole);
      blind_answered = λ nothing whole. absurd (subst IsWhole is_fault whole);
      usage_only = λ is. let both : ReadFault ≡ Usage = sym is_fault ∙ is in absurd (cc);
      unread = replied.unread;
      taken = replied.taken;
      read_out = λ limit reads no_fault memory. absurd (no_fault is_fault);
      read_fault = λ is. replied.fault refl;
      write_fault = λ is. let both : ReadFault ≡ WriteFault = sym is_fault ∙ is in absurd (cc);
      quiet_source = λ no_fault. absurd (no_fault is_fault);
      quiet_sink = λ no_fault. quiet;
      unwritten = λ stopped. same;
      gained = ([], nothing);
      prefix_written = λ is. let both : ReadFault ≡ WriteFault = sym is_fault ∙ is in absurd (cc);
      blind_prefix = λ nothing is. let both : ReadFault ≡ WriteFault = sym is_fault ∙ is in absurd (cc);
      complete = λ read wrote. absurd (read (replied.fault refl));
    }

run_unmade : (request : Request) (source_before source_after sink_before sink_after : Seen) (same_source same_sink : Type 0)
    (status : Status) → IsReplied request source_before source_after same_source (Err stops.NoMemory) → status ≡ NoMemory → same_sink
    → Appends sink_before.bytes sink_after.bytes [] → sink_after.faults ≡ sink_before.faults
    → IsRun request source_before source_after sink_before sink_after same_source same_sink status
run_unmade request source_before source_after sink_before sink_after same_source same_sink status replied is_memory same nothing quiet =
    record {
      answered = λ whole. absurd (subst IsWhole is_memory whole);
      blind_answered = λ nothing whole. absurd (subst IsWhole is_memory whole);
      usage_only = λ is. let both : NoMemory ≡ Usage = sym is_memory ∙ is in absurd (cc);
      unread = replied.unread;
      taken = replied.taken;
      read_out = λ limit reads no_fault memory. absurd (memory is_memory);
      read_fault = λ is. let both : NoMemory ≡ ReadFault = sym is_memory ∙ is in absurd (cc);
      write_fault = λ is. let both : NoMemory ≡ WriteFault = sym is_memory ∙ is in absurd (cc);
      quiet_source = λ no_fault. replied.stayed (λ is. cc);
      quiet_sink = λ no_fault. quiet;
      unwritten = λ stopped. same;
      gained = ([], nothing);
      prefix_written = λ is. let both : NoMemory ≡ WriteFault = sym is_memory ∙ is in absurd (cc);
      blind_prefix = λ nothing is. let both : NoMemory ≡ WriteFault = sym is_memory ∙ is in absurd (cc);
      complete = λ read wrote. inr is_memory;
    }

-- whatever a run has come to, once that is written
pub IsRun-written : (request : Request) (source_before source_after sink_before sink_after : Seen)
    (same_source same_sink : Type 0) (made : Result Reply ReplyStop) (status : Status)
    → IsReplied request source_before source_after same_source made → IsWritten made sink_before sink_after same_sink status
    → IsRun request source_before source_after sink_before sink_after same_source same_sink status
IsRun-written request source_before source_after sink_before sink_after same_source same_sink (Ok reply) status replied (inl (gives, quiet)) =
    run_whole request source_before source_after sink_before sink_after same_source same_sink reply status replied gives quiet
IsRun-written request source_before source_after sink_before sink_after same_source same_sink (Ok reply) status replied (inr (is, rose, prefix)) =
    run_cut request source_before source_after sink_before sink_after same_source same_sink reply status replied is rose prefix
IsRun-written request source_before source_after sink_before sink_after same_source same_sink (Err stops.ReadFault) status replied (is, same, nothing, quiet) =
    run_unread request source_before source_after sink_before sink_after same_source same_sink status replied is same nothing quiet
IsRun-written request source_before source_after sink_before sink_after same_source same_sink (Err stops.NoMemory) status replied (is, same, nothing, quiet) =
    run_unmade request source_before source_after sink_before sink_after same_source same_sink status replied is same nothing quiet

-- a run that nothing disturbed has written its answer whole
pub whole-undisturbed : (request : Request) (source_before source_after sink_before sink_after : Seen)
    (same_source same_sink : Type 0) (status : Status)
    → IsRun request source_before source_after sink_before sink_after same_source same_sink status
    → IsUndisturbed source_before source_after sink_before sink_after status → IsWhole status
whole-undisturbed request source_before source_after sink_before sink_after same_source same_sink status is_run undisturbed =
    elim (is_run.complete undisturbed.reading undisturbed.writing) [
      | inl whole ↦ whole
      | inr is ↦ absurd (undisturbed.memory is)
    ]
