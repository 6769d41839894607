-- What a run does to a source and a sink, where their bytes are known.
use Rattle.std.specs.Prelude.{◌≡◌, ◌≢◌, ℕ, ◌<◌, ◌≤◌, List, length, IfSome}
use Rattle.std.specs.declared.option.Option.{Option}
use Rattle.std.specs.Io.KnownBytes.{Appends, Consumes, IsAtEnd}
use Rattle.kh_io.specs.Faults.{Rose}
use Rattle.kh_io.specs.Prefixes.{AppendsPrefix}
use Rattle.kh_runs.specs.declared.reading.Input.{Input}
use Rattle.kh_runs.specs.declared.reading.Input.TheVariants.{Bytes, Refused}
use Rattle.kh_runs.specs.declared.status.Status.{Status}
use Rattle.kh_runs.specs.declared.status.Status.TheVariants.{NoMemory}
use Rattle.kh_runs.specs.Replies.{Reply}
use Rattle.kh_runs.specs.Refusals.{too_many_bytes}

-- what is known of a source or a sink at one moment: its bytes, those still to come or those written, and its count of faults
pub record Seen : Type 0 where
  pub bytes : Option (List ℕ)
  pub faults : ℕ

-- these bytes and this count
abbrev pub seen : Option (List ℕ) → ℕ → Seen
seen bytes faults = record { bytes = bytes; faults = faults }

-- a source has lost a prefix of its bytes, and nothing else, where its bytes are known
pub record IsTaken (before after : Option (List ℕ)) : Type 0 where
  pub bytes : List ℕ
  pub taken : Consumes before after bytes

-- a source that had no more bytes than a limit is read to its end, where its bytes are known
pub record IsReadOut (limit : ℕ) (before after : Option (List ℕ)) : Type 0 where
  pub read : IfSome before (λ bytes. length bytes ≤ limit → IsAtEnd after)

-- bytes are all that a source had left, where these are known, and no more than a limit; or there were more, and the reply is the line of
-- that limit
abbrev pub IsInput : ℕ → Option (List ℕ) → Input → Type 0
IsInput limit left (Bytes bytes) = (length bytes.items ≤ limit) × IfSome left (λ all. bytes.items ≡ all)
IsInput limit left (Refused reply) = (reply ≡ too_many_bytes limit) × IfSome left (λ all. limit < length all)

-- a status is that of a reply, and a sink has gained its bytes, where what is written is known
pub record Gives (reply : Reply) (ended : Status) (before after : Option (List ℕ)) : Type 0 where
  pub status : ended ≡ reply.status
  pub written : Appends before after reply.text

-- a sink has gained a prefix of the bytes of a reply, where what is written is known
abbrev pub GivesPrefix : Reply → Option (List ℕ) → Option (List ℕ) → Type 0
GivesPrefix reply before after = AppendsPrefix before after reply.text

-- nothing disturbed a run: neither count of faults rose in it or stood at its last value, and it did not end for want of memory
pub record IsUndisturbed (source_before source_after sink_before sink_after : Seen) (status : Status) : Type 0 where
  pub reading : ¬ Rose source_before.faults source_after.faults
  pub writing : ¬ Rose sink_before.faults sink_after.faults
  pub memory : status ≢ NoMemory
