-- The exit statuses of a run, and which of them answer.
use Rattle.std.specs.Prelude.{ℕ}
use Rattle.kh_runs.specs.declared.status.Status.{Status}
use Rattle.kh_runs.specs.declared.status.Status.TheVariants.{Done, CodeRefused, Usage, ReadFault, WriteFault, NoMemory, Limit, MoveRefused}

-- the exit status that stands for a status
abbrev pub status_number : Status → ℕ
status_number Done = 0
status_number CodeRefused = 1
status_number Usage = 2
status_number ReadFault = 3
status_number WriteFault = 4
status_number NoMemory = 5
status_number Limit = 6
status_number MoveRefused = 7

-- the statuses on which a whole answer is written: all but those of a fault and of being out of memory
abbrev pub IsWhole : Status → Type 0
IsWhole Done = Unit {0}
IsWhole CodeRefused = Unit {0}
IsWhole Usage = Unit {0}
IsWhole ReadFault = ⊥
IsWhole WriteFault = ⊥
IsWhole NoMemory = ⊥
IsWhole Limit = Unit {0}
IsWhole MoveRefused = Unit {0}

-- the statuses of a reply to a command
abbrev pub IsReplyStatus : Status → Type 0
IsReplyStatus Done = Unit {0}
IsReplyStatus CodeRefused = Unit {0}
IsReplyStatus Limit = Unit {0}
IsReplyStatus MoveRefused = Unit {0}
IsReplyStatus _ = ⊥
