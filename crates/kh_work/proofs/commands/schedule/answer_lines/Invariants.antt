use Rattle.std.proofs.Common.{◌≡◌, take, string_bytes}
use Rattle.std.specs.List.{flat_map}
use Rattle.kh_work.specs.Schedule.{answer_line}
use Rattle.kh_work.proofs.commands.schedule.answer_lines.Given as goal

abbrev pub invariant-lines : goal.invariant-lines
invariant-lines l = string_bytes l.text ≡ flat_map answer_line (take l.line-index l.lines)
