-- The reply of the command `union` to two diagrams.
use Rattle.std.specs.Prelude.{nat_lt, if◌then◌else◌}
use Rattle.kh_types.specs.Code.{Code}
use Rattle.kh_types.specs.declared.limits.TheConstants.{CROSSINGS, LOOPS}
use Rattle.link_algebra.specs.Unions.{crossings_together, loops_together, union_of}
use Rattle.word_line.specs.declared.command.Form.TheVariants.{Pd}
use Rattle.kh_replies.specs.Convert.{convert_reply}
use Rattle.kh_runs.specs.Refusals.{too_many_crossings, too_many_loops}
use Rattle.kh_runs.specs.Replies.{Reply}

-- the disjoint union of two diagrams as a planar diagram text, unless they have too many crossings together, or else too many loops
abbrev pub union_reply : Code → Code → Reply
union_reply first second =
    if nat_lt CROSSINGS (crossings_together first second) then too_many_crossings (crossings_together first second)
    else if nat_lt LOOPS (loops_together first second) then too_many_loops (loops_together first second)
    else convert_reply Pd (union_of first second)
