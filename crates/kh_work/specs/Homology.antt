-- The reply of the command `homology` to a diagram: its Khovanov homology (Bar-Natan 2002, section 3), in a text of this project's own.
use Rattle.std.specs.Prelude.{ℕ, nat_lt, if◌then◌else◌}
use Rattle.kh_types.specs.Code.{Code}
use Rattle.circle_smoothing.specs.GeneratorCounts.{generator_count}
use Rattle.circle_smoothing.specs.declared.limits.TheConstants.{GENERATORS}
use Rattle.kh_runs.specs.declared.status.Status.TheVariants.{Done}
use Rattle.kh_runs.specs.Replies.{Reply, reply_of}
use Rattle.kh_replies.specs.Limits.{too_many_generators}
use Rattle.kh_runs.specs.Homology.{homology_text}

-- the text of the homology table over the field of so many elements with the Jones line, where the cube has few enough generators
abbrev pub homology_reply : ℕ → Code → Reply
homology_reply field code =
    if nat_lt GENERATORS (generator_count code) then too_many_generators (generator_count code)
    else reply_of Done (homology_text field code)
