-- The reply of the command `reduced` to a diagram: its reduced homology (Khovanov 2003, section 3), in a text of this project's own.
use Rattle.std.specs.Prelude.{ℕ, List, ◌++◌, codes, nat_lt, if◌then◌else◌}
use Rattle.std.specs.Fmt.{decimal}
use Rattle.kh_types.specs.Code.{Code}
use Rattle.kh_types.specs.Table.{table_text}
use Rattle.circle_smoothing.specs.GeneratorCounts.{generator_count}
use Rattle.circle_smoothing.specs.declared.limits.TheConstants.{GENERATORS}
use Rattle.reduced_cube.specs.Reduced.{is_mark, reduced_table}
use Rattle.kh_runs.specs.declared.status.Status.TheVariants.{Done}
use Rattle.kh_runs.specs.Replies.{Reply, reply_of}
use Rattle.kh_runs.specs.Refusals.{refused_mark}
use Rattle.kh_replies.specs.Limits.{too_many_generators}
use Rattle.kh_runs.specs.Homology.{jones_line}

-- the line of a mark
abbrev pub mark_line : ℕ → List ℕ
mark_line mark = codes "mark " ++ (decimal mark ++ codes "\n")

-- the line of the mark, the text of the reduced homology table at it over the field of so many elements, and the Jones line of the
-- diagram behind it
unfoldable pub reduced_text : ℕ → ℕ → Code → List ℕ
reduced_text field mark code = mark_line mark ++ (table_text (reduced_table field code mark) ++ jones_line code)

-- this text, where the mark is an arc or a loop and then the cube has few enough generators
abbrev pub reduced_reply : ℕ → ℕ → Code → Reply
reduced_reply field mark code =
    if is_mark code mark
    then (if nat_lt GENERATORS (generator_count code) then too_many_generators (generator_count code)
    else reply_of Done (reduced_text field mark code))
    else refused_mark mark
