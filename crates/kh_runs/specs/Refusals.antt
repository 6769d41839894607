-- The replies that refuse: the lines of refusals and limits that are known without a diagram.
use Rattle.std.specs.Prelude.{ℕ, ◌+◌, List, ◌++◌, codes}
use Rattle.std.specs.Fmt.{decimal}
use Rattle.kh_types.specs.declared.limits.TheConstants.{CROSSINGS, LOOPS}
use Rattle.kh_runs.specs.declared.status.Status.TheVariants.{CodeRefused, Usage, Limit}
use Rattle.kh_runs.specs.Replies.{Reply, reply_of}

-- the words give no command
abbrev pub usage : Reply
usage = reply_of Usage (codes "usage: kh COMMAND [OPTIONS]\n")

-- a code is refused, with words that say why
abbrev pub refused : List ℕ → Reply
refused words = reply_of CodeRefused (codes "refused " ++ (words ++ codes "\n"))

-- the same with a number behind the words
abbrev pub refused_with : List ℕ → ℕ → Reply
refused_with words number = reply_of CodeRefused (codes "refused " ++ (words ++ (decimal number ++ codes "\n")))

-- the same with two numbers, each behind words of its own
abbrev pub refused_with_both : List ℕ → ℕ → List ℕ → ℕ → Reply
refused_with_both words number more other =
    reply_of CodeRefused (codes "refused " ++ (words ++ (decimal number ++ (more ++ (decimal other ++ codes "\n")))))

-- a limit on things of a name is passed, by so many of them
abbrev pub limit_on : List ℕ → ℕ → ℕ → Reply
limit_on name count most =
    reply_of Limit (codes "limit " ++ (name ++ (codes " " ++ (decimal count ++ (codes " of " ++ (decimal most ++ codes "\n"))))))

-- a byte more than a limit was read
abbrev pub too_many_bytes : ℕ → Reply
too_many_bytes limit = limit_on (codes "bytes") (limit + 1) limit

-- a text, or two diagrams together, have more crossings than a diagram may have
abbrev pub too_many_crossings : ℕ → Reply
too_many_crossings count = limit_on (codes "crossings") count CROSSINGS

-- they have more loops than a text may have
abbrev pub too_many_loops : ℕ → Reply
too_many_loops count = limit_on (codes "loops") count LOOPS

-- a script has more lines than a limit
abbrev pub too_many_lines : ℕ → ℕ → Reply
too_many_lines count limit = limit_on (codes "lines") count limit

-- a script has a line that has words and is no command, and this is the number of the first
abbrev pub refused_line : ℕ → Reply
refused_line line = refused_with (codes "line ") line

-- a mark is neither an arc nor a loop of a diagram
abbrev pub refused_mark : ℕ → Reply
refused_mark mark = refused_with (codes "mark ") mark

-- a log has a line that fails, with this number, and for a cause with this word
abbrev pub refused_log_line : ℕ → List ℕ → Reply
refused_log_line line cause =
    reply_of CodeRefused (codes "refused log line " ++ (decimal line ++ (codes " " ++ (cause ++ codes "\n"))))
