-- The reply of the command `bench` to a number.
use Rattle.std.specs.Prelude.{ℕ, List, ◌++◌, codes, length, nat_lt, if◌then◌else◌}
use Rattle.std.specs.Fmt.{decimal}
use Rattle.kh_types.specs.Code.{Code}
use Rattle.kh_types.specs.Table.{table}
use Rattle.circle_smoothing.specs.GeneratorCounts.{generator_count}
use Rattle.homology_tables.specs.Tables.{total_of}
use Rattle.braid_maker.specs.Closures.{code_of_number}
use Rattle.braid_maker.specs.declared.limits.TheConstants.{NUMBERS}
use Rattle.kh_runs.specs.declared.status.Status.TheVariants.{Done}
use Rattle.kh_runs.specs.Replies.{Reply, reply_of}
use Rattle.kh_replies.specs.Limits.{too_large_number}
use Rattle.kh_runs.specs.Homology.{jones_line}
use Rattle.kh_work.specs.declared.commands.bench.BenchCounts.{BenchCounts}

-- a number, how many crossings, loops and generators a diagram has, and a dimension
abbrev pub bench_counts : ℕ → Code → ℕ → BenchCounts
bench_counts number code dimension = record {
  number = number;
  crossings = length code.crossings;
  loops = code.loops;
  generators = generator_count code;
  dimension = dimension;
}

-- the three lines of these counts
abbrev pub bench_lines : BenchCounts → List ℕ
bench_lines counts =
    codes "bench " ++ (decimal counts.number ++ (codes "\ncrossings " ++ (decimal counts.crossings
    ++ (codes " loops " ++ (decimal counts.loops ++ (codes " generators " ++ (decimal counts.generators
    ++ (codes "\ndimension " ++ (decimal counts.dimension ++ codes "\n")))))))))

-- these lines of a number and a diagram, the dimension being the sum of all dimensions of its homology table over the field of so many
-- elements, and the Jones line behind them
unfoldable pub bench_text : ℕ → ℕ → Code → List ℕ
bench_text field number code = bench_lines (bench_counts number code (total_of (table field code))) ++ jones_line code

-- this text of the diagram of a number, where there is one
abbrev pub bench_reply : ℕ → ℕ → Reply
bench_reply field number =
    if nat_lt number NUMBERS then reply_of Done (bench_text field number (code_of_number number)) else too_large_number number
