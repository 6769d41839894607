-- What ends the making of a reduced table.
use Rattle.std.specs.Prelude.{◌≡◌, ℕ, ◌<◌, ◌≤◌, true, false}
use Rattle.kh_types.specs.Code.{Code}
use Rattle.circle_smoothing.specs.GeneratorCounts.{generator_count}
use Rattle.circle_smoothing.specs.declared.limits.TheConstants.{GENERATORS}
use Rattle.reduced_cube.specs.Reduced.{is_mark}
use Rattle.reduced_cube.specs.declared.stop.ReducedStop.{ReducedStop}
use Rattle.reduced_cube.specs.declared.stop.ReducedStop.TheVariants.{Mark, NoMemory, SizeLimit}

-- a mark that is neither an arc nor a loop is carried; else the number of generators, where it is above the limit; memory may run
-- out where neither is so
abbrev pub IsReducedStop : Code → ℕ → ReducedStop → Type 0
IsReducedStop code mark (Mark refused) = (is_mark code mark ≡ false) × (refused ≡ mark)
IsReducedStop code mark (SizeLimit generators) =
    (is_mark code mark ≡ true) × (GENERATORS < generator_count code) × (generators ≡ generator_count code)
IsReducedStop code mark NoMemory = (is_mark code mark ≡ true) × (generator_count code ≤ GENERATORS)
