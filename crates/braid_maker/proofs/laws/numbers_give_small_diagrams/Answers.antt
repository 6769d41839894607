use Rattle.std.proofs.Common.{ℕ, ◌≤◌, arith}
use Rattle.circle_smoothing.specs.declared.limits.TheConstants.{GENERATORS}
use Rattle.circle_smoothing.specs.GeneratorCounts.{generator_count}
use Rattle.braid_maker.specs.Closures.{code_of_number}
use Rattle.braid_maker.proofs.Accepted.{number-is_accepted, number-is_small}
use Rattle.braid_maker.proofs.laws.numbers_give_small_diagrams.Goals as goal

within_limit : (count : ℕ) → count ≤ 472392 → count ≤ GENERATORS
within_limit count few = omega (arith, few)

pub returns : goal.returns
returns c = record {
  accepted = number-is_accepted;
  few = number-is_small;
  within = λ number. within_limit (generator_count (code_of_number number)) (number-is_small number);
}
