use Rattle.std.proofs.Common.{◌≡◌, ◌<◌, ℕ, get_or, length}
use Rattle.circle_smoothing.specs.declared.branches.TheConstants.{MEMBERS}
use Rattle.circle_smoothing.proofs.branches.numbers.Given as goal

abbrev pub invariant-numbers : goal.invariant-numbers
invariant-numbers l = record {
  numbers : (place : ℕ) → place < l.number → get_or l.numbers place 0 ≡ place;
  size : length l.numbers ≡ MEMBERS;
}
