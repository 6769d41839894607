-- The replies to what passes a limit of a command.
use Rattle.std.specs.Prelude.{ℕ, ◌-◌, codes}
use Rattle.braid_maker.specs.declared.limits.TheConstants.{NUMBERS}
use Rattle.circle_smoothing.specs.declared.limits.TheConstants.{GENERATORS}
use Rattle.kh_runs.specs.Refusals.{limit_on}
use Rattle.kh_runs.specs.Replies.{Reply}

-- a diagram has more generators than a diagram whose homology is computed
abbrev pub too_many_generators : ℕ → Reply
too_many_generators count = limit_on (codes "generators") count GENERATORS

-- a number is none of a diagram
abbrev pub too_large_number : ℕ → Reply
too_large_number number = limit_on (codes "number") number (NUMBERS - 1)
