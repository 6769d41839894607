-- What a stop with a reply says.
use Rattle.kh_inputs.specs.declared.input.InputStop.{InputStop}
use Rattle.kh_inputs.specs.declared.input.InputStop.TheVariants as stops
use Rattle.kh_runs.specs.Replies.{Reply}

-- where there is a reply, this is a fact of it
abbrev pub StopsWith : (Reply → Type 0) → InputStop → Type 0
StopsWith Fact (stops.Refused reply) = Fact reply
StopsWith Fact stops.NoMemory = Unit {0}
