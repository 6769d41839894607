use Rattle.circle_smoothing.proofs.GeneratorLemmas.{length-generators}
use Rattle.circle_smoothing.proofs.laws.generators.generators_are_counted.Goals as goal

pub returns : goal.returns
returns c = length-generators
