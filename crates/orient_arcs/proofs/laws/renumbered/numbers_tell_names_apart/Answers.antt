use Rattle.code_passes.specs.Passes.{Pass}
use Rattle.code_passes.specs.Parts.{passes_through}
use Rattle.orient_arcs.proofs.PairedPasses.{in-counted}
use Rattle.orient_arcs.proofs.Bridge.{slot-renumbered, number-once, number-arc}
use Rattle.orient_arcs.proofs.laws.renumbered.numbers_tell_names_apart.Goals as goal

pub returns-clause-slots : goal.returns-clause-slots
returns-clause-slots c = slot-renumbered

pub returns-clause-apart : goal.returns-clause-apart
returns-clause-apart c = λ parts paired name other stands other_stands same.
    number-once parts paired name other (in-counted (λ (pass : Pass). pass.enters) (passes_through parts) name stands)
    (in-counted (λ (pass : Pass). pass.enters) (passes_through parts) other other_stands) same

pub returns-clause-arcs : goal.returns-clause-arcs
returns-clause-arcs c = λ parts paired name stands.
    number-arc parts paired name (in-counted (λ (pass : Pass). pass.enters) (passes_through parts) name stands)
