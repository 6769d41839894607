use Rattle.std.proofs.Common.{◌∙◌, ap}
use Rattle.braid_maker.specs.Closures.{closure}
use Rattle.braid_maker.proofs.numbered.from_number.Goals as goal

pub returns-clause-diagram : goal.returns-clause-diagram
returns-clause-diagram c = c.accepted_diagram.ensures ∙ c.closure.ensures.code ∙ ap (closure 3) (c.deref.ensures.0 ∙ c.letters_of.ensures.letters)
