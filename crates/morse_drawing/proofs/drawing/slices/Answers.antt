use Rattle.std.proofs.Common.{rules}
use Rattle.morse_drawing.proofs.Drawn.{faultless}
use Rattle.morse_drawing.proofs.StepLemmas.{page_begins, page_goes_on}
use Rattle.morse_drawing.proofs.drawing.slices.Goals as goal

pub steps-init : goal.steps-init
steps-init c = page_begins c.args.diagram.now c.blank-page.result c.crossings.ensures.accepted (search rules) c.blank-page.ensures

pub steps-preserved : goal.steps-preserved
steps-preserved c = page_goes_on c.args.diagram.now c.steps.counter _ _ c.steps.invariant (search rules)

pub returns-clause-faultless : goal.returns-clause-faultless
returns-clause-faultless c =
    faultless c.args.diagram.now c.push_loops.new.slices.items c.crossings.ensures.accepted c.steps.invariant.is_page.within (search rules)
