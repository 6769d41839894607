use Rattle.slide_view_laws.proofs.SlideFacts.{neighbours-old, neighbours-new, across-old, across-new, middle-both}
use Rattle.slide_view_laws.proofs.laws.slides_turn_the_triangle.Goals as goal

pub returns-clause-before : goal.returns-clause-before
returns-clause-before cx old new c d e p q r n base state other place arcs slid below at at_too =
    neighbours-old old new c d e p q r arcs slid n base state other place below at at_too

pub returns-clause-after : goal.returns-clause-after
returns-clause-after cx old new c d e p q r n base state other place arcs slid below at at_too =
    neighbours-new old new c d e p q r arcs slid n base state other place below at at_too

pub returns-clause-across_before : goal.returns-clause-across_before
returns-clause-across_before cx old new c d e p q r n base state other arcs slid at at_too =
    across-old old new c d e p q r arcs slid n base state other at at_too

pub returns-clause-across_after : goal.returns-clause-across_after
returns-clause-across_after cx old new c d e p q r n base state other arcs slid at at_too =
    across-new old new c d e p q r arcs slid n base state other at at_too

pub returns-clause-middle : goal.returns-clause-middle
returns-clause-middle cx old new c d e p q r n base state other place arcs slid below at at_too =
    middle-both old new c d e p q r arcs slid n base state other place below at at_too
