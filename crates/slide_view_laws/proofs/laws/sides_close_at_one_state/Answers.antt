use Rattle.slide_view_laws.proofs.TableFacts.{closing-mixed}
use Rattle.slide_view_laws.proofs.SlideFacts.{close-old, close-new, show-old, show-new}
use Rattle.slide_view_laws.proofs.laws.sides_close_at_one_state.Goals as goal

pub returns-clause-mixed : goal.returns-clause-mixed
returns-clause-mixed cx = closing-mixed

pub returns-clause-close_before : goal.returns-clause-close_before
returns-clause-close_before cx old new c d e p q r n base state arcs slid at = close-old old new c d e p q r arcs slid n base state at

pub returns-clause-close_after : goal.returns-clause-close_after
returns-clause-close_after cx old new c d e p q r n base state arcs slid at = close-new old new c d e p q r arcs slid n base state at

pub returns-clause-show_before : goal.returns-clause-show_before
returns-clause-show_before cx old new c d e p q r n base state inner arcs slid below differs at =
    show-old old new c d e p q r arcs slid n base state inner below differs at

pub returns-clause-show_after : goal.returns-clause-show_after
returns-clause-show_after cx old new c d e p q r n base state inner arcs slid below differs at =
    show-new old new c d e p q r arcs slid n base state inner below differs at
