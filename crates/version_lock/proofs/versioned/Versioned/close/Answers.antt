use Rattle.std.proofs.Common.{rules, ap, ◌∙◌}
use Rattle.version_lock.proofs.RuleKept.{closes}
use Rattle.version_lock.proofs.versioned.Versioned.close.Goals as goal

pub returns-clause-origin : goal.returns-clause-origin
returns-clause-origin g c = (closes _ _ _ _ _ _ _ _ _ _ c.close_with-closed.ensures.values.2 c.take-value.ensures.value (search rules) (search rules) (search rules)).0 ∙ ap (λ l. l.origin) c.self.view_is

pub returns-clause-history : goal.returns-clause-history
returns-clause-history g c = (closes _ _ _ _ _ _ _ _ _ _ c.close_with-closed.ensures.values.2 c.take-value.ensures.value (search rules) (search rules) (search rules)).1 ∙ ap (λ s. s.seen) c.seat.view_is

pub returns-clause-mine : goal.returns-clause-mine
returns-clause-mine g c = rw (← c.seat.view_is, ← c.self.view_is) ((closes _ _ _ _ _ _ _ _ _ _ c.close_with-closed.ensures.values.2 c.take-value.ensures.value (search rules) (search rules) (search rules)).2)

pub returns-clause-first : goal.returns-clause-first
returns-clause-first g c = rw (← c.seat.view_is, ← c.self.view_is) ((closes _ _ _ _ _ _ _ _ _ _ c.close_with-closed.ensures.values.2 c.take-value.ensures.value (search rules) (search rules) (search rules)).3)
