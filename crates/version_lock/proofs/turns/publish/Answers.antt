use Rattle.std.proofs.Common.{rules, ap, ◌∙◌, ℕ, ◌+◌, sym}
use Rattle.version_lock.proofs.RuleKept.{commits_at}
use Rattle.version_lock.specs.Views.{grown}
use Rattle.version_lock.proofs.turns.publish.Goals as goal

pub store-requires : goal.store-requires
store-requires g c = let t = c.requires.grown.0 in (search rules, search rules, commits_at _ _ _ _ _ _ _ _ t.0 t.4.0 t.1 _ t.4.1 c.requires.grown.1 t.2 t.4.2 (ap (λ (n : ℕ). n + 1) t.3))

pub returns-clause-grown : goal.returns-clause-grown
returns-clause-grown g c = let t = c.requires.grown.0 in
    (t.4.0, t.4.1, c.store.ensures.2 _ _ t.2 t.4.1 ∙ ap (λ (n : ℕ). (grown c.args.seat.now.me.0 n (g.B.Held.history t.4.0), c.args.seat.now.me.1)) (sym t.3))
