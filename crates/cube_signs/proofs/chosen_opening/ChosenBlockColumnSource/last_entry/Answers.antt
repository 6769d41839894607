use Rattle.std.proofs.Common.{◌∙◌, ℕ, subst, arith}
use Rattle.cube_signs.specs.Columns.{IsLastOf}
use Rattle.cube_signs.proofs.HeldChosen.{heads-held, last-held, place-held, tail-held}
use Rattle.cube_signs.proofs.chosen_opening.ChosenBlockColumnSource.last_entry.Goals as goal

pub index-tail-requires : goal.index-tail-requires
index-tail-requires g c =
    omega (
      arith,
      place-held c.self.inside.chosen c.self.invariant c.self.view_is c.args.k c.args.place c.index.result.now c.requires.degree
          c.requires.place c.index.ensures,
      c.index.result.now.ok.0,
    )

pub last_entry_near-requires-clause-tail : goal.last_entry_near-requires-clause-tail
last_entry_near-requires-clause-tail g c = (
  _,
  _,
  tail-held c.self.inside.chosen c.self.invariant c.self.view_is c.args.k c.args.place c.index.result.now c.requires.degree
      c.requires.place c.index.ensures c.index-tail.result.now c.index-tail.ensures,
)

pub moved_last-requires : goal.moved_last-requires
moved_last-requires g c =
    heads-held c.self.inside.chosen c.self.invariant c.self.view_is c.args.k c.args.place c.index.result.now c.requires.degree
    c.requires.place c.index.ensures c.index-tail.result.now c.index-tail.ensures c.deref-2.result.now c.list_at.result.now
    c.list_at.ensures c.deref-2.ensures.value c.state_count.ensures.size

pub returns-clause-last : goal.returns-clause-last
returns-clause-last g c =
    let last = c.in_ok-last.last in
    last-held c.self.inside.chosen c.self.invariant c.self.view_is c.args.k c.args.place c.index.result.now c.requires.degree
    c.requires.place c.index.ensures c.index-tail.result.now c.index-tail.ensures c.deref-2.result.now c.list_at.result.now
    c.list_at.ensures c.deref-2.ensures.value last c.moved_last.result
    (λ i j are tails.
    subst (λ (p : ℕ). IsLastOf p c.self.inside.cube.now i j c.index-tail.result.now last) c.P.ensures
    (c.in_ok-last.ensures.last i j (c.deref.ensures.value ∙ are) tails)) c.moved_last.ensures
