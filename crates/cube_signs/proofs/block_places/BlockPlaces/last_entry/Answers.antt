use Rattle.std.proofs.Common.{◌∙◌, ℕ, subst}
use Rattle.std.proofs.lemmas.Result.{IfOk-weaker}
use Rattle.cube_signs.specs.Columns.{IsLastOf}
use Rattle.cube_signs.proofs.HeldPlaces.{last-held, tail-held}
use Rattle.cube_signs.proofs.block_places.BlockPlaces.last_entry.Goals as goal

pub last_entry_near-requires-clause-tail : goal.last_entry_near-requires-clause-tail
last_entry_near-requires-clause-tail g c = (
  _,
  _,
  tail-held g.F.PrimeField.P c.args.cube.now c.args.self.now c.requires.places c.args.k c.args.place c.index.result.now
      c.index-tail.result.now c.requires.degree c.requires.place c.index.ensures c.index-tail.ensures,
)

pub returns-clause-last : goal.returns-clause-last
returns-clause-last g c =
    IfOk-weaker c.last_entry_near.result _ _
    (λ last lasts.
    last-held g.F.PrimeField.P c.args.cube.now c.args.self.now c.requires.places c.args.k c.args.place c.index.result.now
    c.index-tail.result.now c.requires.degree c.requires.place c.index.ensures c.index-tail.ensures last
    (λ i j are tails.
    subst (λ (p : ℕ). IsLastOf p c.args.cube.now i j c.index-tail.result.now last) c.P.ensures
    (lasts i j (c.deref.ensures.value ∙ are) tails))) c.last_entry_near.ensures.last
