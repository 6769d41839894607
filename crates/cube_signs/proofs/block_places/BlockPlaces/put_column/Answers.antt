use Rattle.std.proofs.Common.{◌∙◌, ℕ, subst}
use Rattle.std.proofs.lemmas.Result.{on_ok_weaker}
use Rattle.cube_signs.specs.Columns.{IsColumn}
use Rattle.cube_signs.proofs.HeldPlaces.{column-held, tail-held}
use Rattle.cube_signs.proofs.block_places.BlockPlaces.put_column.Goals as goal

pub put_column_near-requires-clause-tail : goal.put_column_near-requires-clause-tail
put_column_near-requires-clause-tail g c = (
  _,
  _,
  tail-held g.F.PrimeField.P c.args.cube.now c.args.self.now c.requires.places c.args.k c.args.place c.index.result.now
      c.index-tail.result.now c.requires.degree c.requires.place c.index.ensures c.index-tail.ensures,
)

pub returns-clause-column : goal.returns-clause-column
returns-clause-column g c =
    on_ok_weaker c.put_column_near.result
    (λ columns.
    column-held g.F.PrimeField.P c.args.cube.now c.args.self.now c.requires.places c.args.k c.args.place c.index.result.now
    c.index-tail.result.now c.requires.degree c.requires.place c.index.ensures c.index-tail.ensures c.put_column_near.new.column.items
    (λ i j are tails.
    subst (λ (p : ℕ). IsColumn p c.args.cube.now i j c.index-tail.result.now c.put_column_near.new.column.items) c.P.ensures
    (columns i j (c.deref.ensures.value ∙ are) tails))) c.put_column_near.ensures.column
