use Rattle.std.proofs.Common.{◌≡◌, ap, arith}
use Rattle.std.proofs.lemmas.Result.{on_ok_weaker}
use Rattle.cube_signs.proofs.HeldPlaces.{outs-near}
use Rattle.cube_signs.proofs.cube.Cube.put_column_near.Goals as goal

pub put_column_of-requires-clause-outs : goal.put_column_of-requires-clause-outs
put_column_of-requires-clause-outs c =
    let near = c.args.near.now in
    let same : c.args.tail.state ≡ near.state = omega (arith, c.if-tail-near.true, ap (λ generator. generator.state) c.tail.view_is) in (
      c.args.p,
      c.args.bases.now,
      outs-near c.args.p c.args.self.now c.args.bases.now _ _ c.args.tail near.state near.outs.items same c.requires.tail.2 c.requires.near,
    )

pub returns-then-tail-near-clause-column : goal.returns-then-tail-near-clause-column
returns-then-tail-near-clause-column c =
    let near = c.args.near.now in
    let same : c.args.tail.state ≡ near.state = omega (arith, c.if-tail-near.true, ap (λ generator. generator.state) c.tail.view_is) in
    on_ok_weaker c.put_column_of.result
    (λ columns i j are tails.
    columns c.args.p c.args.bases.now i j c.requires.prime
    (outs-near c.args.p c.args.self.now c.args.bases.now i j c.args.tail near.state near.outs.items same tails c.requires.near) are tails)
    c.put_column_of.ensures
