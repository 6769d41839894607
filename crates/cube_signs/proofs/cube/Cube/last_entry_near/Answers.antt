use Rattle.std.proofs.Common.{◌≡◌, ap, arith}
use Rattle.cube_signs.proofs.HeldPlaces.{outs-near}
use Rattle.cube_signs.proofs.cube.Cube.last_entry_near.Goals as goal

pub last_entry_of-requires-clause-outs : goal.last_entry_of-requires-clause-outs
last_entry_of-requires-clause-outs c =
    let near = c.args.near.now in
    let same : c.args.tail.state ≡ near.state = omega (arith, c.if-tail-near.true, ap (λ generator. generator.state) c.tail.view_is) in (
      c.args.p,
      c.args.bases.now,
      outs-near c.args.p c.args.self.now c.args.bases.now _ _ c.args.tail near.state near.outs.items same c.requires.tail.2 c.requires.near,
    )

pub returns-then-tail-near-clause-last : goal.returns-then-tail-near-clause-last
returns-then-tail-near-clause-last c =
    let near = c.args.near.now in
    let same : c.args.tail.state ≡ near.state = omega (arith, c.if-tail-near.true, ap (λ generator. generator.state) c.tail.view_is) in
    λ i j are tails.
    c.last_entry_of.ensures c.args.p c.args.bases.now i j c.requires.prime
    (outs-near c.args.p c.args.self.now c.args.bases.now i j c.args.tail near.state near.outs.items same tails c.requires.near) are tails
