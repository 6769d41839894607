use Rattle.std.proofs.Common.{◌≡◌}
use Rattle.std.specs.Prelude.{All}
use Rattle.cube_signs.specs.Columns.{outs_to, edge_sign_at, IsSmallOut}
use Rattle.cube_signs.proofs.outs.find_outs.Given as goal

abbrev pub invariant-places : goal.invariant-places
invariant-places l = record {
  sign : l.sign ≡ edge_sign_at l.p l.state l.place;
  outs : l.outs.items ≡ outs_to l.p l.steps l.bases l.state l.place;
  small : All IsSmallOut l.outs.items;
}
