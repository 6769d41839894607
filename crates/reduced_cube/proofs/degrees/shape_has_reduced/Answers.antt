use Rattle.std.proofs.Common.{arith}
use Rattle.std.proofs.lemmas.Int.{ints}
use Rattle.reduced_cube.proofs.DegreeLemmas.{reduced-given}
use Rattle.reduced_cube.proofs.degrees.shape_has_reduced.Goals as goal

pub returns : goal.returns
returns c =
    reduced-given c.args.shape c.args.j c.weight.result c.is_from_one.result c.weight.ensures
    (omega (arith, ints, c.ranges.j.sfits, c.requires)) c.is_from_one.ensures
