use Rattle.std.proofs.lemmas.Bool.Decides.{nat_tests}
use Rattle.std.proofs.Common.{◌≡◌, ◌+◌, ◌*◌, arith, length}
use Rattle.cube_signs.proofs.SpanLemmas.{flags-all, flags-more}
use Rattle.cube_signs.proofs.cube.Cube.flags.Goals as goal

pub degrees-preserved : goal.degrees-preserved
degrees-preserved = grind (arith, nat_tests, flags-more)

pub returns : goal.returns
returns c =
    let all : c.degrees.k ≡ 2 * length c.args.self.now.crossings + 1 =
    omega (arith, c.degrees-test.false, c.degrees.auto.k-end, c.crossing_count.ensures.count) in
    flags-all c.args.self.now c.args.lowest.j c.degrees.flags.items c.degrees.k c.degrees.invariant all
