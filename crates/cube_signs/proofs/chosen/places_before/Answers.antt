use Rattle.std.proofs.lemmas.Bool.Decides.{nat_tests}
use Rattle.std.proofs.Common.{arith}
use Rattle.cube_signs.specs.Chosen.{chosen_before, has_minus}
use Rattle.cube_signs.proofs.ChosenLoops.{before-count}
use Rattle.cube_signs.proofs.ChosenPlaces.{before-small}
use Rattle.cube_signs.proofs.StateLists.{images-more}
use Rattle.cube_signs.proofs.chosen.places_before.Goals as goal

pub next_count-count-requires : goal.next_count-count-requires
next_count-count-requires = grind (arith, nat_tests, before-small)

pub names-preserved : goal.names-preserved
names-preserved c =
    let choice = has_minus c.args.circles.now in
    record {
      places =
          images-more (chosen_before choice c.args.names.now) c.names.before.items c.push.new.self.items c.names.count c.names.k
          c.names.invariant.places c.names.invariant.count c.in_ok-push.ensures.items;
      count =
          before-count choice c.args.names.now c.names.k c.names.count c.next_count-count.result c.has_minus.result
          c.index-names-k.result c.names.invariant.count c.names-test.true c.index-names-k.is c.has_minus.ensures
          c.next_count-count.ensures;
    }
