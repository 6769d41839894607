use Rattle.std.proofs.Common.{arith, take, length-take}
use Rattle.tangle_scan.proofs.TallyLemmas.{tallied-few}
use Rattle.tangle_scan.proofs.finished.counting.tallies_of.Goals as goal

pub count_object-requires : goal.count_object-requires
count_object-requires c =
    omega (
      arith,
      tallied-few (take c.objects.object-index c.args.objects.now) c.objects.tallies.items c.objects.invariant,
      length-take c.objects.object-index c.args.objects.now,
    )

pub returns-clause-few : goal.returns-clause-few
returns-clause-few c =
    omega (
      arith,
      tallied-few (take c.objects.object-index c.args.objects.now) c.objects.tallies.items c.objects.invariant,
      length-take c.objects.object-index c.args.objects.now,
    )
