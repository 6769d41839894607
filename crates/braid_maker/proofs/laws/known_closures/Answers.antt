use Rattle.std.proofs.Common.{refl}
use Rattle.std.specs.Fmt.{digits}
use Rattle.kh_types.specs.Acceptance.{first_fault, accepted}
use Rattle.braid_maker.proofs.laws.known_closures.Goals as goal

pub returns : goal.returns
unfolding digits first_fault accepted
returns c = record { pieces = refl; faces = refl; loops = refl; alone = refl; over = refl; trefoil = refl; accepted = refl; eight = refl; trefoil_jones = refl; number = refl; bench_loops = refl; bench_crossings = refl }
