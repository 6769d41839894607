-- The first crossings of the trefoil are places of a code that a program can number.
use Rattle.std.proofs.Common.{ℕ, ◌<◌, refl, arith, IsTrue}
use Rattle.kh_types.specs.Acceptance.{accepted, first_fault}
use Rattle.kh_types.specs.WorkedCodes.{trefoil}
use Rattle.kh_types.proofs.AcceptedLemmas.{HasArcsTwice-accepted}
use Rattle.crossing_maps.specs.Sites.{IsPlace}

trefoil-accepted : IsTrue (accepted trefoil)
unfolding accepted first_fault
trefoil-accepted = refl

pub trefoil-place : (k : ℕ) → k < 2 → IsPlace trefoil k
trefoil-place k below =
    record { twice = HasArcsTwice-accepted trefoil trefoil-accepted; crossing = omega (arith, below); fits = omega arith }
