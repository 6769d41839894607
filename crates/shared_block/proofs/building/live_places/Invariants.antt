use Rattle.std.proofs.Common.{◌≡◌, ◌*◌, ◌≤◌, ◌^◌}
use Rattle.shared_block.proofs.PlaceSums.{live_places_to}
use Rattle.shared_block.proofs.building.live_places.Given as goal

abbrev pub invariant-degrees : goal.invariant-degrees
invariant-degrees g l = (l.sum ≡ live_places_to l.complex.complex l.k) × (l.sum ≤ l.k * 2 ^ 32)
