use Rattle.std.proofs.Common.{◌≡◌, ℕ, ◌+◌, ◌<◌, take}
use Rattle.std.specs.Prelude.{min, slice_index}
use Rattle.tangle_maps.specs.declared.pairing.TheConstants.{POINTS}
use Rattle.tangle_maps.specs.Seams.{dots_on}
use Rattle.tangle_maps.proofs.seam.add_dots.Given as goal

abbrev pub invariant-places : goal.invariant-places
invariant-places l =
    (k : ℕ) → k < POINTS → slice_index l.loads k ≡ min 255 (slice_index l.initial.loads k + dots_on k l.dots (take l.place l.places))
