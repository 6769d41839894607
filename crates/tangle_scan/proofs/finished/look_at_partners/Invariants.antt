use Rattle.std.proofs.Common.{◌≡◌, length, take}
use Rattle.std.specs.Prelude.{All}
use Rattle.tangle_maps.specs.declared.pairing.TheConstants.{POINTS}
use Rattle.tangle_scan.proofs.finished.look_at_partners.Given as goal

abbrev pub invariant-objects : goal.invariant-objects
invariant-objects l = All (λ object. length object.pairing.partners ≡ POINTS) (take l.object-index l.objects)
