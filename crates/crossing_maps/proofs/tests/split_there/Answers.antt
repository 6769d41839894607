use Rattle.std.proofs.Common.{subst}
use Rattle.kh_types.specs.WorkedCodes.{trefoil}
use Rattle.added_crossing_laws.specs.Pairings.{IsPairingOf}
use Rattle.tangle_maps.specs.Pairings.{joins_of}
use Rattle.crossing_maps.proofs.Composable.{slots-numbered}
use Rattle.crossing_maps.proofs.PairedPartners.{partners-paired}
use Rattle.crossing_maps.proofs.PlaceLaws.{around-there}
use Rattle.crossing_maps.proofs.TrefoilPlaces.{trefoil-place}
use Rattle.crossing_maps.proofs.tests.split_there.Goals as goal

pub split_at-requires : goal.split_at-requires
split_at-requires c =
    let is = around-there trefoil c.args.place c.args.site.now (trefoil-place c.args.place c.requires.place) c.requires.site in
    record {
      opened = is.opened.below;
      near = is.around.below;
      room = is.around.fits;
      next = is.next.below;
      arcs = slots-numbered c.args.site.now is;
    }

pub returns : goal.returns
returns c =
    let place = trefoil-place c.args.place c.requires.place in
    let site = c.requires.site in
    let pairs = joins_of c.args.pairing.now.partners c.args.site.now.opened.now in
    let paired = subst (λ xs. IsPairingOf xs pairs) site.before
    (partners-paired c.args.pairing.now.partners c.args.site.now.opened.now c.requires.arcs c.args.pairing.now.paired) in
    record {
      among = paired.among;
      pairs = c.split_at.ensures.pairs trefoil c.args.place place site paired;
      circles = c.split_at.ensures.closed trefoil c.args.place place site paired;
    }
