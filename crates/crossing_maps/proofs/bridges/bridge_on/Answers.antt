use Rattle.std.proofs.Common.{◌≤◌, length, subst, sym}
use Rattle.std.specs.List.{filter}
use Rattle.std.specs.Prelude.{slice_index}
use Rattle.std.proofs.lemmas.List.{length-map}
use Rattle.kh_types.specs.Classes.{is_least}
use Rattle.tangle_maps.specs.declared.pairing.TheConstants.{POINTS}
use Rattle.tangle_maps.specs.declared.seam.Seam.{Seam}
use Rattle.crossing_maps.specs.AddedSeams.{IsAddedSeam}
use Rattle.crossing_maps.specs.Counts.{on}
use Rattle.crossing_maps.specs.ListedPlaces.{places_in}
use Rattle.crossing_maps.proofs.bridges.bridge_on.Goals as goal

pub returns-clause-bridge : goal.returns-clause-bridge
returns-clause-bridge c =
    let f = slice_index c.args.classes.now in
    record {
      seam = subst (IsAddedSeam (filter (is_least c.args.classes.now) c.args.near.now) (on f (places_in c.args.places.now)))
          (sym c.new.ensures) c.seam_on-seam.ensures.seam;
      closed = sym (length-map c.args.places.now.closed.now f);
    }

pub returns-clause-circles : goal.returns-clause-circles
returns-clause-circles c =
    subst (λ (seam : Seam). length seam.second.items ≤ POINTS) (sym c.new.ensures) c.seam_on-seam.ensures.circles
