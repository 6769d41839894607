-- What a composition needs of the three pairings of a way.
use Rattle.std.proofs.Common.{◌≡◌, ℕ, ◌≤◌, List, length, subst, sym}
use Rattle.surface_laws.specs.Points.{ArePlaced, AreAmong, IsOpenPairing}
use Rattle.dotted_maps.proofs.Listed.{AreListed}
use Rattle.tangle_maps.specs.declared.pairing.TheConstants.{POINTS}
use Rattle.tangle_maps.specs.declared.way.Way.{Way}
use Rattle.tangle_maps.specs.Pairings.{ArePartners, IsOpened, joins_of, opened_points, paired_arcs}
use Rattle.tangle_maps.specs.Ways.{IsWay, joins_from, joins_over, joins_to, points_on}
use Rattle.tangle_maps.proofs.PairedLemmas.{paired, paired-among, paired-opened, paired-placed, paired-room}

pub record WayFacts (way : Way) : Type 0 where
  pub arcs : IsOpened way.opened.now
  pub room : length way.opened.now ≤ POINTS
  pub listed : AreListed (points_on way) (joins_from way) (joins_over way) (joins_to way)

-- the pairs of partners are among the opened arcs
among : (opened partners : List ℕ) → ArePartners partners → opened ≡ paired_arcs partners → AreAmong opened (joins_of partners opened)
among opened partners are is =
    subst (λ xs. AreAmong xs (joins_of partners xs)) (sym is) (paired-among partners are)

pub way-facts : (way : Way) → IsWay way → WayFacts way
way-facts way is =
    let partners = way.from.now.partners in
    record {
      arcs = subst (λ xs. IsOpened xs) (sym is.source) (paired-opened partners);
      room = subst (λ xs. length xs ≤ POINTS) (sym is.source) (paired-room partners);
      listed = record {
        placed = subst (λ xs. ArePlaced (opened_points xs)) (sym is.source) (paired-placed partners);
        pairing = subst (λ xs. IsOpenPairing (opened_points xs) (joins_of partners xs)) (sym is.source)
            (paired partners way.from.now.paired);
        first = among way.opened.now partners way.from.now.paired is.source;
        second = among way.opened.now way.over.now.partners way.over.now.paired is.middle;
        third = among way.opened.now way.to.now.partners way.to.now.paired is.target;
      };
    }
