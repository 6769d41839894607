use Rattle.std.proofs.Common.{◌≢◌, arith}
use Rattle.std.proofs.lemmas.Bool.Decides.{nat_tests}
use Rattle.face_walk.proofs.FaceCycles.{IsOnFace-first, IsOnFace-more, IsOnFace-last}
use Rattle.kh_types.proofs.WalkLemmas.{unvisited-fewer}
use Rattle.face_walk.proofs.walk.walk_from.Goals as goal

pub walk-init : goal.walk-init
walk-init c =
    IsOnFace-first c.args.diagram.now c.args.classes.now c.args.least c.place_after-place.result c.requires.code c.requires.place
    c.requires.walked c.requires.alone c.place_after-place.ensures

pub walk-preserved : goal.walk-preserved
walk-preserved c =
    let apart : c.walk.place ≢ c.args.least = grind (arith, nat_tests) in
    IsOnFace-more c.args.diagram.now c.args.classes.now c.walk.classes c.args.least c.walk.place c.place_after-place-in-walk.result
    c.requires.code c.requires.place apart c.walk.invariant c.place_after-place-in-walk.ensures

pub walk-smaller : goal.walk-smaller
walk-smaller = grind (arith, nat_tests, unvisited-fewer)

pub returns : goal.returns
returns = grind (arith, nat_tests, IsOnFace-last)
