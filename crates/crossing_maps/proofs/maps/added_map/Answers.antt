use Rattle.surface_laws.specs.Points.{discs}
use Rattle.added_crossing_laws.specs.Codes.{points_at}
use Rattle.crossing_maps.proofs.AddedTerms.{added-terms}
use Rattle.crossing_maps.proofs.Labelled.{labelled-there}
use Rattle.crossing_maps.proofs.maps.added_map.Goals as goal

pub returns-clause-terms : goal.returns-clause-terms
returns-clause-terms g c = λ code k smoothing m n are is.
    let labels = c.args.labels in
    added-terms g.F.PrimeField.P (g.F.PrimeField.value_of c.of.result) code k smoothing m n labels.before labels.behind c.args.old.now
    c.new-made.result.items c.add_map.new.terms.items c.new-made.ensures.items c.of.ensures
    (c.in_ok-add_map.ensures.sum code k smoothing m n labels.before labels.behind are
    (labelled-there code k smoothing smoothing m n (discs (points_at code k) m n) (points_at code k).opened labels.before labels.behind
    c.marks-marks.result c.args.bridge.now is c.marks-marks.ensures))
