use Rattle.std.proofs.Common.{map}
use Rattle.added_crossing_laws.specs.Codes.{saddle_strips}
use Rattle.crossing_maps.specs.NewTerms.{first_end}
use Rattle.crossing_maps.proofs.AddedTerms.{saddle-terms}
use Rattle.crossing_maps.proofs.Labelled.{labelled-there}
use Rattle.crossing_maps.proofs.maps.saddle_map.Goals as goal

pub returns-clause-terms : goal.returns-clause-terms
returns-clause-terms g c = λ code k m are is.
    let labels = c.args.labels in
    saddle-terms g.F.PrimeField.P (g.F.PrimeField.value_of c.args.sign) code k m labels.before labels.behind c.new-made.result.items
    c.add_saddle.new.terms.items c.new-made.ensures.items
    (c.in_ok-add_saddle.ensures.sum code k m labels.before labels.behind are
    (labelled-there code k 0 1 m m (map first_end m) (saddle_strips code k) labels.before labels.behind c.marks-marks.result
    c.args.bridge.now is c.marks-marks.ensures))
