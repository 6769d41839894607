use Rattle.std.proofs.Common.{sym, ap, ◌∙◌}
use Rattle.std.specs.List.{fold, range_with_len}
use Rattle.std.proofs.lemmas.List.Sums.{fold-append}
use Rattle.kh_types.specs.Circles.{smoothing_of}
use Rattle.kh_types.specs.Classes.{joined}
use Rattle.tangle_maps.specs.declared.pairing.TheConstants.{POINTS}
use Rattle.tangle_maps.specs.Pairings.{joins_of}
use Rattle.crossing_maps.proofs.names.classes_behind.Goals as goal

pub returns : goal.returns
returns c =
    let one = joins_of c.args.pairing.now.partners c.args.opened.now in
    let other = smoothing_of c.args.smoothing c.args.crossing.now in
    c.smooth.ensures ∙ ap (λ classes. fold joined classes other) c.join_pairs.ensures
    ∙ sym (fold-append joined (range_with_len 0 POINTS) one other)
