use Rattle.std.proofs.Common.{◌++◌, sym, ap, ◌∙◌}
use Rattle.std.specs.List.{fold, range_with_len}
use Rattle.std.proofs.lemmas.List.Sums.{fold-append}
use Rattle.kh_types.specs.Circles.{smoothing_of}
use Rattle.kh_types.specs.Classes.{joined}
use Rattle.tangle_maps.specs.declared.pairing.TheConstants.{POINTS}
use Rattle.tangle_maps.specs.Pairings.{joins_of}
use Rattle.crossing_maps.proofs.added.added_classes.Goals as goal

pub returns : goal.returns
returns c =
    let m = joins_of c.args.from.now.partners c.args.site.now.opened.now in
    let n = joins_of c.args.to.now.partners c.args.site.now.opened.now in
    let s = smoothing_of c.args.first c.args.site.now.crossing.now in
    let t = smoothing_of c.args.second c.args.site.now.crossing.now in
    let alone = range_with_len 0 POINTS in
    c.smooth-2.ensures ∙ ap (λ classes. fold joined classes t) c.join_pairs-2.ensures
    ∙ ap (λ classes. fold joined (fold joined classes n) t)
    (c.smooth.ensures ∙ ap (λ classes. fold joined classes s) c.join_pairs.ensures ∙ sym (fold-append joined alone m s))
    ∙ sym (fold-append joined alone (m ++ s) (n ++ t) ∙ fold-append joined (fold joined alone (m ++ s)) n t)
