use Rattle.std.proofs.Common.{sym, ap, ◌∙◌}
use Rattle.std.specs.List.{fold, range_with_len}
use Rattle.std.proofs.lemmas.List.Sums.{fold-append}
use Rattle.kh_types.specs.Classes.{joined}
use Rattle.tangle_maps.specs.declared.pairing.TheConstants.{POINTS}
use Rattle.tangle_maps.specs.Pairings.{joins_of}
use Rattle.tangle_maps.proofs.seam.joined.Goals as goal

pub returns : goal.returns
returns c =
    let one = joins_of c.args.one.now.partners c.args.opened.now in
    let other = joins_of c.args.other.now.partners c.args.opened.now in
    c.join_pairs-2.ensures ∙ ap (λ classes. fold joined classes other) c.join_pairs.ensures
    ∙ sym (fold-append joined (range_with_len 0 POINTS) one other)
