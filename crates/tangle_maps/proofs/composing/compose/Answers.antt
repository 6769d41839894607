use Rattle.std.proofs.Common.{List, subst}
use Rattle.dotted_maps.specs.declared.term.Term.{Term}
use Rattle.dotted_maps.specs.Maps.{scaled}
use Rattle.tangle_maps.specs.Sums.{IsSum}
use Rattle.tangle_maps.specs.Ways.{joins_from, joins_over, joins_to, points_on}
use Rattle.tangle_maps.proofs.ComposeLemmas.{CanCompose-seam, composition_made, listed-same}
use Rattle.tangle_maps.proofs.KeptLemmas.{along-seam}
use Rattle.tangle_maps.proofs.WayLemmas.{way-facts}
use Rattle.tangle_maps.proofs.composing.compose.Goals as goal

pub add_all-requires-clause-seam : goal.add_all-requires-clause-seam
add_all-requires-clause-seam g c =
    let way = c.args.way.now in
    CanCompose-seam way c.seam_of-seam.result (way-facts way c.requires.way)
    (along-seam way c.seam_of-seam.result c.requires.way c.seam_of-seam.ensures)

pub returns-clause-composition : goal.returns-clause-composition
returns-clause-composition g c =
    let way = c.args.way.now in
    let facts = way-facts way c.requires.way in
    let start = c.new-whole.result.items in
    let whole = c.add_all.new.terms.items in
    composition_made g.F.PrimeField.P (g.F.PrimeField.value_of c.of.result) way start whole facts c.new-whole.ensures.items c.of.ensures
    (subst (λ (xs : List Term). IsSum g.F.PrimeField.P start (scaled (g.F.PrimeField.value_of c.of.result) xs) whole)
    (listed-same (points_on way) (joins_from way) (joins_over way) (joins_to way) c.seam_of-seam.result way.first.now way.second.now
    (along-seam way c.seam_of-seam.result c.requires.way c.seam_of-seam.ensures) facts.listed)
    c.in_ok-add_all.ensures.sum)
