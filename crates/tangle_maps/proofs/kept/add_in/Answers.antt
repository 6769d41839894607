use Rattle.std.proofs.Common.{List, subst, sym}
use Rattle.std.proofs.lemmas.Result.{on_ok_weaker}
use Rattle.dotted_maps.specs.declared.term.Term.{Term}
use Rattle.dotted_maps.specs.Maps.{scaled}
use Rattle.tangle_maps.specs.KeptSeams.{IsSeamAlong}
use Rattle.tangle_maps.specs.Sums.{IsSum}
use Rattle.tangle_maps.specs.Ways.{joins_from, joins_over, joins_to, points_on}
use Rattle.tangle_maps.specs.declared.kept.KeptSeam.{KeptSeam}
use Rattle.tangle_maps.proofs.ComposeLemmas.{CanCompose-seam, listed-same}
use Rattle.tangle_maps.proofs.KeptLemmas.{along-seam, seams-used}
use Rattle.tangle_maps.proofs.WayLemmas.{way-facts}
use Rattle.tangle_maps.proofs.kept.add_in.Goals as goal

pub add_all-requires-clause-seam : goal.add_all-requires-clause-seam
add_all-requires-clause-seam g c =
    let way = c.args.way.now in
    let kept = c.index_mut.result.now in
    CanCompose-seam way kept.seam (way-facts way c.requires.way)
    (along-seam way kept.seam c.requires.way
    (subst (λ (k : KeptSeam). IsSeamAlong way k.seam) (sym c.index_mut.ensures.value) (c.in_ok-place.ensures.place.along kept)))

pub returns-clause-sum : goal.returns-clause-sum
returns-clause-sum g c =
    let way = c.args.way.now in
    let kept = c.index_mut.result.now in
    on_ok_weaker c.add_all.result
    (λ is. subst (λ (xs : List Term).
    IsSum g.F.PrimeField.P c.args.terms.now.items (scaled (g.F.PrimeField.value_of c.args.factor) xs) c.add_all.new.terms.items)
    (listed-same (points_on way) (joins_from way) (joins_over way) (joins_to way) kept.seam way.first.now way.second.now
    (along-seam way kept.seam c.requires.way
    (subst (λ (k : KeptSeam). IsSeamAlong way k.seam) (sym c.index_mut.ensures.value) (c.in_ok-place.ensures.place.along kept)))
    (way-facts way c.requires.way).listed) is)
    c.add_all.ensures.sum

pub returns-clause-list : goal.returns-clause-list
returns-clause-list g c =
    seams-used c.in_ok-place.place c.index_mut.result.now c.add_all.new.seam c.place_in.new.list.items c.in_ok-place.ensures.place.within
    c.index_mut.ensures.value c.add_all.ensures.same c.in_ok-place.ensures.list
