use Rattle.std.proofs.Common.{sym, ◌∙◌, subst, arith}
use Rattle.std.specs.List.{Contains}
use Rattle.std.proofs.lemmas.List.{length-set, take_all}
use Rattle.tangle_maps.proofs.SeamLemmas.{noted_at, opened-at}
use Rattle.crossing_maps.specs.Counts.{genus_at}
use Rattle.crossing_maps.specs.ListedPlaces.{places_in}
use Rattle.crossing_maps.proofs.genus.genera_in.Goals as goal

pub components-preserved : goal.components-preserved
components-preserved c =
    let below = opened-at c.args.components.now c.components.component-index c.requires.components c.components-test.true in
    record {
      size = length-set c.components.genera c.from.result c.genus_in.result ∙ c.components.invariant.size;
      noted = noted_at (genus_at (places_in c.args.lists.now)) c.args.components.now c.components.genera c.components.component-index
          c.from.result c.genus_in.result c.components-test.true (omega (arith, below, c.components.invariant.size)) c.from.ensures
          c.genus_in.ensures c.components.invariant.noted;
    }

pub returns : goal.returns
returns c = λ k has.
    c.components.invariant.noted k
    (subst (λ xs. Contains xs k) (sym (take_all c.components.component-index c.args.components.now c.components-test.false)) has)
