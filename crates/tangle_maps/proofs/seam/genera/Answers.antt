use Rattle.std.proofs.Common.{ℕ, sym, ◌∙◌, subst, arith}
use Rattle.std.specs.List.{Contains}
use Rattle.std.proofs.lemmas.List.{length-set, take_all}
use Rattle.tangle_maps.specs.Seams.{genus_by}
use Rattle.tangle_maps.proofs.SeamLemmas.{noted_at, opened-at}
use Rattle.tangle_maps.proofs.seam.genera.Goals as goal

pub components-preserved : goal.components-preserved
components-preserved c =
    let f : ℕ → ℕ = λ k. genus_by k c.args.arcs.now c.args.first.now c.args.second.now c.args.whole.now in
    let below = opened-at c.args.components.now c.components.component-index c.requires.components c.components-test.true in
    record {
      size = length-set c.components.genera c.from.result c.genus.result ∙ c.components.invariant.size;
      noted = noted_at f c.args.components.now c.components.genera c.components.component-index c.from.result c.genus.result c.components-test.true
          (omega (arith, below, c.components.invariant.size))
          c.from.ensures c.genus.ensures c.components.invariant.noted;
    }

pub returns : goal.returns
returns c = λ k has.
    c.components.invariant.noted k
    (subst (λ xs. Contains xs k) (sym (take_all c.components.component-index c.args.components.now c.components-test.false)) has)
