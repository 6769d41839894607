use Rattle.std.proofs.Common.{◌≡◌, ◌*◌, subst, sym, ◌∙◌, arith}
use Rattle.std.specs.List.{Contains}
use Rattle.std.proofs.lemmas.List.{length-set, take_all}
use Rattle.kh_types.specs.Residues.{Same}
use Rattle.dotted_maps.specs.Parts.{product_over}
use Rattle.tangle_maps.specs.Pairings.{IsOpened}
use Rattle.tangle_maps.specs.Seams.{factor_by, left_by, load_by}
use Rattle.std.proofs.lemmas.Bool.Decides.{nat_tests}
use Rattle.std.specs.Prelude.{min, slice_index}
use Rattle.tangle_maps.proofs.SeamLemmas.{noted_at, opened-at}
use Rattle.tangle_maps.proofs.WeighLemmas.{weighed_none, weighed_more}
use Rattle.tangle_maps.proofs.composing.weigh.Goals as goal

pub components-init : goal.components-init
components-init g c = record {
  size = c.told-left;
  left = λ k has. absurd (omega (arith, has.1));
  value = weighed_none g.F.PrimeField.P (g.F.PrimeField.value_of c.args.value) (factor_by c.args.seam.now c.args.dots c.args.others);
}

pub components-preserved : goal.components-preserved
components-preserved g c =
    let parts = c.deref-components.result.now in
    let i = c.components.component-index in
    let below = opened-at parts i (subst (λ xs. IsOpened xs) (sym c.deref-components.ensures.0) c.requires) c.components-test.true in
    let load = load_by c.args.seam.now c.args.dots c.args.others (slice_index parts i) in
    let held : c.at-load.result ≡ min 255 load = c.at-load.ensures ∙ c.loads-loads.ensures (slice_index parts i) below in
    record {
      size = length-set c.components.left c.from.result c.left_at.result ∙ c.components.invariant.size;
      left = noted_at (left_by c.args.seam.now c.args.dots c.args.others) parts c.components.left i c.from.result c.left_at.result
          c.components-test.true (omega (arith, below, c.components.invariant.size)) c.from.ensures
          (omega (arith, c.left_at.ensures, held)) c.components.invariant.left;
      value = weighed_more g.F.PrimeField.P (g.F.PrimeField.value_of c.args.value) (g.F.PrimeField.value_of c.components.weighed)
          (g.F.PrimeField.value_of c.times_factor-weighed.result) i c.at-load.result c.at.result
          (factor_by c.args.seam.now c.args.dots c.args.others) parts c.components-test.true
          (grind (arith, nat_tests, held, c.at.ensures)) c.components.invariant.value c.times_factor-weighed.ensures;
    }

pub at-load-requires : goal.at-load-requires
at-load-requires g c =
    opened-at c.deref-components.result.now c.components.component-index
    (subst (λ xs. IsOpened xs) (sym c.deref-components.ensures.0) c.requires) c.components-test.true

pub at-requires : goal.at-requires
at-requires g c =
    opened-at c.deref-components.result.now c.components.component-index
    (subst (λ xs. IsOpened xs) (sym c.deref-components.ensures.0) c.requires) c.components-test.true

pub returns-clause-left : goal.returns-clause-left
returns-clause-left g c = λ k has.
    c.components.invariant.left k
    (subst (λ xs. Contains xs k)
    (sym (take_all c.components.component-index c.deref-components.result.now c.components-test.false ∙ c.deref-components.ensures.0)) has)

pub returns-clause-value : goal.returns-clause-value
returns-clause-value g c =
    subst (λ xs. Same g.F.PrimeField.P (g.F.PrimeField.value_of c.components.weighed)
    (g.F.PrimeField.value_of c.args.value * product_over (factor_by c.args.seam.now c.args.dots c.args.others) xs))
    (take_all c.components.component-index c.deref-components.result.now c.components-test.false ∙ c.deref-components.ensures.0)
    c.components.invariant.value
