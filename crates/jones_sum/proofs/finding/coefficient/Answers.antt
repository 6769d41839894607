use Rattle.std.proofs.Common.{◌≡◌, ◌∙◌, ap, sym, arith, ℤ, pos, ◌+ℤ◌, ◌-ℤ◌, ◌*ℤ◌, to_z, of_z, get_or, take}
use Rattle.std.specs.Prelude.{unsigned_abs}
use mir.Syntax.{w128}
use Rattle.std.proofs.lemmas.Int.{ints}
use Rattle.std.proofs.lemmas.List.Sums.{sum_by_more, sum_by_more_le}
use Rattle.kh_types.specs.declared.limits.TheConstants.{EXPONENT}
use Rattle.jones_sum.specs.Kinds.{counted_sum, kind_term}
use Rattle.jones_sum.proofs.KindLemmas.{counted_sum-more, unsigned_abs-add}
use Rattle.jones_sum.proofs.finding.coefficient.Goals as goal

pub kinds-preserved : goal.kinds-preserved
kinds-preserved c =
    let counts = c.args.counts.now in
    let kind = c.kinds.kind in
    let value = kind_term c.args.signs.plus c.args.signs.minus (pos c.args.place -ℤ pos EXPONENT) in
    let count = get_or counts kind 0 in
    let product = c.times-total.result in
    let few = sum_by_more_le (λ x. x) counts kind 0 c.kinds-test.true in
    let longer = sum_by_more (λ x. x) counts kind 0 c.kinds-test.true in
    let same_term : to_z w128 (of_z w128 c.term.result) ≡ value kind = omega (arith, ints) in
    let is_product : product ≡ pos count *ℤ value kind =
    c.times-total.ensures.product ∙ ap (λ (z : ℤ). pos count *ℤ z) same_term in
    let added : to_z w128 (of_z w128 (to_z w128 c.kinds.total-bits +ℤ to_z w128 (of_z w128 product))) ≡ c.kinds.total +ℤ product =
    omega (arith, ints, few) in
    record {
      total = added ∙ ap (λ (z : ℤ). z +ℤ product) (sym c.kinds.total-is ∙ c.kinds.invariant.total)
          ∙ ap (λ (z : ℤ). counted_sum value (take kind counts) +ℤ z) is_product
          ∙ sym (counted_sum-more value counts kind c.kinds-test.true);
      within =
          omega (
            arith,
            ap unsigned_abs added,
            unsigned_abs-add c.kinds.total product,
            ap unsigned_abs c.kinds.total-is,
            longer,
          );
    }
