use Rattle.std.proofs.Common.{◌≡◌, ◌^◌, ◌∙◌, ap, arith, ℤ, pos, ◌*ℤ◌, to_z, of_z}
use Rattle.std.specs.Prelude.{unsigned_abs, FitsSigned}
use mir.Syntax.{w128}
use Rattle.std.proofs.lemmas.Int.{ints, to_z-of_z, fits_signed_mul}
use Rattle.kh_types.specs.declared.limits.TheConstants.{CROSSINGS, CIRCLES}
use Rattle.jones_sum.proofs.KindLemmas.{times_within}
use Rattle.jones_sum.proofs.finding.times.Goals as goal

pub returns-clause-within : goal.returns-clause-within
returns-clause-within c =
    let count = c.args.count in
    let term = c.args.term in
    let counted : to_z w128 (of_z w128 c.from.result) ≡ pos count = omega (arith, ints) in
    let same_term : to_z w128 (of_z w128 term) ≡ term = omega (arith, ints) in
    let fits : FitsSigned w128 (pos count *ℤ term) =
    fits_signed_mul w128 (pos count) term (2 ^ CROSSINGS) (2 ^ CIRCLES) c.requires.count c.requires.term (omega arith) in
    let product : to_z w128 (of_z w128 (to_z w128 (of_z w128 c.from.result) *ℤ to_z w128 (of_z w128 term))) ≡ pos count *ℤ term =
    ap (λ (z : ℤ). to_z w128 (of_z w128 (z *ℤ to_z w128 (of_z w128 term)))) counted
    ∙ ap (λ (z : ℤ). to_z w128 (of_z w128 (pos count *ℤ z))) same_term ∙ to_z-of_z w128 (pos count *ℤ term) fits in
    omega (arith, ap unsigned_abs product, times_within count (2 ^ CIRCLES) term c.requires.term)
