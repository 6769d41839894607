use Rattle.std.proofs.Common.{◌≡◌, ◌+◌, ◌*◌, ◌/◌, ◌%◌, ◌∙◌, ap, sym, arith, pos, neg_ℤ, ◌+ℤ◌, ◌-ℤ◌, to_z, of_z}
use mir.Syntax.{w128}
use Rattle.std.proofs.lemmas.Int.{ints}
use Rattle.kh_types.specs.declared.limits.TheConstants.{EXPONENT}
use Rattle.kh_types.specs.StateSum.{circle_coefficient, signed_by}
use Rattle.circle_smoothing.specs.declared.kinds.TheConstants.{COLUMNS}
use Rattle.jones_sum.proofs.TermLemmas.{signed_by-odd}
use Rattle.jones_sum.proofs.terms.term.Goals as goal

pub returns-else-ones-minus-eq0-clause-term : goal.returns-else-ones-minus-eq0-clause-term
returns-else-ones-minus-eq0-clause-term c =
    let kind = c.args.kind in
    let minus = c.args.signs.minus in
    let size = c.ways-size.result in
    let exponent = ((pos c.args.place -ℤ pos EXPONENT) -ℤ pos (kind / COLUMNS + c.args.signs.plus)) +ℤ pos (2 * minus) in
    let odd : (kind / COLUMNS + minus) % 2 ≡ 1 = omega arith in
    let ways : size ≡ circle_coefficient (kind % COLUMNS) exponent = c.ways-size.ensures.ways exponent (omega (arith, ints)) in
    let negated : to_z w128 (of_z w128 (pos 0 -ℤ to_z w128 size)) ≡ neg_ℤ (pos size) = omega (arith, ints) in
    negated ∙ sym (signed_by-odd (kind / COLUMNS) minus size odd) ∙ ap (signed_by (pos (kind / COLUMNS) -ℤ pos minus)) ways
