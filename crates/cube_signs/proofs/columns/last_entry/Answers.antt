use Rattle.std.proofs.Common.{◌≡◌, ◌∙◌, ◌+◌, ◌-◌, length, take, take_all, sym, ap, arith, None}
use Rattle.std.specs.List.{last_or}
use Rattle.cube_signs.specs.Columns.{column_along, out_entries}
use Rattle.cube_signs.proofs.LastLemmas.{last-earlier, last-here}
use Rattle.cube_signs.proofs.columns.last_entry.Goals as goal

pub outs-init : goal.outs-init
outs-init c =
    let outs = c.args.outs.now in
    ap (λ outs. last_or None (column_along c.args.ranks.now c.args.label outs)) (sym (take_all (length outs - 0) outs (omega arith)))

pub returns-then-is_some : goal.returns-then-is_some
returns-then-is_some c =
    let outs = c.args.outs.now in
    sym (c.outs.invariant
    ∙ last-here (out_entries c.args.ranks.now c.args.label) outs (length outs - c.outs.k) (length outs - 1 - c.outs.k) _
    c.last_along-last.result (omega (arith, c.outs-test.true)) (omega (arith, c.outs-test.true)) c.last_along-last.ensures
    (sym c.is_some.ensures ∙ c.if-is_some.true))

pub outs-preserved : goal.outs-preserved
outs-preserved c =
    let outs = c.args.outs.now in
    let back : length outs - 1 - c.outs.k ≡ length outs - (c.outs.k + 1) = omega arith in
    c.outs.invariant
    ∙ last-earlier (out_entries c.args.ranks.now c.args.label) outs (length outs - c.outs.k) (length outs - 1 - c.outs.k) _
    c.last_along-last.result (omega (arith, c.outs-test.true)) (omega (arith, c.outs-test.true)) c.last_along-last.ensures
    (sym c.is_some.ensures ∙ c.if-is_some.false)
    ∙ ap (λ n. last_or None (column_along c.args.ranks.now c.args.label (take n outs))) back

pub returns : goal.returns
returns c =
    let outs = c.args.outs.now in
    let all : length outs - c.outs.k ≡ 0 = omega (arith, c.outs-test.false) in
    sym (c.outs.invariant ∙ ap (λ n. last_or None (column_along c.args.ranks.now c.args.label (take n outs))) all)
