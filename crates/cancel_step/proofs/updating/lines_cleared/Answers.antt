use Rattle.std.proofs.lemmas.Bool.Decides.{nat_tests}
use Rattle.std.proofs.Common.{◌∙◌, ◌<◌, length, ap₂, sym, subst, arith}
use Rattle.std.proofs.lemmas.List.{take_all}
use Rattle.prime_field.specs.Residues.{inverse_mod, product_mod}
use Rattle.sparse_block.specs.Changes.{PlacedLine, placed}
use Rattle.sparse_block.specs.Entries.{AreEntries}
use Rattle.cancel_step.proofs.AcrossLemmas.{cleared_more, entries_with-are}
use Rattle.sparse_block.proofs.EntryValues.{value-below}
use Rattle.cancel_step.proofs.updating.lines_cleared.Goals as goal

pub of-pivot-requires : goal.of-pivot-requires
of-pivot-requires g c =
    let p = g.F.PrimeField.P in
    let size = c.requires.entries.0 in
    let own = c.line_at-pivot_line.result.now in
    let are : AreEntries p size own =
    subst (AreEntries p size) (sym c.line_at-pivot_line.ensures)
    (entries_with-are p size c.args.own c.args.lines.now c.requires.entries.1) in
    omega (arith, c.value_at.ensures, value-below p size c.args.across own c.element_laws.ensures.field are)

pub of-requires : goal.of-requires
of-requires g c =
    let p = g.F.PrimeField.P in
    let size = c.requires.entries.0 in
    let line : PlacedLine = placed c.at-place.result.0 c.at-place.result.1.now in
    let within : c.lines.k < length c.args.lines.now = omega (arith, c.lines-test.true, c.len-k-end.ensures) in
    let are : AreEntries p size line.entries =
    subst (λ (line : PlacedLine). AreEntries p size line.entries) (sym c.at-place.ensures)
    (c.requires.entries.1 c.lines.k line within) in
    omega (arith, c.value_at-in-lines.ensures, value-below p size c.args.across line.entries c.element_laws.ensures.field are)

pub subtract_into-requires-clause-line : goal.subtract_into-requires-clause-line
subtract_into-requires-clause-line g c =
    let p = g.F.PrimeField.P in
    let size = c.requires.entries.0 in
    let line : PlacedLine = placed c.at-place.result.0 c.at-place.result.1.now in
    let within : c.lines.k < length c.args.lines.now = omega (arith, c.lines-test.true, c.len-k-end.ensures) in
    let are : AreEntries p size line.entries =
    subst (λ (line : PlacedLine). AreEntries p size line.entries) (sym c.at-place.ensures)
    (c.requires.entries.1 c.lines.k line within) in
    (size, are)

pub subtract_into-requires-clause-other : goal.subtract_into-requires-clause-other
subtract_into-requires-clause-other g c =
    let p = g.F.PrimeField.P in
    let size = c.requires.entries.0 in
    let are : AreEntries p size c.line_at-pivot_line.result.now =
    subst (AreEntries p size) (sym c.line_at-pivot_line.ensures)
    (entries_with-are p size c.args.own c.args.lines.now c.requires.entries.1) in
    (size, are)

pub lines-preserved : goal.lines-preserved
lines-preserved g c size are =
    let p = g.F.PrimeField.P in
    let line : PlacedLine = placed c.at-place.result.0 c.at-place.result.1.now in
    let own = c.line_at-pivot_line.result.now in
    let across = c.args.across in
    let factor = g.F.PrimeField.value_of c.quotient-factor.result in
    let made = c.in_ok-entries.entries.items in
    let are_own : AreEntries p size own =
    subst (AreEntries p size) (sym c.line_at-pivot_line.ensures) (entries_with-are p size c.args.own c.args.lines.now are) in
    let within : c.lines.k < length c.args.lines.now = omega (arith, c.lines-test.true, c.len-k-end.ensures) in
    cleared_more p size across c.lines.k factor own made line c.args.lines.now c.lines.made.items c.push.new.self.items are
    are_own within c.at-place.ensures
    (c.quotient-factor.ensures.value
    ∙ ap₂ (λ x y. product_mod p x (inverse_mod p y))
    (c.of.ensures ∙ c.value_at-in-lines.ensures)
    (c.of-pivot.ensures ∙ c.value_at.ensures))
    (λ size are are_own. c.in_ok-entries.ensures.ok ∙ c.deref.ensures.value ∙ c.in_ok-subtract_into.ensures size are are_own)
    (c.lines.invariant size are) c.in_ok-push.ensures.items

pub returns : goal.returns
returns = grind (arith, nat_tests, take_all)
