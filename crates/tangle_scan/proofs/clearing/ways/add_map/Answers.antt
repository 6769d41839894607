use Rattle.std.proofs.Common.{◌≡◌, ◌∙◌, List, subst, sym}
use Rattle.tangle_scan.specs.declared.complex.Entry.{Entry}
use Rattle.tangle_scan.specs.Eliminations.{IsChanged}
use Rattle.tangle_scan.proofs.Columns.{added-none, column-push}
use Rattle.tangle_scan.proofs.clearing.ways.add_map.Goals as goal

pub returns-then-is_zero-clause-changed : goal.returns-then-is_zero-clause-changed
returns-then-is_zero-clause-changed c p reduced =
    added-none p c.args.column.now.items c.args.entry c.as_slice.result.now c.requires c.as_slice.ensures
    (sym c.is_zero.ensures ∙ c.if-is_zero.true)

pub returns-clause-changed : goal.returns-clause-changed
returns-clause-changed c p reduced =
    subst
    (λ (new : List Entry).
    IsChanged (λ old new. new ≡ c.args.entry.terms.items) (Unit {0}) p c.args.entry.head c.args.column.now.items new)
    (sym c.in_ok-push.ensures.items) (column-push p c.args.column.now.items c.args.entry c.requires reduced)
