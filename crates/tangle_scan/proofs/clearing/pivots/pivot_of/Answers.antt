use Rattle.std.proofs.Common.{◌≡◌, ◌<◌, ◌∙◌, List, length, sym, subst₂, ap, arith, true}
use Rattle.std.specs.Prelude.{Any}
use Rattle.tangle_scan.specs.declared.complex.Entry.{Entry}
use Rattle.tangle_scan.specs.declared.complex.Object.{Object}
use Rattle.tangle_scan.specs.Held.{column_at, is_alive_at}
use Rattle.tangle_scan.specs.Eliminations.{IsCandidate}
use Rattle.tangle_scan.proofs.PivotLemmas.{AreNone, no-pivot, once-at, pivot-found}
use Rattle.tangle_scan.proofs.NotedRows.{alive-read}
use Rattle.tangle_scan.proofs.Turns.{column-at, entries}
use Rattle.tangle_scan.proofs.clearing.pivots.pivot_of.Goals as goal

pub returns-in-Some-clause-found : goal.returns-in-Some-clause-found
returns-in-Some-clause-found c =
    let complex = c.args.rowed.now.complex in
    let tail = c.args.tail in
    let best = c.in-Some.best in
    let within : tail < length complex.columns.items = omega (arith, c.requires.tail, c.requires.indexed.columns) in
    let alive : is_alive_at complex.objects.items tail ≡ true =
    alive-read complex.objects.items tail c.index.result.now c.requires.tail c.index.ensures ∙ c.if-not-index.false in
    let read : c.as_slice-column.result.now ≡ column_at complex tail =
    c.as_slice-column.ensures.value ∙ ap entries c.index-2.ensures
    ∙ sym (column-at complex.columns.items tail c.index-2.result.now within) in
    pivot-found complex tail best.head best.number alive (once-at complex.columns.items tail c.requires.indexed.once within)
    (subst₂
    (λ (objects : List Object) (column : List Entry).
    Any (λ (entry : Entry). IsCandidate objects tail entry best.head best.number) column)
    c.as_slice-objects.ensures.value read c.in-Some.ensures.found)

pub returns-in-None-clause-none : goal.returns-in-None-clause-none
returns-in-None-clause-none c none =
    let complex = c.args.rowed.now.complex in
    let tail = c.args.tail in
    let within : tail < length complex.columns.items = omega (arith, c.requires.tail, c.requires.indexed.columns) in
    let read : c.as_slice-column.result.now ≡ column_at complex tail =
    c.as_slice-column.ensures.value ∙ ap entries c.index-2.ensures
    ∙ sym (column-at complex.columns.items tail c.index-2.result.now within) in
    no-pivot complex tail
    (subst₂ (λ (objects : List Object) (column : List Entry). AreNone objects tail column) c.as_slice-objects.ensures.value read
    (c.best_of.ensures.none c.in-None.is))
