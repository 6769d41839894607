use Rattle.std.proofs.Common.{◌≡◌, ◌<◌, ◌∙◌, List, length, sym, subst, ap, arith}
use Rattle.tangle_scan.specs.declared.complex.Entry.{Entry}
use Rattle.tangle_scan.specs.Clearings.{IsColumnOf}
use Rattle.tangle_scan.specs.Eliminations.{HasHead, IsCleared, column_in}
use Rattle.tangle_scan.proofs.Turns.{column-at, columns-set, entries, step-none, step-set}
use Rattle.tangle_scan.proofs.clearing.turns.clear_at.Goals as goal

pub clear-requires : goal.clear-requires
clear-requires g c =
    let columns = c.args.columns.now in
    let turn = c.args.turn.now in
    let place = c.args.place in
    let are = c.requires.columns_are in
    let within : place < length columns.items = omega (arith, c.if-place-len.false, c.len.ensures, columns.ok.0) in
    let below : place < length turn.objects.now = omega (arith, within, are.size) in
    let read : column_in columns.items place ≡ c.index_mut.result.now.items =
    column-at columns.items place c.index_mut.result.now within ∙ ap entries (sym c.index_mut.ensures.value) in
    record {
      turn_is = c.requires.turn_is;
      place = below;
      column_is = subst (λ (column : List Entry). IsColumnOf g.F.PrimeField.P turn place column c.args.rows.now.items) read
          (record { maps = are.each place below; size = are.rows_size; noted = are.noted place below });
    }

pub returns-then-place-len : goal.returns-then-place-len
returns-then-place-len g c =
    record {
      step = step-none g.F.PrimeField.P c.args.turn.now c.args.columns.now.items c.args.place c.requires.columns_are.size
          (λ within. omega (arith, within, c.if-place-len.true, c.len.ensures, c.args.columns.now.ok.0));
      columns_are = c.requires.columns_are;
    }

pub returns : goal.returns
returns g c =
    let p = g.F.PrimeField.P in
    let turn = c.args.turn.now in
    let columns = c.args.columns.now in
    let place = c.args.place in
    let new = c.clear.new.column in
    let is = c.in_ok-clear.ensures in
    let within : place < length columns.items = omega (arith, c.if-place-len.false, c.len.ensures, columns.ok.0) in
    let read : column_in columns.items place ≡ c.index_mut.result.now.items =
    column-at columns.items place c.index_mut.result.now within ∙ ap entries (sym c.index_mut.ensures.value) in
    record {
      step = step-set p turn columns.items place new within
          (subst (λ (old : List Entry). IsCleared p turn place old new.items) (sym read) is.cleared)
          (subst (λ (old : List Entry). (HasHead old turn.pivot.head → ⊥) → new.items ≡ old) (sym read) is.idle);
      columns_are = columns-set p turn.objects.now columns.items c.args.rows.now.items c.clear.new.rows.items place new
          c.requires.columns_are within is.column_is.maps is.more is.column_is.noted;
    }
