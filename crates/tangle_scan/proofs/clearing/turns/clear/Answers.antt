use Rattle.std.proofs.Common.{◌∙◌, List, length, refl, sym, subst}
use Rattle.std.specs.List.{remove}
use Rattle.std.proofs.lemmas.Result.{on_ok_weaker}
use Rattle.tangle_maps.specs.Sums.{AreReduced}
use Rattle.tangle_scan.specs.declared.complex.Entry.{Entry}
use Rattle.tangle_scan.specs.Clearings.{IsColumnOf}
use Rattle.tangle_scan.specs.Eliminations.{AreTaken, HasHead}
use Rattle.tangle_scan.proofs.Columns.{column-remove, head-there, heads-remove}
use Rattle.tangle_scan.proofs.NotedRows.{more-same, noted-kept}
use Rattle.tangle_scan.proofs.Ways.{cleared-none, cleared-some, first-read, read-reduced}
use Rattle.tangle_scan.proofs.clearing.turns.clear.Goals as goal

pub take_ways-requires : goal.take_ways-requires
take_ways-requires g c =
    let p = g.F.PrimeField.P in
    let turn = c.args.turn.now in
    let column = c.args.column.now.items in
    let rows = c.args.rows.now.items in
    let at = c.in-Some.at in
    let within = c.in-Some.ensures.some.0 in
    let is = c.requires.column_is in
    record {
      turn_is = c.requires.turn_is;
      start_is = record {
        place = c.requires.place;
        first = subst (AreReduced p) (sym c.as_slice-first.ensures)
            (read-reduced p (length turn.objects.now) column at c.remove-entry.result within is.maps c.remove-entry.ensures.value);
        multiple = c.multiple_at.ensures.some;
      };
      column_is = subst (λ (left : List Entry). IsColumnOf p turn c.args.place left rows) (sym c.remove-entry.ensures.items)
          (record {
            maps = column-remove p (length turn.objects.now) column at within is.maps;
            size = is.size;
            noted = noted-kept turn.objects.now rows rows c.args.place column (remove column at) (more-same rows)
                (heads-remove column at within) is.noted;
          });
    }

pub returns-in-Some : goal.returns-in-Some
returns-in-Some g c =
    let p = g.F.PrimeField.P in
    let turn = c.args.turn.now in
    let place = c.args.place in
    let column = c.args.column.now.items in
    let new = c.take_ways.new.column.items in
    let first = c.as_slice-first.result.now in
    let at = c.in-Some.at in
    let within = c.in-Some.ensures.some.0 in
    let here = c.in-Some.ensures.some.1 in
    let is = c.requires.column_is.maps in
    on_ok_weaker c.take_ways.result
    (λ ways. record {
      cleared = cleared-some p turn place column new at first c.requires.turn_is.dead within is.once here
          (c.as_slice-first.ensures
          ∙ first-read p (length turn.objects.now) column at turn.pivot.head c.remove-entry.result within is here
          c.remove-entry.ensures.value)
          (subst (λ (old : List Entry). AreTaken p turn place first turn.column.now old new) c.remove-entry.ensures.items ways.taken);
      idle = λ none. absurd (none (subst (HasHead column) here (head-there column at within)));
      column_is = ways.column_is;
      more = ways.more;
    })
    c.take_ways.ensures

pub returns-in-None : goal.returns-in-None
returns-in-None g c =
    record {
      cleared = cleared-none g.F.PrimeField.P c.args.turn.now c.args.place c.args.column.now.items (c.place_of.ensures.none c.in-None.is);
      idle = λ none. refl;
      column_is = c.requires.column_is;
      more = more-same c.args.rows.now.items;
    }
