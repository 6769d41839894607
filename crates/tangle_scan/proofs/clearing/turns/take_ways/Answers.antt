use Rattle.std.proofs.Common.{◌∙◌, List, length, subst, arith}
use Rattle.std.proofs.lemmas.List.{take_all}
use Rattle.tangle_scan.specs.declared.complex.Entry.{Entry}
use Rattle.tangle_scan.specs.Eliminations.{AreTaken}
use Rattle.tangle_scan.proofs.NotedRows.{more-both, more-same}
use Rattle.tangle_scan.proofs.Ways.{next-read, taken-more, taken-none}
use Rattle.tangle_scan.proofs.clearing.turns.take_ways.Goals as goal

pub entries-init : goal.entries-init
entries-init g c =
    record {
      taken = taken-none g.F.PrimeField.P c.args.turn.now c.args.start.now.place c.args.start.now.first.now c.args.column.now.items;
      column_is = c.requires.column_is;
      more = more-same c.args.rows.now.items;
    }

pub take_if_alive-requires : goal.take_if_alive-requires
take_if_alive-requires g c =
    record {
      passage = record {
        turn_is = c.requires.turn_is;
        start_is = c.requires.start_is;
        next_is = next-read g.F.PrimeField.P c.args.turn.now c.entries.entry-index c.entry-item.result c.requires.turn_is
            c.entries-test.true c.entry-item.is;
      };
      column_is = c.entries.invariant.column_is;
    }

pub entries-preserved : goal.entries-preserved
entries-preserved g c =
    let p = g.F.PrimeField.P in
    let turn = c.args.turn.now in
    let start = c.args.start.now in
    let entry = c.entry-item.result in
    let next = next-read p turn c.entries.entry-index entry c.requires.turn_is c.entries-test.true c.entry-item.is in
    let before = c.entries.invariant in
    let over = c.in_ok-take_if_alive.ensures in
    record {
      taken = taken-more p turn start.place start.first.now turn.column.now c.args.column.now.items c.entries.column.items
          c.take_if_alive.new.column.items c.entries.entry-index entry c.entries-test.true c.entry-item.is
          c.requires.turn_is.column.once before.taken over.changed;
      column_is = record {
        maps = over.changed.column (length turn.objects.now) next.head before.column_is.maps;
        size = over.more.size ∙ before.column_is.size;
        noted = over.noted;
      };
      more = more-both c.args.rows.now.items c.entries.rows.items c.take_if_alive.new.rows.items before.more over.more;
    }

pub returns : goal.returns
returns g c =
    let turn = c.args.turn.now in
    let start = c.args.start.now in
    record {
      taken = subst
          (λ (es : List Entry).
          AreTaken g.F.PrimeField.P turn start.place start.first.now es c.args.column.now.items c.entries.column.items)
          (take_all c.entries.entry-index turn.column.now (omega (arith, c.entries-test.false))) c.entries.invariant.taken;
      column_is = c.entries.invariant.column_is;
      more = c.entries.invariant.more;
    }
