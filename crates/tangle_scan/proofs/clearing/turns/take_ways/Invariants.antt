use Rattle.std.proofs.Common.{take}
use Rattle.tangle_scan.specs.Clearings.{IsColumnOf}
use Rattle.tangle_scan.specs.Eliminations.{AreMore, AreTaken}
use Rattle.tangle_scan.proofs.clearing.turns.take_ways.Given as goal

abbrev pub invariant-entries : goal.invariant-entries
invariant-entries g l =
    record {
      taken : AreTaken g.F.PrimeField.P l.turn l.start.place l.start.first.now (take l.entry-index l.entries) l.initial.column.items
          l.column.items;
      column_is : IsColumnOf g.F.PrimeField.P l.turn l.start.place l.column.items l.rows.items;
      more : AreMore l.initial.rows.items l.rows.items;
    }
