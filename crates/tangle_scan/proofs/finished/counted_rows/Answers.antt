use Rattle.std.proofs.Common.{List, subst, sym}
use Rattle.std.specs.Prelude.{◌≡◌}
use Rattle.std.proofs.lemmas.Result.{IfOk-weaker}
use Rattle.tangle_scan.specs.CountedRows.{AreCountedRows, all_rows_by, dims_of}
use Rattle.tangle_scan.specs.Tallies.{AreTallies}
use Rattle.tangle_scan.specs.declared.finished.counting.Tally.{Tally}
use Rattle.tangle_scan.proofs.finished.counted_rows.Goals as goal

pub returns : goal.returns
returns c =
    let counted = c.counted_with-counted.result in
    IfOk-weaker c.all_rows.result
    (λ rows. rows.items ≡ all_rows_by (dims_of counted) counted.crossings)
    (λ rows. AreCountedRows c.args.diagram.now c.args.objects.now rows.items)
    (λ rows is. record {
      counted = counted;
      of_objects = record {
        tallies = subst (λ (items : List Tally). AreTallies c.args.objects.now items) (sym c.counted_with-counted.ensures.tallies)
            c.in_ok-tallies.ensures.tallies;
        loops = c.counted_with-counted.ensures.loops;
        crossings = c.counted_with-counted.ensures.crossings;
        plus = c.counted_with-counted.ensures.plus;
        minus = c.counted_with-counted.ensures.minus;
      };
      all = is;
    })
    c.all_rows.ensures
