use Rattle.std.proofs.Common.{subst}
use Rattle.kh_types.specs.Table.{Table}
use Rattle.homology_tables.specs.Tables.{IsTable}
use Rattle.homology_tables.proofs.TableLemmas.{length-rows, total_of-le}
use Rattle.homology_tables.proofs.laws.table_laws.Goals as goal

pub returns : goal.returns
returns c =
    let is : IsTable c.args.table.now = subst (λ (t : Table). IsTable t) c.table.view_is c.table.invariant in
    record {
      table = is;
      few = length-rows c.args.table.now.rows is.rows is.ascending;
      total = total_of-le c.args.table.now is;
    }
