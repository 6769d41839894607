use Rattle.std.proofs.Common.{rules, refl, sym, subst, ◌∙◌}
use Rattle.kh_types.specs.declared.limits.TheConstants.{EXPONENT}
use Rattle.homology_tables.specs.Tables.{IsTable}
use Rattle.kh_work.proofs.CircleRows.{rows_to-all, rows_to-more}
use Rattle.kh_work.proofs.circles.beside_circle.Goals as goal

pub degrees-preserved : goal.degrees-preserved
degrees-preserved c =
    rows_to-more EXPONENT c.args.reach c.args.homology.now c.degrees.place _ c.degrees.rows.items c.push_degree.new.rows.items
    c.degrees.invariant (search rules) c.in_ok-push_degree.ensures

pub of_rows-requires : goal.of_rows-requires
of_rows-requires c =
    subst IsTable
    (sym (rows_to-all EXPONENT c.args.reach c.field.result c.args.homology.now c.degrees.place c.degrees.rows.items refl
    (search rules) c.field.ensures c.degrees.invariant))
    c.requires.table

pub returns : goal.returns
returns c =
    c.of_rows.ensures
    ∙ rows_to-all EXPONENT c.args.reach c.field.result c.args.homology.now c.degrees.place c.degrees.rows.items refl
    (search rules) c.field.ensures c.degrees.invariant
