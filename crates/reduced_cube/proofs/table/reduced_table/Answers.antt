use Rattle.std.proofs.Common.{rules, ◌≡◌, ◌∙◌, pos, ◌+ℤ◌, ◌-ℤ◌, ap, true}
use Rattle.kh_types.specs.StateSum.{euler}
use Rattle.kh_types.specs.Table.{Table}
use Rattle.reduced_cube.specs.Reduced.{is_mark}
use Rattle.reduced_cube.proofs.MarkLemmas.{IsName-mark}
use Rattle.reduced_cube.proofs.ReducedSums.{euler-product}
use Rattle.reduced_cube.proofs.table.reduced_table.Goals as goal

pub returns-in-Ok-clause-euler : goal.returns-in-Ok-clause-euler
returns-in-Ok-clause-euler g c e =
    let code = c.args.diagram.now in
    let passes : is_mark code c.args.mark ≡ true = search rules in
    ap (λ (table : Table). euler table (e -ℤ pos 1) +ℤ euler table (e +ℤ pos 1)) c.in-Ok.ensures
    ∙ euler-product g.F.PrimeField.P code c.args.mark e c.element_laws.ensures.field c.diagram_laws.ensures.accepted
    c.diagram_laws.ensures.few (IsName-mark code c.args.mark passes)
