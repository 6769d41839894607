use Rattle.std.proofs.Common.{rules, ◌≡◌, ◌∙◌, ap, length, subst, to_z, of_z, w16}
use Rattle.kh_types.specs.Code.{Code}
use Rattle.homology_tables.specs.DegreeRows.{AddsAllOrNone}
use Rattle.shared_block.proofs.BlockRows.{rows-finished}
use Rattle.shared_block.proofs.rows.push_rows.Goals as goal

pub returns : goal.returns
returns g c =
    let same : to_z w16 (of_z w16 c.degree.result) ≡ c.degree.result = search rules in
    subst (AddsAllOrNone c.push_rows.result c.args.rows.now.items c.push_rows.new.rows.items)
    (rows-finished g.F.PrimeField.P c.args.block.now c.complex.result.now.complex (length c.crossings-reach.result.now) _ c.element_laws.ensures.field
    c.block_laws.ensures.code c.block_laws.ensures.legal c.requires c.complex.ensures
    (ap length c.crossings-reach.ensures.crossings ∙ ap (λ (code : Code). length code.crossings) c.diagram.ensures) (same ∙ c.degree.ensures)) c.push_rows.ensures
