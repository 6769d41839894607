use Rattle.std.proofs.Common.{◌≤◌, ◌^◌, ◌∙◌, ℤ, List, length, ap, subst, sym}
use Rattle.std.specs.List.{All}
use Rattle.prime_field.specs.Residues.{IsSmallPrime}
use Rattle.kh_types.specs.StateSum.{euler, polynomial_text}
use Rattle.kh_types.specs.Table.{Table}
use Rattle.jones_sum.specs.Coefficients.{coefficient_in, coefficients_of}
use Rattle.scan_main.specs.SmallRows.{IsSmallRow}
use Rattle.scan_main.proofs.EulerLines.{AreFew-table, AreSmall-table, IsSmallPrime-field_size, euler-line}
use Rattle.scan_main.proofs.jones.jones_line_with.Goals as goal

pub euler-requires-clause-small : goal.euler-requires-clause-small
euler-requires-clause-small c =
    subst (λ (t : Table). All IsSmallRow t.rows) (sym c.requires)
    (AreSmall-table c.args.field c.args.diagram.now c.diagram_laws.ensures.accepted c.diagram_laws.ensures.few)

pub euler-requires-clause-few : goal.euler-requires-clause-few
euler-requires-clause-few c =
    subst (λ (t : Table). length t.rows ≤ 2 ^ 16) (sym c.requires)
    (AreFew-table c.args.field c.args.diagram.now c.diagram_laws.ensures.few)

pub returns : goal.returns
returns c =
    c.in_ok-print_jones.ensures.text
    ∙ ap (λ (coefficients : List ℤ). polynomial_text (coefficient_in coefficients)) c.euler.ensures
    ∙ ap (λ (t : Table). polynomial_text (coefficient_in (coefficients_of (euler t)))) c.requires
    ∙ euler-line c.args.field c.args.diagram.now (subst IsSmallPrime c.elements.ensures (IsSmallPrime-field_size c.elements.result))
    c.diagram_laws.ensures.accepted
    c.diagram_laws.ensures.few
