use Rattle.std.proofs.Common.{◌≡◌, ℕ, ◌∙◌, ℤ, List, sym, subst, ap, arith, to_z, of_z, w16}
use Rattle.std.proofs.lemmas.Int.{ints}
use Rattle.kh_types.specs.Complex.{Complex, IsComplex, IsPivot, Pivot, cancel, pivot_at}
use Rattle.prime_field.specs.Residues.{IsField}
use Rattle.sparse_block.specs.Changes.{AreChanged, PlacedLine}
use Rattle.cancel_step.specs.Sides.{line_on, lines_across, other_side}
use Rattle.cancel_step.specs.declared.side.Side.{Side}
use Rattle.cancel_step.proofs.ChangedLemmas.{lines-changed}
use Rattle.cancel_step.proofs.SideLemmas.{size_on}
use Rattle.cancel_step.proofs.applying.exchange.Goals as goal

-- the changed lines of a side, for a pivot that is written otherwise
changed : (side : Side) (p : ℕ) (complex : Complex) (pivot written : Pivot) (lines : List PlacedLine) → IsField p
    → IsComplex p complex → IsPivot complex pivot → written ≡ pivot → lines ≡ lines_across side complex pivot (cancel p complex pivot)
    → AreChanged (size_on (other_side side) complex written.degree) (line_on side complex written.degree)
    (line_on side (cancel p complex written) written.degree) lines
changed side p complex pivot written lines field is is_pivot same are =
    let Changed : Pivot → List PlacedLine → Type 0 =
    λ pivot lines.
    AreChanged (size_on (other_side side) complex pivot.degree) (line_on side complex pivot.degree)
    (line_on side (cancel p complex pivot) pivot.degree) lines in
    subst (λ (pivot : Pivot). Changed pivot lines) (sym same)
    (subst (Changed pivot) (sym are) (lines-changed p complex pivot field is is_pivot side))

pub exchange-requires-clause-columns : goal.exchange-requires-clause-columns
exchange-requires-clause-columns g c =
    let inside = c.pivot.inside in
    let same : to_z w16 (of_z w16 inside.degree) ≡ inside.degree = omega (arith, ints, c.pivot.ranges) in
    changed Side.Columns g.F.PrimeField.P c.args.complex.now.complex c.args.pivot _ c.args.columns.items c.element_laws.ensures.field
    c.complex_laws.ensures.complex c.requires.pivot (ap (λ (i : ℤ). pivot_at i inside.column inside.row) same ∙ c.pivot.view_is)
    c.requires.columns

pub exchange-requires-clause-rows : goal.exchange-requires-clause-rows
exchange-requires-clause-rows g c =
    let inside = c.pivot.inside in
    let same : to_z w16 (of_z w16 inside.degree) ≡ inside.degree = omega (arith, ints, c.pivot.ranges) in
    changed Side.Rows g.F.PrimeField.P c.args.complex.now.complex c.args.pivot _ c.args.rows.items c.element_laws.ensures.field
    c.complex_laws.ensures.complex c.requires.pivot (ap (λ (i : ℤ). pivot_at i inside.column inside.row) same ∙ c.pivot.view_is)
    c.requires.rows
