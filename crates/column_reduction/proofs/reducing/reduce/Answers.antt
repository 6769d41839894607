use Rattle.std.proofs.Common.{◌≡◌, ◌∙◌, List, ℤ, map, length, ap, arith, sym, subst, to_z, of_z, w16}
use Rattle.std.proofs.lemmas.Int.{ints}
use Rattle.kh_types.specs.Complex.{Pivot}
use Rattle.kh_types.specs.History.{replay}
use Rattle.sparse_block.specs.Complexes.{NamedComplex, complex_from, no_columns}
use Rattle.sparse_block.specs.Inside.{lists_in}
use Rattle.column_reduction.specs.Reductions.{IsReducedComplex}
use Rattle.column_reduction.specs.StoredColumns.{from_greatest, pivots_in}
use Rattle.column_reduction.proofs.Ends.{legal-reduced, zero-reduced}
use Rattle.column_reduction.proofs.Openings.{complex-left, sizes-left}
use Rattle.column_reduction.proofs.reducing.reduce.Goals as goal

pub zero-requires-clause-sizes : goal.zero-requires-clause-sizes
zero-requires-clause-sizes g c =
    let p = g.F.PrimeField.P in
    let whole = g.S.ColumnSource.whole c.args.source in
    let alive = lists_in c.in_ok-alive.field-0.alive.items in
    sizes-left p whole c.element_laws.ensures.field c.low-low.ensures.opening alive
    (from_greatest (pivots_in c.in_ok-alive.field-0.pivots.items)) c.in_ok-alive.ensures.alive
    ∙ ap (map length) (sym (c.into_names.ensures ∙ ap (λ (named : NamedComplex). named.names) (ap g.S.ColumnSource.whole c.in_ok-alive.ensures.same)))

pub returns-clause-left : goal.returns-clause-left
returns-clause-left g c =
    let p = g.F.PrimeField.P in
    let whole = g.S.ColumnSource.whole c.args.source in
    let alive = lists_in c.in_ok-alive.field-0.alive.items in
    let pivots = from_greatest (pivots_in c.in_ok-alive.field-0.pivots.items) in
    let fits : to_z w16 (of_z w16 c.low-low.result) ≡ c.low-low.result = omega (arith, ints, c.low-low.type_inv) in
    ap (λ (made : NamedComplex). made.complex) c.in_ok-complex.ensures
    ∙ ap (λ (low : ℤ). complex_from low alive (no_columns alive)) (fits ∙ c.low-low.ensures.low)
    ∙ complex-left p whole c.element_laws.ensures.field c.low-low.ensures.opening alive pivots c.in_ok-alive.ensures.alive
    c.in_ok-alive.ensures.reduced
    ∙ ap (replay p whole.complex) (sym c.in_ok-pivots.ensures)

pub returns-clause-reduced : goal.returns-clause-reduced
returns-clause-reduced g c =
    let p = g.F.PrimeField.P in
    let whole = g.S.ColumnSource.whole c.args.source in
    let made = c.in_ok-pivots.pivots.items in
    let named : IsReducedComplex p whole.complex made (replay p whole.complex made) =
    subst (λ (pivots : List Pivot). IsReducedComplex p whole.complex pivots (replay p whole.complex pivots))
    (sym c.in_ok-pivots.ensures) c.in_ok-alive.ensures.reduced in
    subst (IsReducedComplex p whole.complex made) (sym (returns-clause-left g c)) named

pub returns-clause-legal : goal.returns-clause-legal
returns-clause-legal g c =
    let whole = g.S.ColumnSource.whole c.args.source in
    legal-reduced g.F.PrimeField.P whole.complex _ c.in_ok-pivots.pivots.items c.element_laws.ensures.field
    c.low-low.ensures.opening.is_complex (returns-clause-reduced g c)

pub returns-clause-zero : goal.returns-clause-zero
returns-clause-zero g c =
    let whole = g.S.ColumnSource.whole c.args.source in
    zero-reduced g.F.PrimeField.P whole.complex _ c.in_ok-pivots.pivots.items c.element_laws.ensures.field
    c.low-low.ensures.opening.is_complex (returns-clause-reduced g c)
