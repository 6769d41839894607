use Rattle.std.proofs.Common.{◌≡◌, ◌∙◌, ◌+◌, ◌/◌, ◌≤◌, ℤ, map, length, vec_capacity, ap, sym, subst, arith, to_z, of_z, w16}
use Rattle.std.proofs.lemmas.Int.{ints}
use Rattle.kh_types.specs.Complex.{Complex}
use Rattle.sparse_block.specs.Complexes.{NamedComplex, complex_from, no_columns}
use Rattle.sparse_block.specs.Inside.{lists_in}
use Rattle.sparse_block.specs.Complexes.{live_places}
use Rattle.column_reduction.proofs.Ended.{legal-held, zero-held}
use Rattle.column_reduction.proofs.Openings.{sizes-left}
use Rattle.column_reduction.proofs.under_way.ColumnReduction.finish.Goals as goal

pub zero-requires-clause-sizes : goal.zero-requires-clause-sizes
zero-requires-clause-sizes g c =
    let held = c.args.self in
    sizes-left g.F.PrimeField.P (g.S.ColumnSource.whole c.args.source) c.element_laws.ensures.field c.low-low.ensures.opening
    (lists_in held.alive.items) held.history.items c.requires.reduction.alive_is
    ∙ ap (map length) (sym c.into_names.ensures)

pub returns-clause-left : goal.returns-clause-left
returns-clause-left g c =
    let held = c.args.self in
    let alive = lists_in held.alive.items in
    let fits : to_z w16 (of_z w16 c.low-low.result) ≡ c.low-low.result = omega (arith, ints, c.low-low.type_inv) in
    ap (λ (made : NamedComplex). made.complex) c.in_ok-complex.ensures
    ∙ ap (λ (low : ℤ). complex_from low alive (no_columns alive)) (fits ∙ c.low-low.ensures.low)
    ∙ zero-held g.F.PrimeField.P (g.S.ColumnSource.whole c.args.source).complex c.element_laws.ensures.field held c.requires.reduction
    c.requires.zero

pub returns-clause-legal : goal.returns-clause-legal
returns-clause-legal g c =
    legal-held g.F.PrimeField.P (g.S.ColumnSource.whole c.args.source).complex c.element_laws.ensures.field c.args.self
    c.requires.reduction

pub returns-clause-room : goal.returns-clause-room
returns-clause-room g c =
    let held = c.args.self in
    subst (λ (left : Complex). length held.history.items + live_places left / 2 ≤ vec_capacity held.history)
    (sym (returns-clause-left g c)) c.requires.reduction.spare
