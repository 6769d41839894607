use Rattle.std.proofs.Common.{◌≡◌, ◌∙◌, List, ℤ, pos, ◌+ℤ◌, ◌≤ℤ◌, arith, ap, map, length, subst, to_z, of_z, w16, Bool}
use Rattle.std.proofs.lemmas.Int.{ints}
use Rattle.std.proofs.lemmas.List.{length-map}
use Rattle.std.specs.Global.{Vec}
use Rattle.kh_types.specs.Generators.{Generator}
use Rattle.sparse_block.specs.Complexes.{degrees_from, no_columns}
use Rattle.sparse_block.specs.Inside.{lists_in, row_entries, IsKept}
use Rattle.sparse_block.proofs.ZeroComplexes.{kept-zero}
use Rattle.sparse_block.proofs.complex.Complex.zero.Goals as goal

pub invariant_of-result : goal.invariant_of-result
invariant_of-result g c =
    let p = g.F.PrimeField.P in
    let names = c.args.names.items in
    let alive = lists_in c.args.alive.items in
    let columns = c.in_ok-columns.columns.items in
    let rows = c.in_ok-rows.rows.items in
    let count = length-map names (λ (degree : Vec Generator). degree.items) in
    let low : c.args.low ≡ to_z w16 (of_z w16 c.args.low) = omega (arith, ints, c.ranges.low) in
    let end : (c.args.low +ℤ pos (length (lists_in names))) ≤ℤ pos 32767 = omega (arith, ints, c.requires.end, count) in
    subst (λ (low : ℤ). IsKept p low (lists_in names) alive columns rows) low
    (kept-zero p c.args.low alive (lists_in names) columns rows
    (omega (arith, c.element_laws.ensures.field.above_one)) (omega (arith, c.requires.some, count)) end
    c.requires.counts c.requires.sizes
    (c.in_ok-columns.ensures ∙ ap (λ (alive : List (Vec Bool)). no_columns (lists_in alive)) c.deref.ensures.value)
    (c.in_ok-rows.ensures
    ∙ ap (λ (alive : List (Vec Bool)). map row_entries (degrees_from (lists_in alive) (no_columns (lists_in alive))))
    c.deref-2.ensures.value))
