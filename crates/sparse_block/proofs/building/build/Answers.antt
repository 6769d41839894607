use Rattle.std.proofs.Common.{◌≡◌, ◌∙◌, List, ℤ, pos, ◌+ℤ◌, ◌≤ℤ◌, arith, ap, map, length, sym, subst, to_z, of_z, w16}
use Rattle.std.proofs.lemmas.Int.{ints}
use Rattle.std.proofs.lemmas.List.{length-map}
use Rattle.std.specs.Global.{Vec}
use Rattle.kh_types.specs.Generators.{Generator}
use Rattle.smallvec.specs.SmallVec.{SmallVec}
use Rattle.sparse_block.specs.Entries.{Entry}
use Rattle.sparse_block.specs.Complexes.{all_alive, degrees_from, HaveEntries}
use Rattle.sparse_block.specs.Inside.{lines_in, lists_in, row_entries, IsKept}
use Rattle.sparse_block.proofs.BuildLemmas.{kept-built}
use Rattle.sparse_block.proofs.building.build.Goals as goal

pub all_rows-requires-clause-entries : goal.all_rows-requires-clause-entries
all_rows-requires-clause-entries g c =
    let p = g.F.PrimeField.P in (
      p,
      subst (λ (names : List (Vec Generator)). HaveEntries p (lists_in names) (lines_in c.deref-3.result.now))
          (sym c.deref-2.ensures.value)
          (subst (λ (columns : List (Vec (SmallVec Entry))). HaveEntries p (lists_in c.args.names.items) (lines_in columns))
          (sym c.deref-3.ensures.value) c.requires.entries),
    )

pub invariant_of-result : goal.invariant_of-result
invariant_of-result g c =
    let p = g.F.PrimeField.P in
    let names = c.args.names.items in
    let columns = c.args.columns.items in
    let alive = lists_in c.in_ok-alive.alive.items in
    let rows = c.in_ok-rows.rows.items in
    let count = length-map names (λ (degree : Vec Generator). degree.items) in
    let low : c.args.low ≡ to_z w16 (of_z w16 c.args.low) = omega (arith, ints, c.ranges.low) in
    let end : (c.args.low +ℤ pos (length (lists_in names))) ≤ℤ pos 32767 = omega (arith, ints, c.requires.end, count) in
    let kept =
    kept-built p c.args.low (lists_in names) alive (lines_in columns) rows
    (omega (arith, c.element_laws.ensures.field.above_one)) (omega (arith, c.requires.some, count)) end
    c.requires.counts c.requires.sizes c.requires.entries c.requires.squares
    (c.in_ok-alive.ensures ∙ ap (λ (names : List (Vec Generator)). all_alive (lists_in names)) c.deref.ensures.value)
    (c.in_ok-rows.ensures
    ∙ ap
    (λ (names : List (Vec Generator)).
    map row_entries (degrees_from (all_alive (lists_in names)) (lines_in c.deref-3.result.now)))
    c.deref-2.ensures.value
    ∙ ap (λ (columns : List (Vec (SmallVec Entry))). map row_entries (degrees_from (all_alive (lists_in names)) (lines_in columns)))
    c.deref-3.ensures.value) in
    subst (λ (columns : List (List (List Entry))). IsKept p (to_z w16 (of_z w16 c.args.low)) (lists_in names) alive columns rows)
    (sym c.in_ok-held.ensures)
    (subst (λ (low : ℤ). IsKept p low (lists_in names) alive (lines_in columns) rows) low kept)
