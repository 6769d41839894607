use Rattle.std.proofs.lemmas.Bool.Decides.{nat_tests}
use Rattle.std.proofs.Common.{◌≡◌, ◌+◌, ◌∙◌, List, [], pos, ◌+ℤ◌, length, ap, sym, subst, arith, Bool}
use Rattle.std.specs.Prelude.{slice_index_or}
use Rattle.std.specs.Global.{Vec}
use Rattle.std.proofs.lemmas.List.{length-map}
use Rattle.kh_types.specs.Complex.{pivot_at}
use Rattle.sparse_block.specs.Entries.{Entry}
use Rattle.sparse_block.specs.Clearing.{CanClear, crossed_out, crossed_out_before, emptied, emptied_before, with_dead}
use Rattle.sparse_block.specs.Inside.{lists_in}
use Rattle.sparse_block.proofs.CancelledLists.{HaveOwn, alive-within, column-alive, row-alive, clear-after, clear-before, clear-own_column, clear-own_row}
use Rattle.sparse_block.proofs.CancelledHeld.{held-written}
use Rattle.sparse_block.proofs.ClearingLemmas.{places, taken-whole}
use Rattle.sparse_block.proofs.OwnLines.{alone-from_entries, own-cleared}
use Rattle.sparse_block.proofs.complex.Complex.drop_pair.Given.{Over}
use Rattle.sparse_block.proofs.complex.Complex.drop_pair.Goals.{After-distance-k, After-deref_mut-2, After-deref_mut-4}
use Rattle.sparse_block.proofs.complex.Complex.drop_pair.Goals as goal

pub distance-k-requires : goal.distance-k-requires
distance-k-requires = grind (arith, nat_tests)

is_distance : (g : Over) (c : After-distance-k g) → c.args.degree ≡ c.self.inside.low +ℤ pos c.distance-k.result
is_distance g c = grind (arith, nat_tests)

pub clear_own-requires-clause-row : goal.clear_own-requires-clause-row
clear_own-requires-clause-row g c =
    let at = (goal.at.clear_own-requires-clause-row g c).After-distance-k in
    let k = c.distance-k.result in
    let row = c.args.row in
    subst (λ (rows : List (List (List Entry))). CanClear k row rows c.deref_mut.result.now)
    (sym c.deref_mut-2.ensures.value)
    (subst (λ (columns : List (List (List Entry))). CanClear k row c.self.inside.rows.items columns)
    (sym c.deref_mut.ensures.value)
    (clear-own_row c.self.invariant c.self.view_is (pivot_at c.args.degree c.args.column row) c.requires.pivot k
    (is_distance g at)))

pub clear_own-requires-clause-column : goal.clear_own-requires-clause-column
clear_own-requires-clause-column g c =
    let at = (goal.at.clear_own-requires-clause-column g c).After-distance-k in
    let k = c.distance-k.result in
    let column = c.args.column in
    subst (λ (columns : List (List (List Entry))). CanClear k column columns c.deref_mut-2.result.now)
    (sym c.deref_mut.ensures.value)
    (subst (λ (rows : List (List (List Entry))). CanClear k column c.self.inside.columns.items rows)
    (sym c.deref_mut-2.ensures.value)
    (clear-own_column c.self.invariant c.self.view_is (pivot_at c.args.degree column c.args.row) c.requires.pivot k
    (is_distance g at)))

own : (g : Over) (c : After-deref_mut-4 g)
    → HaveOwn g.F.PrimeField.P c.args.self.now.complex (pivot_at c.args.degree c.args.column c.args.row) c.distance-k.result
    c.self.inside.columns.items c.self.inside.rows.items
    (emptied c.distance-k.result c.args.column (crossed_out c.distance-k.result c.args.row c.self.inside.columns.items))
    (crossed_out c.distance-k.result c.args.column (emptied c.distance-k.result c.args.row c.self.inside.rows.items))
own g c =
    let at = (goal.at.clear_neighbours-requires-clause-before g c).After-distance-k in
    let pivot = pivot_at c.args.degree c.args.column c.args.row in
    own-cleared c.self.invariant c.self.view_is pivot c.requires.pivot c.distance-k.result (is_distance g at)
    c.element_laws.ensures.field (alone-from_entries c.args.self.now.complex pivot c.requires.pivot c.requires.alone)

now_columns : (g : Over) (c : After-deref_mut-4 g)
    → c.deref_mut-3.result.now
    ≡ emptied c.distance-k.result c.args.column (crossed_out c.distance-k.result c.args.row c.self.inside.columns.items)
now_columns g c = grind (arith, nat_tests, taken-whole)

now_rows : (g : Over) (c : After-deref_mut-4 g)
    → c.deref_mut-4.result.now
    ≡ crossed_out c.distance-k.result c.args.column (emptied c.distance-k.result c.args.row c.self.inside.rows.items)
now_rows g c = grind (arith, nat_tests, taken-whole)

pub clear_neighbours-requires-clause-before : goal.clear_neighbours-requires-clause-before
clear_neighbours-requires-clause-before g c j next =
    let at = (goal.at.clear_neighbours-requires-clause-before g c).After-distance-k in
    let k = c.distance-k.result in
    let column = c.args.column in
    subst (λ (rows : List (List (List Entry))). CanClear j column rows c.deref_mut-3.result.now) (sym (now_rows g c))
    (subst
    (CanClear j column (crossed_out k column (emptied k c.args.row c.self.inside.rows.items)))
    (sym (now_columns g c))
    (clear-before c.self.invariant c.self.view_is (pivot_at c.args.degree column c.args.row) c.requires.pivot k
    (is_distance g at) (own g c) j next))

pub clear_neighbours-requires-clause-after : goal.clear_neighbours-requires-clause-after
clear_neighbours-requires-clause-after g c =
    let at = (goal.at.clear_neighbours-requires-clause-after g c).After-distance-k in
    let k = c.distance-k.result in
    let row = c.args.row in
    subst (λ (columns : List (List (List Entry))). CanClear (k + 1) row columns c.deref_mut-4.result.now)
    (sym (now_columns g c))
    (subst
    (CanClear (k + 1) row (emptied k c.args.column (crossed_out k row c.self.inside.columns.items)))
    (sym (now_rows g c))
    (clear-after c.self.invariant c.self.view_is (pivot_at c.args.degree c.args.column row) c.requires.pivot k
    (is_distance g at) (own g c)))

pub kill-requires-clause-degree : goal.kill-requires-clause-degree
kill-requires-clause-degree g c =
    let at = (goal.at.kill-requires-clause-degree g c).After-distance-k in
    omega (
      arith,
      alive-within c.self.invariant c.self.view_is (pivot_at c.args.degree c.args.column c.args.row) c.requires.pivot
          c.distance-k.result (is_distance g at),
      length-map c.self.inside.alive.items places,
      ap length c.deref_mut-5.ensures.value,
    )

pub kill-requires-clause-column : goal.kill-requires-clause-column
kill-requires-clause-column g c =
    let at = (goal.at.kill-requires-clause-column g c).After-distance-k in
    omega (
      arith,
      column-alive c.self.invariant c.self.view_is (pivot_at c.args.degree c.args.column c.args.row) c.requires.pivot
          c.distance-k.result (is_distance g at),
      ap (λ (alive : List (Vec Bool)). length (slice_index_or (lists_in alive) c.distance-k.result []))
          c.deref_mut-5.ensures.value,
    )

pub kill-requires-clause-row : goal.kill-requires-clause-row
kill-requires-clause-row g c =
    let at = (goal.at.kill-requires-clause-row g c).After-distance-k in
    omega (
      arith,
      row-alive c.self.invariant c.self.view_is (pivot_at c.args.degree c.args.column c.args.row) c.requires.pivot
          c.distance-k.result (is_distance g at),
      ap (λ (alive : List (Vec Bool)). length (slice_index_or (lists_in alive) (c.distance-k.result + 1) []))
          c.deref_mut-5.ensures.value,
    )

pub invariant_of-self : goal.invariant_of-self
invariant_of-self g c =
    let path = goal.at.invariant_of-self g c in
    let at = path.After-distance-k in
    let late = path.After-deref_mut-4 in
    let column = c.args.column in
    let row = c.args.row in
    let k = c.distance-k.result in
    (held-written c.self.invariant c.self.view_is (pivot_at c.args.degree column row) c.requires.pivot k (is_distance g at)
    c.element_laws.ensures.field (own g late) c.self.inside.alive.len c.self.inside.columns.len c.self.inside.rows.len
    c.kill.new.alive _ c.clear_neighbours.new.columns _ c.clear_neighbours.new.rows _
    (omega (arith, c.kill.auto.alive, c.deref_mut-5.ensures.len))
    (omega (arith, c.clear_neighbours.auto.columns, c.deref_mut-3.ensures.len))
    (omega (arith, c.clear_neighbours.auto.rows, c.deref_mut-4.ensures.len))
    (c.kill.ensures
    ∙ ap (λ (alive : List (Vec Bool)). with_dead (k + 1) row (with_dead k column (lists_in alive))) c.deref_mut-5.ensures.value)
    (c.clear_neighbours.ensures.columns
    ∙ ap (λ (columns : List (List (List Entry))). emptied (k + 1) row (crossed_out_before k column columns))
    (now_columns g late))
    (c.clear_neighbours.ensures.rows
    ∙ ap (λ (rows : List (List (List Entry))). crossed_out (k + 1) row (emptied_before k column rows))
    (now_rows g late))).is_kept

pub returns-clause-complex : goal.returns-clause-complex
returns-clause-complex g c =
    let path = goal.at.returns-clause-complex g c in
    let at = path.After-distance-k in
    let late = path.After-deref_mut-4 in
    let column = c.args.column in
    let row = c.args.row in
    let k = c.distance-k.result in
    (held-written c.self.invariant c.self.view_is (pivot_at c.args.degree column row) c.requires.pivot k (is_distance g at)
    c.element_laws.ensures.field (own g late) c.self.inside.alive.len c.self.inside.columns.len c.self.inside.rows.len
    c.kill.new.alive _ c.clear_neighbours.new.columns _ c.clear_neighbours.new.rows []
    (omega (arith, c.kill.auto.alive, c.deref_mut-5.ensures.len))
    (omega (arith, c.clear_neighbours.auto.columns, c.deref_mut-3.ensures.len))
    (omega (arith, c.clear_neighbours.auto.rows, c.deref_mut-4.ensures.len))
    (c.kill.ensures
    ∙ ap (λ (alive : List (Vec Bool)). with_dead (k + 1) row (with_dead k column (lists_in alive))) c.deref_mut-5.ensures.value)
    (c.clear_neighbours.ensures.columns
    ∙ ap (λ (columns : List (List (List Entry))). emptied (k + 1) row (crossed_out_before k column columns))
    (now_columns g late))
    (c.clear_neighbours.ensures.rows
    ∙ ap (λ (rows : List (List (List Entry))). crossed_out (k + 1) row (emptied_before k column rows))
    (now_rows g late))).is_seen
