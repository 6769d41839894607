use Rattle.std.proofs.lemmas.Bool.Decides.{nat_tests}
use Rattle.std.proofs.Common.{◌≡◌, ◌+◌, ◌<◌, ◌∙◌, List, [], pos, ◌+ℤ◌, length, set, ap, sym, subst, arith, Bool}
use Rattle.std.specs.Prelude.{slice_index_or}
use Rattle.std.specs.Global.{Vec}
use Rattle.std.proofs.lemmas.List.{get_or_default, length-map}
use Rattle.kh_types.specs.Complex.{IsPivot, cancel, pivot_at}
use Rattle.sparse_block.specs.Entries.{Entry}
use Rattle.sparse_block.specs.Changes.{AreChanged, Exchange}
use Rattle.sparse_block.specs.Clearing.{AreExchanged, CanClear, crossed_out, crossed_out_before, emptied, emptied_before, with_dead}
use Rattle.sparse_block.specs.Complexes.{column_of, place_count, row_of}
use Rattle.sparse_block.specs.Held.{no_entries}
use Rattle.sparse_block.specs.Inside.{lists_in}
use Rattle.sparse_block.proofs.CancelledLists.{HaveOwn, alive-within, column-alive, row-alive, clear-after, clear-before, k-within, some-columns, some-rows}
use Rattle.sparse_block.proofs.CancelledHeld.{held-written}
use Rattle.sparse_block.proofs.ClearingLemmas.{places}
use Rattle.sparse_block.proofs.KeptLemmas.{length-column, length-columns, length-row, length-rows}
use Rattle.sparse_block.proofs.OwnLines.{own-exchanged}
use Rattle.sparse_block.proofs.complex.Complex.exchange.Given.{Over}
use Rattle.sparse_block.proofs.complex.Complex.exchange.Goals.{After-distance-k, After-deref_mut-2, After-index_mut, After-index_mut-2}
use Rattle.sparse_block.proofs.complex.Complex.exchange.Goals as goal

pub distance-k-requires : goal.distance-k-requires
distance-k-requires = grind (arith, nat_tests)

is_pivot : (g : Over) (c : After-distance-k g)
    → IsPivot c.args.self.now.complex (pivot_at c.change.inside.degree c.change.inside.column c.change.inside.row)
is_pivot g c = subst (λ (change : Exchange). IsPivot c.args.self.now.complex change.pivot) (sym c.change.view_is) c.requires.pivot

is_distance : (g : Over) (c : After-distance-k g) → c.change.inside.degree ≡ c.self.inside.low +ℤ pos c.distance-k.result
is_distance g c = grind (arith, nat_tests)

within : (g : Over) (c : After-distance-k g) → c.distance-k.result + 1 < length (lists_in c.self.inside.names.items)
within g c =
    let change = c.change.inside in
    k-within c.self.invariant c.self.view_is (pivot_at change.degree change.column change.row) (is_pivot g c) c.distance-k.result
    (is_distance g c)

columns_within : (g : Over) (c : After-distance-k g) → c.distance-k.result < length c.self.inside.columns.items
columns_within g c = omega (arith, within g c, length-columns c.self.invariant)

rows_within : (g : Over) (c : After-distance-k g) → c.distance-k.result < length c.self.inside.rows.items
rows_within g c = omega (arith, within g c, length-rows c.self.invariant)

pub index_mut-requires : goal.index_mut-requires
index_mut-requires g c =
    let at = (goal.at.index_mut-requires g c).After-distance-k in
    omega (arith, columns_within g at, c.self.inside.columns.ok.0)

changed_columns : (g : Over) (c : After-distance-k g)
    → AreChanged (place_count c.args.self.now.complex c.change.inside.degree)
    (column_of c.args.self.now.complex c.change.inside.degree)
    (column_of (cancel g.F.PrimeField.P c.args.self.now.complex
    (pivot_at c.change.inside.degree c.change.inside.column c.change.inside.row)) c.change.inside.degree)
    c.change.inside.columns.items
changed_columns g c = grind (arith, nat_tests)

changed_rows : (g : Over) (c : After-distance-k g)
    → AreChanged (place_count c.args.self.now.complex (c.change.inside.degree +ℤ pos 1))
    (row_of c.args.self.now.complex c.change.inside.degree)
    (row_of (cancel g.F.PrimeField.P c.args.self.now.complex
    (pivot_at c.change.inside.degree c.change.inside.column c.change.inside.row)) c.change.inside.degree)
    c.change.inside.rows.items
changed_rows g c = grind (arith, nat_tests)

old_columns : (g : Over) (c : After-index_mut g)
    → c.index_mut.result.now ≡ slice_index_or c.self.inside.columns.items c.distance-k.result []
old_columns g c =
    let at = (goal.at.exchange-requires-clause-some g c).After-distance-k in
    c.index_mut.ensures.value
    ∙ get_or_default c.self.inside.columns.items c.distance-k.result c.index_mut.result.now [] (columns_within g at)

pub exchange-requires-clause-some : goal.exchange-requires-clause-some
exchange-requires-clause-some g c =
    let at = (goal.at.exchange-requires-clause-some g c).After-distance-k in
    let change = c.change.inside in
    ap no_entries (old_columns g c)
    ∙ some-columns c.self.invariant c.self.view_is (pivot_at change.degree change.column change.row) (is_pivot g at)
    c.distance-k.result (is_distance g at)

pub exchange-requires-clause-places : goal.exchange-requires-clause-places
exchange-requires-clause-places g c j d j_within =
    let at = (goal.at.exchange-requires-clause-places g c).After-distance-k in
    omega (
      arith,
      (changed_columns g at).within j d j_within,
      length-column c.self.invariant c.self.view_is c.change.inside.degree c.distance-k.result (is_distance g at)
          (omega (arith, within g at)),
      ap length (old_columns g c),
    )

pub index_mut-requires-2 : goal.index_mut-requires-2
index_mut-requires-2 g c =
    let at = (goal.at.index_mut-requires-2 g c).After-distance-k in
    omega (arith, rows_within g at, c.self.inside.rows.ok.0)

old_rows : (g : Over) (c : After-index_mut-2 g)
    → c.index_mut-2.result.now ≡ slice_index_or c.self.inside.rows.items c.distance-k.result []
old_rows g c =
    let at = (goal.at.exchange-requires-2-clause-some g c).After-distance-k in
    c.index_mut-2.ensures.value
    ∙ get_or_default c.self.inside.rows.items c.distance-k.result c.index_mut-2.result.now [] (rows_within g at)

pub exchange-requires-2-clause-some : goal.exchange-requires-2-clause-some
exchange-requires-2-clause-some g c =
    let at = (goal.at.exchange-requires-2-clause-some g c).After-distance-k in
    let change = c.change.inside in
    ap no_entries (old_rows g c)
    ∙ some-rows c.self.invariant c.self.view_is (pivot_at change.degree change.column change.row) (is_pivot g at)
    c.distance-k.result (is_distance g at)

pub exchange-requires-2-clause-places : goal.exchange-requires-2-clause-places
exchange-requires-2-clause-places g c j d j_within =
    let at = (goal.at.exchange-requires-2-clause-places g c).After-distance-k in
    omega (
      arith,
      (changed_rows g at).within j d j_within,
      length-row c.self.invariant c.self.view_is c.change.inside.degree c.distance-k.result (is_distance g at)
          (omega (arith, within g at)),
      ap length (old_rows g c),
    )

own : (g : Over) (c : After-deref_mut-2 g)
    → HaveOwn g.F.PrimeField.P c.args.self.now.complex
    (pivot_at c.change.inside.degree c.change.inside.column c.change.inside.row) c.distance-k.result
    c.self.inside.columns.items c.self.inside.rows.items
    (set c.self.inside.columns.items c.distance-k.result c.exchange.new.self)
    (set c.self.inside.rows.items c.distance-k.result c.exchange-2.new.self)
own g c =
    let path = goal.at.clear_neighbours-requires-clause-before g c in
    let at = path.After-distance-k in
    let change = c.change.inside in
    own-exchanged c.self.invariant c.self.view_is (pivot_at change.degree change.column change.row) (is_pivot g at)
    c.distance-k.result (is_distance g at) change.columns.items change.rows.items c.exchange.new.self
    c.exchange-2.new.self (changed_columns g at) (changed_rows g at)
    (subst (λ (old : List (List Entry)). AreExchanged change.columns.items old c.exchange.new.self)
    (old_columns g path.After-index_mut) c.exchange.ensures)
    (subst (λ (old : List (List Entry)). AreExchanged change.rows.items old c.exchange-2.new.self)
    (old_rows g path.After-index_mut-2) c.exchange-2.ensures)

now_columns : (g : Over) (c : After-deref_mut-2 g)
    → c.deref_mut.result.now ≡ set c.self.inside.columns.items c.distance-k.result c.exchange.new.self
now_columns g c = c.deref_mut.ensures.value

now_rows : (g : Over) (c : After-deref_mut-2 g)
    → c.deref_mut-2.result.now ≡ set c.self.inside.rows.items c.distance-k.result c.exchange-2.new.self
now_rows g c = c.deref_mut-2.ensures.value

pub clear_neighbours-requires-clause-before : goal.clear_neighbours-requires-clause-before
clear_neighbours-requires-clause-before g c j next =
    let path = goal.at.clear_neighbours-requires-clause-before g c in
    let at = path.After-distance-k in
    let change = c.change.inside in
    subst (λ (rows : List (List (List Entry))). CanClear j change.column rows c.deref_mut.result.now) (sym (now_rows g c))
    (subst
    (CanClear j change.column
    (set c.self.inside.rows.items c.distance-k.result c.exchange-2.new.self))
    (sym (now_columns g c))
    (clear-before c.self.invariant c.self.view_is (pivot_at change.degree change.column change.row) (is_pivot g at)
    c.distance-k.result (is_distance g at) (own g c) j next))

pub clear_neighbours-requires-clause-after : goal.clear_neighbours-requires-clause-after
clear_neighbours-requires-clause-after g c =
    let path = goal.at.clear_neighbours-requires-clause-after g c in
    let at = path.After-distance-k in
    let change = c.change.inside in
    let k = c.distance-k.result in
    subst (λ (columns : List (List (List Entry))). CanClear (k + 1) change.row columns c.deref_mut-2.result.now)
    (sym (now_columns g c))
    (subst
    (CanClear (k + 1) change.row (set c.self.inside.columns.items k c.exchange.new.self))
    (sym (now_rows g c))
    (clear-after c.self.invariant c.self.view_is (pivot_at change.degree change.column change.row) (is_pivot g at) k
    (is_distance g at) (own g c)))

pub kill-requires-clause-degree : goal.kill-requires-clause-degree
kill-requires-clause-degree g c =
    let at = (goal.at.kill-requires-clause-degree g c).After-distance-k in
    let change = c.change.inside in
    let alive = c.self.inside.alive.items in
    omega (
      arith,
      alive-within c.self.invariant c.self.view_is (pivot_at change.degree change.column change.row) (is_pivot g at)
          c.distance-k.result (is_distance g at),
      length-map alive places,
      ap length c.deref_mut-3.ensures.value,
    )

pub kill-requires-clause-column : goal.kill-requires-clause-column
kill-requires-clause-column g c =
    let at = (goal.at.kill-requires-clause-column g c).After-distance-k in
    let change = c.change.inside in
    omega (
      arith,
      column-alive c.self.invariant c.self.view_is (pivot_at change.degree change.column change.row) (is_pivot g at)
          c.distance-k.result (is_distance g at),
      ap (λ (alive : List (Vec Bool)). length (slice_index_or (lists_in alive) c.distance-k.result []))
          c.deref_mut-3.ensures.value,
    )

pub kill-requires-clause-row : goal.kill-requires-clause-row
kill-requires-clause-row g c =
    let at = (goal.at.kill-requires-clause-row g c).After-distance-k in
    let change = c.change.inside in
    omega (
      arith,
      row-alive c.self.invariant c.self.view_is (pivot_at change.degree change.column change.row) (is_pivot g at)
          c.distance-k.result (is_distance g at),
      ap (λ (alive : List (Vec Bool)). length (slice_index_or (lists_in alive) (c.distance-k.result + 1) []))
          c.deref_mut-3.ensures.value,
    )

pub invariant_of-self : goal.invariant_of-self
invariant_of-self g c =
    let path = goal.at.invariant_of-self g c in
    let at = path.After-distance-k in
    let late = path.After-deref_mut-2 in
    let change = c.change.inside in
    let k = c.distance-k.result in
    (held-written c.self.invariant c.self.view_is (pivot_at change.degree change.column change.row) (is_pivot g at) k
    (is_distance g at) c.element_laws.ensures.field (own g late) c.self.inside.alive.len c.self.inside.columns.len
    c.self.inside.rows.len c.kill.new.alive _ c.clear_neighbours.new.columns _ c.clear_neighbours.new.rows _
    (omega (arith, c.kill.auto.alive, c.deref_mut-3.ensures.len))
    (omega (arith, c.clear_neighbours.auto.columns, c.deref_mut.ensures.len))
    (omega (arith, c.clear_neighbours.auto.rows, c.deref_mut-2.ensures.len))
    (c.kill.ensures
    ∙ ap (λ (alive : List (Vec Bool)). with_dead (k + 1) change.row (with_dead k change.column (lists_in alive)))
    c.deref_mut-3.ensures.value)
    (c.clear_neighbours.ensures.columns
    ∙ ap (λ (columns : List (List (List Entry))). emptied (k + 1) change.row (crossed_out_before k change.column columns))
    (now_columns g late))
    (c.clear_neighbours.ensures.rows
    ∙ ap (λ (rows : List (List (List Entry))). crossed_out (k + 1) change.row (emptied_before k change.column rows))
    (now_rows g late))).is_kept

pub returns-clause-complex : goal.returns-clause-complex
returns-clause-complex g c =
    let path = goal.at.returns-clause-complex g c in
    let at = path.After-distance-k in
    let late = path.After-deref_mut-2 in
    let change = c.change.inside in
    let k = c.distance-k.result in
    (held-written c.self.invariant c.self.view_is (pivot_at change.degree change.column change.row) (is_pivot g at) k
    (is_distance g at) c.element_laws.ensures.field (own g late) c.self.inside.alive.len c.self.inside.columns.len
    c.self.inside.rows.len c.kill.new.alive _ c.clear_neighbours.new.columns _ c.clear_neighbours.new.rows []
    (omega (arith, c.kill.auto.alive, c.deref_mut-3.ensures.len))
    (omega (arith, c.clear_neighbours.auto.columns, c.deref_mut.ensures.len))
    (omega (arith, c.clear_neighbours.auto.rows, c.deref_mut-2.ensures.len))
    (c.kill.ensures
    ∙ ap (λ (alive : List (Vec Bool)). with_dead (k + 1) change.row (with_dead k change.column (lists_in alive)))
    c.deref_mut-3.ensures.value)
    (c.clear_neighbours.ensures.columns
    ∙ ap (λ (columns : List (List (List Entry))). emptied (k + 1) change.row (crossed_out_before k change.column columns))
    (now_columns g late))
    (c.clear_neighbours.ensures.rows
    ∙ ap (λ (rows : List (List (List Entry))). crossed_out (k + 1) change.row (emptied_before k change.column rows))
    (now_rows g late))).is_seen
    ∙ ap (λ (change : Exchange). cancel g.F.PrimeField.P c.args.self.now.complex change.pivot) c.change.view_is
