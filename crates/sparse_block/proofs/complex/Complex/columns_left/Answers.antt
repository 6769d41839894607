use Rattle.std.proofs.Common.{◌∙◌, List, [], ap, arith, length, rules, sym}
use Rattle.std.specs.Prelude.{slice_index_or}
use Rattle.std.specs.Global.{Vec}
use Rattle.kh_types.specs.Generators.{Generator}
use Rattle.sparse_block.specs.Entries.{Entry}
use Rattle.sparse_block.specs.Held.{no_entries}
use Rattle.sparse_block.specs.Inside.{lists_in}
use Rattle.sparse_block.proofs.KeptLemmas.{columns-none, distance-from, places-at}
use Rattle.sparse_block.proofs.complex.Complex.columns_left.Goals as goal

pub returns-then-has_no_entries : goal.returns-then-has_no_entries
returns-then-has_no_entries g c column past within =
    let k = c.distance-k.result in
    let is_distance = distance-from c.self.inside.low c.args.i k (search rules) c.ranges.i c.distance-k.ensures in
    columns-none c.self.invariant c.self.view_is c.args.i k column is_distance
    (ap (λ (columns : List (List (List Entry))). no_entries (slice_index_or columns k [])) (sym c.deref.ensures.value)
    ∙ sym c.has_no_entries.ensures ∙ c.if-has_no_entries.true)
    within

pub returns : goal.returns
returns g c column past within =
    let k = c.distance-k.result in
    let is_distance = distance-from c.self.inside.low c.args.i k (search rules) c.ranges.i c.distance-k.ensures in
    absurd
    (omega (
      arith,
      past,
      within,
      c.name_count.ensures
          ∙ ap (λ (names : List (Vec Generator)). length (slice_index_or (lists_in names) k [])) c.deref-2.ensures.value,
      places-at c.self.invariant c.self.view_is c.args.i k is_distance,
    ))
