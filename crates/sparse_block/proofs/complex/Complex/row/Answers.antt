use Rattle.std.proofs.Common.{◌∙◌, [], List, ap, arith, rules}
use Rattle.std.specs.Prelude.{slice_index_or}
use Rattle.std.proofs.lemmas.Int.{ints}
use Rattle.sparse_block.specs.Entries.{Entry}
use Rattle.sparse_block.proofs.KeptLemmas.{distance-from, within-degrees, row-at}
use Rattle.sparse_block.proofs.complex.Complex.row.Goals as goal

pub returns : goal.returns
returns g c =
    let k = c.distance.result in
    let place = c.args.place in
    let is_distance = distance-from c.self.inside.low c.args.i k (search rules) c.ranges.i c.distance.ensures in
    let within = within-degrees c.self.invariant c.self.view_is c.args.i k is_distance (omega (arith, ints, c.requires.high)) in
    c.line_at.ensures
    ∙ ap (λ (degrees : List (List (List Entry))). slice_index_or (slice_index_or degrees k []) place [])
    c.deref.ensures.value
    ∙ row-at c.self.invariant c.self.view_is c.args.i k place is_distance within
