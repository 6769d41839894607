use Rattle.std.proofs.Common.{◌∙◌, [], List, length, ap, rules}
use Rattle.std.specs.Prelude.{slice_index_or}
use Rattle.std.specs.Global.{Vec}
use Rattle.kh_types.specs.Generators.{Generator}
use Rattle.sparse_block.specs.Inside.{lists_in}
use Rattle.sparse_block.proofs.KeptLemmas.{distance-from, places-at}
use Rattle.sparse_block.proofs.complex.Complex.places.Goals as goal

pub returns : goal.returns
returns g c =
    let k = c.distance.result in
    let is_distance = distance-from c.self.inside.low c.args.i k (search rules) c.ranges.i c.distance.ensures in
    c.name_count.ensures
    ∙ ap (λ (names : List (Vec Generator)). length (slice_index_or (lists_in names) k [])) c.deref.ensures.value
    ∙ places-at c.self.invariant c.self.view_is c.args.i k is_distance
