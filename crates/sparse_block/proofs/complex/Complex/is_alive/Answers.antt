use Rattle.std.proofs.Common.{◌∙◌, [], List, ap, rules, Bool, false}
use Rattle.std.specs.Prelude.{slice_index_or}
use Rattle.std.specs.Global.{Vec}
use Rattle.kh_types.specs.Complex.{Degree}
use Rattle.sparse_block.specs.Inside.{lists_in}
use Rattle.sparse_block.proofs.KeptLemmas.{degree-at, distance-from}
use Rattle.sparse_block.proofs.complex.Complex.is_alive.Goals as goal

pub returns : goal.returns
returns g c =
    let k = c.distance.result in
    let is_distance = distance-from c.self.inside.low c.args.i k (search rules) c.ranges.i c.distance.ensures in
    c.alive_at.ensures
    ∙ ap (λ (alive : List (Vec Bool)). slice_index_or (slice_index_or (lists_in alive) k []) c.args.place false) c.deref.ensures.value
    ∙ ap (λ (degree : Degree). slice_index_or degree.alive c.args.place false)
    (degree-at c.self.invariant c.self.view_is c.args.i k is_distance)
