use Rattle.std.proofs.Common.{◌∙◌, ◌<◌, [], List, length, ap, sym, rules}
use Rattle.std.specs.Prelude.{slice_index_or}
use Rattle.std.specs.List.{count_by}
use Rattle.std.specs.Global.{Vec}
use Rattle.sparse_block.specs.Inside.{lists_in}
use Rattle.std.proofs.Common.{◌^◌, Bool, subst}
use Rattle.std.specs.Prelude.{All}
use Rattle.sparse_block.proofs.KeptLemmas.{distance-from, alive-at, alive-counts}
use Rattle.sparse_block.proofs.complex.Complex.alive.Goals as goal

pub alive_count-requires : goal.alive_count-requires
alive_count-requires g c =
    subst (λ (alive : List (Vec Bool)). All (λ (degree : List Bool). length degree < 2 ^ 29) (lists_in alive))
    (sym c.deref.ensures.value) (alive-counts (2 ^ 29) c.self.invariant c.self.invariant.counts)

pub returns : goal.returns
returns g c =
    let k = c.distance.result in
    let is_distance = distance-from c.self.inside.low c.args.i k (search rules) c.ranges.i c.distance.ensures in
    c.alive_count.ensures
    ∙ ap (λ (alive : List (Vec Bool)). count_by (λ is_alive. is_alive) (slice_index_or (lists_in alive) k [])) c.deref.ensures.value
    ∙ alive-at c.self.invariant c.self.view_is c.args.i k is_distance
