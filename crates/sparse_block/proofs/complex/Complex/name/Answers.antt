use Rattle.std.proofs.Common.{◌∙◌, ◌<◌, List, length, ap, sym, arith, rules}
use Rattle.std.specs.Prelude.{slice_index_or}
use Rattle.std.specs.Global.{Vec}
use Rattle.std.proofs.lemmas.List.{length-map, get_or_default}
use Rattle.kh_types.specs.Generators.{Generator, generator_of}
use Rattle.sparse_block.proofs.LineLemmas.{list-lists_in, within-names}
use Rattle.sparse_block.proofs.KeptLemmas.{distance-from, within-degrees, places-at, name-at}
use Rattle.sparse_block.proofs.complex.Complex.name.Goals as goal

pub index-requires : goal.index-requires
index-requires g c =
    let k = c.distance.result in
    let names = c.self.inside.names in
    let is_distance = distance-from c.self.inside.low c.args.i k (search rules) c.ranges.i c.distance.ensures in
    omega (
      arith,
      within-degrees c.self.invariant c.self.view_is c.args.i k is_distance c.requires.high,
      length-map names.items (λ (degree : Vec Generator). degree.items),
      names.ok.0,
    )

pub index-requires-2 : goal.index-requires-2
index-requires-2 g c =
    let k = c.distance.result in
    let names = c.self.inside.names.items in
    let degree = c.index.result.now in
    let is_distance = distance-from c.self.inside.low c.args.i k (search rules) c.ranges.i c.distance.ensures in
    omega (
      arith,
      c.requires.place,
      degree.ok.0,
      places-at c.self.invariant c.self.view_is c.args.i k is_distance,
      ap length
          (list-lists_in names k degree
          (within-names names k (within-degrees c.self.invariant c.self.view_is c.args.i k is_distance c.requires.high)) c.index.ensures),
    )

pub returns : goal.returns
returns g c =
    let k = c.distance.result in
    let names = c.self.inside.names.items in
    let degree = c.index.result.now in
    let place = c.args.place in
    let is_distance = distance-from c.self.inside.low c.args.i k (search rules) c.ranges.i c.distance.ensures in
    let is_degree =
    list-lists_in names k degree
    (within-names names k (within-degrees c.self.invariant c.self.view_is c.args.i k is_distance c.requires.high)) c.index.ensures in
    let within : place < length degree.items =
    omega (
      arith,
      c.requires.place,
      places-at c.self.invariant c.self.view_is c.args.i k is_distance,
      ap length is_degree,
    ) in
    c.index-2.ensures
    ∙ get_or_default degree.items place c.index-2.result.now (generator_of 0 0) within
    ∙ ap (λ (list : List Generator). slice_index_or list place (generator_of 0 0)) (sym is_degree)
    ∙ name-at c.self.invariant c.self.view_is c.args.i k place is_distance
