use Rattle.std.proofs.Common.{◌≡◌, ◌∙◌, ap, ap₂, sym, length}
use Rattle.std.specs.Global.{Vec}
use Rattle.std.proofs.lemmas.List.{map_push}
use Rattle.smallvec.specs.SmallVec.{SmallVec}
use Rattle.kh_types.specs.Generators.{generators_at}
use Rattle.sparse_block.specs.Entries.{Entry}
use Rattle.sparse_block.specs.Inside.{entries_in, lines_in}
use Rattle.cube_signs.proofs.BlockLemmas.{all_columns-more, are-tails, names-at}
use Rattle.cube_signs.proofs.cube.Cube.all_columns.Goals as goal

pub columns-requires-clause-names : goal.columns-requires-clause-names
columns-requires-clause-names c =
    let code = c.args.self.now in
    let least = c.args.least in
    are-tails code c.above.result.i c.above.result.j c.deref.result.now
    (c.deref.ensures.value
    ∙ names-at code least.i least.j (length c.args.names.now) c.degrees.k c.args.names.now c.index-names-k.result c.requires.names
    c.degrees-test.true c.degrees-test.true c.index-names-k.is
    ∙ sym (ap₂ (generators_at code) c.above.ensures.i c.above.ensures.j))

pub degrees-preserved : goal.degrees-preserved
degrees-preserved c =
    let code = c.args.self.now in
    let least = c.args.least in
    let names : c.deref.result.now ≡ generators_at code c.above.result.i c.above.result.j =
    c.deref.ensures.value
    ∙ names-at code least.i least.j (length c.args.names.now) c.degrees.k c.args.names.now c.index-names-k.result c.requires.names
    c.degrees-test.true c.degrees-test.true c.index-names-k.is
    ∙ sym (ap₂ (generators_at code) c.above.ensures.i c.above.ensures.j) in
    all_columns-more c.args.p code least.i c.above.result.i least.j c.above.result.j c.degrees.k c.deref.result.now
    (entries_in c.in_ok-degree.degree.items) (lines_in c.degrees.columns.items) (lines_in c.push.new.self.items) c.degrees.invariant
    c.above.ensures.i c.above.ensures.j names c.in_ok-degree.ensures
    (ap lines_in c.in_ok-push.ensures.items
    ∙ map_push (λ (degree : Vec (SmallVec Entry)). entries_in degree.items) c.degrees.columns.items c.in_ok-degree.degree)
