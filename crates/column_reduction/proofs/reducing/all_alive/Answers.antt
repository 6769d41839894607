use Rattle.std.proofs.Common.{◌≡◌, ◌∙◌, length, arith, ap, sym, replicate, Bool, true}
use Rattle.std.specs.Global.{Vec}
use Rattle.std.proofs.lemmas.List.{length-map, map_push}
use Rattle.kh_types.specs.Generators.{Generator}
use Rattle.sparse_block.specs.Inside.{lists_in}
use Rattle.sparse_block.proofs.LineLemmas.{list-lists_in}
use Rattle.sparse_block.proofs.BuildLemmas.{all_alive-more}
use Rattle.column_reduction.proofs.reducing.all_alive.Goals as goal

pub degrees-preserved : goal.degrees-preserved
degrees-preserved c =
    let names = c.args.names.now in
    let k = c.degrees.degree-index in
    let degree = c.degree-item.result in
    let places = c.in_ok-vec.field-0 in
    let count : c.len.result ≡ length degree.items = omega (arith, c.len.ensures, degree.ok.0) in
    ap lists_in c.in_ok-push.ensures.items
    ∙ map_push (λ (vector : Vec Bool). vector.items) c.degrees.made.items places
    ∙ all_alive-more (lists_in names) k degree.items places.items (lists_in c.degrees.made.items)
    (omega (arith, c.degrees-test.true, length-map names (λ (degree : Vec Generator). degree.items)))
    (sym (list-lists_in names k degree c.degrees-test.true c.degree-item.is))
    (c.in_ok-vec.ensures.items_if_clones_equal (λ y same. same) ∙ ap (λ n. replicate n true) count) c.degrees.invariant
