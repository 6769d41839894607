use Rattle.std.proofs.Common.{◌∙◌, ap, arith}
use Rattle.std.proofs.lemmas.Int.{ints}
use Rattle.kh_types.specs.Bits.{ones}
use Rattle.kh_types.specs.Circles.{circle_count}
use Rattle.cube_signs.proofs.ShapeLemmas.{shape-made}
use Rattle.cube_signs.proofs.shape.shape_of.Goals as goal

pub returns : goal.returns
returns c =
    shape-made c.args.diagram.now c.args.state c.count-count.result c.ones-raised.result c.args.signs.plus c.args.signs.minus _
    (c.count-count.ensures.count ∙ ap (λ r. circle_count r.code r.state) c.requires.circles)
    (c.ones-raised.ensures.ones ∙ ap (λ n. ones n c.args.state) (c.from.ensures ∙ c.count.ensures.count))
    c.requires.plus c.requires.minus (omega (arith, ints, c.top.ensures))
