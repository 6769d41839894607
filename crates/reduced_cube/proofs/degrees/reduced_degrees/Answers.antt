use Rattle.std.proofs.Common.{◌≡◌, ◌∙◌, ◌≤◌, ℤ, ap, length, subst, IsTrue}
use Rattle.std.specs.Global.{Vec}
use Rattle.std.proofs.lemmas.Result.{IfOk-weaker}
use Rattle.kh_types.specs.Acceptance.{accepted}
use Rattle.kh_types.specs.Code.{Code}
use Rattle.kh_types.specs.declared.limits.TheConstants.{CROSSINGS}
use Rattle.cube_signs.specs.KindShapes.{all_kind_shapes}
use Rattle.reduced_cube.specs.Degrees.{reduced_degrees_of}
use Rattle.reduced_cube.specs.Reduced.{reduced_degrees}
use Rattle.reduced_cube.proofs.DegreeLemmas.{degrees-reduced}
use Rattle.reduced_cube.proofs.degrees.reduced_degrees.Goals as goal

pub returns : goal.returns
returns c =
    let code = c.args.diagram.now in
    let shapes = c.deref.result.now in
    IfOk-weaker c.degrees.result (λ (made : Vec ℤ). made.items ≡ reduced_degrees_of shapes)
    (λ (made : Vec ℤ). made.items ≡ reduced_degrees code c.args.mark)
    (λ made is.
    degrees-reduced code c.args.mark shapes made.items
    (subst (λ (k : Code). IsTrue (accepted k)) c.of_diagram.ensures c.in_ok-shapes.ensures.code)
    (subst (λ (k : Code). length k.crossings ≤ CROSSINGS) c.of_diagram.ensures c.in_ok-shapes.ensures.few) c.requires
    (c.deref.ensures.value ∙ c.in_ok-shapes.ensures.shapes ∙ ap all_kind_shapes c.of_diagram.ensures) is)
    c.degrees.ensures
