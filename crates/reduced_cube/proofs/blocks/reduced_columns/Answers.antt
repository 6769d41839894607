use Rattle.std.proofs.Common.{◌≡◌, ◌∙◌, ℤ, ap₂, to_z, of_z, w16}
use Rattle.std.proofs.lemmas.Int.{to_z-of_z}
use Rattle.std.proofs.lemmas.Result.{IfOk-weaker}
use Rattle.sparse_block.specs.Complexes.{NamedComplex}
use Rattle.reduced_cube.specs.Marks.{Marked}
use Rattle.reduced_cube.specs.Reduced.{reduced_block}
use Rattle.reduced_cube.proofs.blocks.reduced_columns.Goals as goal

pub returns : goal.returns
returns g c =
    let p = g.F.PrimeField.P in
    let j = to_z w16 (of_z w16 c.args.j) in
    IfOk-weaker c.block.result
    (λ (made : NamedComplex). made ≡ reduced_block p c.in_ok-cube.cube.code c.in_ok-cube.cube.mark j)
    (λ (made : NamedComplex). made ≡ reduced_block p c.args.diagram.now c.args.mark c.args.j)
    (λ made is.
    is
    ∙ ap₂ (λ (marked : Marked) (j : ℤ). reduced_block p marked.code marked.mark j) c.in_ok-cube.ensures
    (to_z-of_z w16 c.args.j c.ranges.j))
    c.block.ensures
