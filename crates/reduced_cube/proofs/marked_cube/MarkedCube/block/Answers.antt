use Rattle.std.proofs.Common.{◌≡◌, ◌∙◌, ℤ, pos, ◌-ℤ◌, ap, arith, subst, to_z, of_z, w16, IsTrue}
use Rattle.std.proofs.lemmas.Int.{ints}
use Rattle.std.proofs.lemmas.Result.{IfOk-weaker}
use Rattle.kh_types.specs.Acceptance.{accepted}
use Rattle.kh_types.specs.Code.{Code}
use Rattle.sparse_block.specs.Complexes.{NamedComplex}
use Rattle.cube_signs.specs.Chosen.{chosen_block, has_minus}
use Rattle.reduced_cube.specs.Marks.{Marked}
use Rattle.reduced_cube.specs.Reduced.{is_reduced, reduced_block}
use Rattle.reduced_cube.proofs.DegreeLemmas.{degree-low}
use Rattle.reduced_cube.proofs.MarkLemmas.{IsClosed-marked, block-marked}
use Rattle.reduced_cube.proofs.marked_cube.MarkedCube.block.Goals as goal

pub overflow_sub-j : goal.overflow_sub-j
overflow_sub-j g c =
    omega (arith, ints, c.ranges.j.sfits, degree-low c.args.self.now.code c.args.self.now.mark c.args.j c.requires)

pub chosen_block-requires : goal.chosen_block-requires
chosen_block-requires g c =
    let inside = c.self.inside in
    IsClosed-marked g.F.PrimeField.P inside.cube inside.mark c.deref.result.now
    (subst (λ (code : Code). IsTrue (accepted code)) c.diagram.ensures c.diagram_laws.ensures.accepted) c.self.invariant.name
    (c.deref.ensures.value ∙ c.self.invariant.circles_are)

pub returns : goal.returns
returns g c =
    let p = g.F.PrimeField.P in
    let inside = c.self.inside in
    let circles = c.deref.result.now in
    let below = to_z w16 (of_z w16 (to_z w16 (of_z w16 c.args.j) -ℤ pos 1)) in
    let same : below ≡ c.args.j -ℤ pos 1 =
    omega (arith, ints, c.ranges.j.sfits, degree-low c.args.self.now.code c.args.self.now.mark c.args.j c.requires) in
    IfOk-weaker c.chosen_block.result (λ (made : NamedComplex). made ≡ chosen_block (has_minus circles) p inside.cube below)
    (λ (made : NamedComplex). made ≡ reduced_block p c.args.self.now.code c.args.self.now.mark c.args.j)
    (λ made is.
    is ∙ block-marked p inside.cube inside.mark circles below (c.deref.ensures.value ∙ c.self.invariant.circles_are)
    ∙ ap (λ (j : ℤ). chosen_block (is_reduced inside.cube inside.mark) p inside.cube j) same
    ∙ ap (λ (marked : Marked). reduced_block p marked.code marked.mark c.args.j) c.self.view_is)
    c.chosen_block.ensures
