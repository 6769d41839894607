use Rattle.std.proofs.lemmas.Bool.Decides.{nat_tests}
use Rattle.std.proofs.Common.{◌≤◌, ◌<◌, ◌^◌, ◌∙◌, ◌++◌, ◌∷◌, [], ℕ, length, set, ap, sym, subst, arith, refl}
use Rattle.std.specs.Prelude.{slice_index_or}
use Rattle.std.specs.Global.{Vec}
use Rattle.std.proofs.Math.Pow.{pow_mono}
use Rattle.std.proofs.lemmas.List.{length-map}
use Rattle.sparse_block.specs.Inside.{lists_in}
use Rattle.cube_signs.proofs.LevelLemmas.{length-levels_to, levels-all, levels-more, shape-level}
use Rattle.cube_signs.proofs.TableLemmas.{length-shapes}
use Rattle.cube_signs.proofs.levels.all_levels.Goals as goal

pub states-init : goal.states-init
states-init c = c.in_ok-levels.ensures

pub overflow_cast-state : goal.overflow_cast-state
overflow_cast-state = grind (arith, nat_tests, pow_mono, length-shapes)

pub push_state-requires : goal.push_state-requires
push_state-requires c =
    let code = c.args.diagram.now in
    let few : length code.crossings ≤ 20 = omega (arith, c.count.ensures.count, c.count.ensures.fits) in
    let below : c.states.state < 2 ^ length code.crossings =
    omega (arith, c.states-test.true, length-shapes code c.args.shapes.now c.requires) in
    let lists = c.states.levels.items in
    let small : c.from.result < 21 =
    subst (λ (ones : ℕ). ones < 21) (sym c.from.ensures) (shape-level code c.args.shapes.now c.states.state _ _ c.requires below few refl) in
    omega (
      arith,
      small,
      ap length c.states.invariant,
      length-levels_to code c.states.state,
      length-map lists (λ (level : Vec ℕ). level.items),
    )

pub states-preserved : goal.states-preserved
states-preserved c =
    let code = c.args.diagram.now in
    let few : length code.crossings ≤ 20 = omega (arith, c.count.ensures.count, c.count.ensures.fits) in
    let below : c.states.state < 2 ^ length code.crossings =
    omega (arith, c.states-test.true, length-shapes code c.args.shapes.now c.requires) in
    let lists = lists_in c.states.levels.items in
    levels-more code c.args.shapes.now lists (lists_in c.push_state.new.levels.items) c.states.state _ _ c.states.invariant c.requires below
    few refl
    (c.in_ok-push_state.ensures
    ∙ ap (λ (place : ℕ). set lists place (slice_index_or lists place [] ++ c.states.state ∷ [])) c.from.ensures)

pub returns : goal.returns
returns c =
    levels-all c.args.diagram.now (lists_in c.states.levels.items) c.states.state c.states.invariant
    (omega (arith, c.states-test.false, c.states.auto.state-end, length-shapes c.args.diagram.now c.args.shapes.now c.requires))
