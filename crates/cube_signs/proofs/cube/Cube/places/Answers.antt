use Rattle.std.proofs.lemmas.Bool.Decides.{nat_tests}
use Rattle.std.proofs.Common.{◌≡◌, ◌∙◌, ◌^◌, ◌<◌, ◌≤◌, ◌+◌, ℤ, get_or, length, ap₂, arith, w16, to_z, of_z}
use Rattle.circle_smoothing.specs.declared.limits.TheConstants.{GENERATORS}
use Rattle.cube_signs.specs.Tables.{own_base, own_degree, state_generators}
use Rattle.cube_signs.proofs.PlaceLemmas.{HaveSizes-more, base-kept, own_base-room, own_base-small, own_bases-small}
use Rattle.cube_signs.proofs.StateLists.{images-more}
use Rattle.cube_signs.proofs.cube.Cube.places.Goals as goal

pub overflow_cast-sizes : goal.overflow_cast-sizes
overflow_cast-sizes c =
    let code = c.args.self.now in
    let j = to_z w16 (of_z w16 c.args.j) in
    let state = c.states.state in
    let within : state < 2 ^ length code.crossings = omega (arith, c.states-test.true, c.state_count-count.ensures.count) in
    let kept : get_or c.states.sizes c.ones-ones.result 0 ≡ own_base code j state =
    base-kept code j state c.ones-ones.result c.states.sizes c.states.invariant.sizes c.ones-ones.ensures.ones c.ones-ones.ensures.within in
    let small : own_base code j state ≤ GENERATORS =
    own_base-small code j state (omega (arith, within)) c.state_count-count.ensures.size in
    omega (arith, kept, small)

pub overflow_add-sizes : goal.overflow_add-sizes
overflow_add-sizes c =
    let code = c.args.self.now in
    let j = to_z w16 (of_z w16 c.args.j) in
    let state = c.states.state in
    let within : state < 2 ^ length code.crossings = omega (arith, c.states-test.true, c.state_count-count.ensures.count) in
    let kept : get_or c.states.sizes c.ones-ones.result 0 ≡ own_base code j state =
    base-kept code j state c.ones-ones.result c.states.sizes c.states.invariant.sizes c.ones-ones.ensures.ones c.ones-ones.ensures.within in
    let more : c.count-more.result ≡ length (state_generators code (own_degree code state) j state) =
    c.count-more.ensures
    ∙ ap₂ (λ (i k : ℤ). length (state_generators code i k state)) c.own_degrees.ensures.i c.own_degrees.ensures.j in
    let room : own_base code j state + length (state_generators code (own_degree code state) j state) ≤ GENERATORS =
    own_base-room code j state within c.state_count-count.ensures.size in
    omega (arith, kept, more, room)

pub states-preserved : goal.states-preserved
states-preserved c =
    let code = c.args.self.now in
    let j = to_z w16 (of_z w16 c.args.j) in
    let state = c.states.state in
    let kept : get_or c.states.sizes c.ones-ones.result 0 ≡ own_base code j state =
    base-kept code j state c.ones-ones.result c.states.sizes c.states.invariant.sizes c.ones-ones.ensures.ones c.ones-ones.ensures.within in
    let more : c.count-more.result ≡ length (state_generators code (own_degree code state) j state) =
    c.count-more.ensures
    ∙ ap₂ (λ (i k : ℤ). length (state_generators code i k state)) c.own_degrees.ensures.i c.own_degrees.ensures.j in
    record {
      bases =
          images-more (own_base code j) c.states.bases.items c.push.new.self.items _ state c.states.invariant.bases kept
          c.in_ok-push.ensures.items;
      sizes =
          HaveSizes-more code j state c.ones-ones.result c.count-more.result c.states.sizes c.states.invariant.sizes
          c.ones-ones.ensures.ones c.ones-ones.ensures.within more;
    }

pub returns-clause-small : goal.returns-clause-small
returns-clause-small = grind (arith, nat_tests, own_bases-small)
