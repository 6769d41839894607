use Rattle.std.proofs.lemmas.Bool.Decides.{nat_tests}
use Rattle.std.proofs.Common.{◌≡◌, ◌≢◌, ℕ, ◌+◌, ◌^◌, ◌<◌, length, get_or, List, arith, ap}
use Rattle.kh_types.specs.Bits.{bit}
use Rattle.kh_types.specs.Code.{Code}
use Rattle.circle_smoothing.specs.CircleNumbers.{Resolution}
use Rattle.kh_types.proofs.EdgeBits.{set-within}
use Rattle.cube_signs.specs.Shapes.{resolution_of, resolutions}
use Rattle.cube_signs.proofs.StateLists.{length-resolutions, resolution-at}
use Rattle.cube_signs.proofs.StepLemmas.{IsCrossing-place, bit-place, state_behind-place}
use Rattle.cube_signs.proofs.steps.step.Goals as goal

is_zero : (result one : ℕ) → result ≡ one → result < 2 → result ≢ 1 → one ≡ 0
is_zero result one is few differ = omega arith

state-below : (code : Code) (circles : List Resolution) (state : ℕ) → circles ≡ resolutions code → state < 2 ^ length code.crossings
    → state < length circles
state-below code circles state is below = omega (arith, ap length is, length-resolutions code)

-- the circles at a state in the list
at : (code : Code) (circles : List Resolution) (state : ℕ) (one : Resolution) → circles ≡ resolutions code
    → state < 2 ^ length code.crossings → one ≡ get_or circles state one → one ≡ resolution_of code state
at code circles state one is_all below is = resolution-at code circles state one is_all (state-below code circles state is_all below) is

pub bounds-circles-state : goal.bounds-circles-state
bounds-circles-state c = state-below c.args.diagram.now c.args.circles.now c.args.state c.requires.circles c.requires.state

pub bounds-circles-behind : goal.bounds-circles-behind
bounds-circles-behind c =
    let zero = is_zero c.bit.result (bit c.args.state c.args.place) c.bit.ensures.bit c.bit.ensures.within c.if-bit-eq1.false in
    state-below c.args.diagram.now c.args.circles.now c.state_behind-behind.result c.requires.circles
    (omega (
      arith,
      c.state_behind-behind.ensures,
      set-within c.args.state c.args.place (length c.args.diagram.now.crossings) c.requires.place c.requires.state zero,
    ))

behind-below : (state place count behind : ℕ) → behind ≡ state + 2 ^ place → place < count → state < 2 ^ count → bit state place ≡ 0
    → behind < 2 ^ count
behind-below state place count behind is place_below state_below zero =
    omega (arith, set-within state place count place_below state_below zero)

pub edge-requires-clause-code : goal.edge-requires-clause-code
edge-requires-clause-code = grind (arith, nat_tests, is_zero, behind-below, at)

pub edge-requires-clause-state : goal.edge-requires-clause-state
edge-requires-clause-state = grind (arith, nat_tests, is_zero, behind-below, at, state_behind-place)

pub edge-requires-clause-crossing : goal.edge-requires-clause-crossing
edge-requires-clause-crossing = grind (arith, nat_tests, at, IsCrossing-place)

pub edge-requires-clause-smoothing : goal.edge-requires-clause-smoothing
edge-requires-clause-smoothing = grind (arith, nat_tests, at, is_zero, bit-place)

pub returns : goal.returns
returns = grind (arith, nat_tests, at, is_zero)
