use Rattle.std.proofs.Common.{◌≡◌, ◌≢◌, ◌≤◌, IsTrue, arith, length, refl}
use Rattle.std.proofs.lemmas.Bool.Decides.{nat_tests}
use Rattle.kh_types.specs.Acceptance.{accepted}
use Rattle.kh_types.specs.Circles.{circle_count}
use Rattle.kh_types.specs.declared.limits.TheConstants.{CIRCLES, CROSSINGS}
use Rattle.kh_types.specs.Edges.{state_behind}
use Rattle.circle_smoothing.proofs.EdgeAnswers.{HasNumbersBelow-merge, HasNumbersBelow-split, IsEdge-merge, IsEdge-split, is_number_at_slot}
use Rattle.circle_smoothing.proofs.KeptNumbers.{count-within}
use Rattle.circle_smoothing.proofs.numbered.Circles.edge.Goals as goal

pub returns-then-x-y : goal.returns-then-x-y
returns-then-x-y c =
    let code = c.args.self.now.code in
    let state = c.args.self.now.state in
    let crossing = c.args.crossing in
    let after = c.args.behind.now in
    let is : IsTrue (accepted code) = rw (← c.self.view_is) c.self.invariant.code in
    let few : length code.crossings ≤ CROSSINGS = rw (← c.self.view_is) c.self.invariant.few in
    let differ : c.of_arc-x.result ≢ c.of_arc-y.result = grind (arith, nat_tests) in
    let is_a = is_number_at_slot code after.code (state_behind state crossing) after.state c.arc_at_slot-first.result crossing 0
    c.of_arc-a.result c.of_arc-a.ensures.number c.requires.code c.requires.state c.arc_at_slot-first.ensures.arc in
    let a_below : circle_count after.code after.state ≤ CIRCLES =
    rw (c.requires.code, c.requires.state) (count-within code (state_behind state crossing) is few) in
    let below = count-within code state is few in
    record {
      edge = IsEdge-merge code state crossing c.of_arc-x.result c.of_arc-y.result c.of_arc-a.result c.merge.result is
          c.requires.crossing c.requires.smoothing
          (is_number_at_slot code code state state c.arc_at_slot-first.result crossing 0 c.of_arc-x.result c.of_arc-x.ensures.number refl
          refl c.arc_at_slot-first.ensures.arc)
          (is_number_at_slot code code state state c.arc_at_slot-third.result crossing 2 c.of_arc-y.result c.of_arc-y.ensures.number refl
          refl c.arc_at_slot-third.ensures.arc)
          is_a c.merge.ensures differ;
      numbers = HasNumbersBelow-merge CIRCLES c.of_arc-x.result c.of_arc-y.result c.of_arc-a.result c.merge.result c.merge.ensures
          (omega (arith, c.of_arc-x.ensures.below, below)) (omega (arith, c.of_arc-y.ensures.below, below))
          (omega (arith, c.of_arc-a.ensures.below, a_below));
    }

pub returns-else-x-y : goal.returns-else-x-y
returns-else-x-y c =
    let code = c.args.self.now.code in
    let state = c.args.self.now.state in
    let crossing = c.args.crossing in
    let after = c.args.behind.now in
    let is : IsTrue (accepted code) = rw (← c.self.view_is) c.self.invariant.code in
    let few : length code.crossings ≤ CROSSINGS = rw (← c.self.view_is) c.self.invariant.few in
    let same : c.of_arc-x.result ≡ c.of_arc-y.result = grind (arith, nat_tests) in
    let is_a = is_number_at_slot code after.code (state_behind state crossing) after.state c.arc_at_slot-first.result crossing 0
    c.of_arc-a.result c.of_arc-a.ensures.number c.requires.code c.requires.state c.arc_at_slot-first.ensures.arc in
    let is_b = is_number_at_slot code after.code (state_behind state crossing) after.state c.arc_at_slot-third.result crossing 2
    c.of_arc-b.result c.of_arc-b.ensures.number c.requires.code c.requires.state c.arc_at_slot-third.ensures.arc in
    let behind_below : circle_count after.code after.state ≤ CIRCLES =
    rw (c.requires.code, c.requires.state) (count-within code (state_behind state crossing) is few) in
    let below = count-within code state is few in
    record {
      edge = IsEdge-split code state crossing c.of_arc-x.result c.of_arc-y.result c.of_arc-a.result c.of_arc-b.result c.split.result is
          c.requires.crossing c.requires.smoothing
          (is_number_at_slot code code state state c.arc_at_slot-first.result crossing 0 c.of_arc-x.result c.of_arc-x.ensures.number refl
          refl c.arc_at_slot-first.ensures.arc)
          (is_number_at_slot code code state state c.arc_at_slot-third.result crossing 2 c.of_arc-y.result c.of_arc-y.ensures.number refl
          refl c.arc_at_slot-third.ensures.arc)
          is_a is_b c.split.ensures same;
      numbers = HasNumbersBelow-split CIRCLES c.of_arc-x.result c.of_arc-a.result c.of_arc-b.result c.split.result c.split.ensures
          (omega (arith, c.of_arc-x.ensures.below, below)) (omega (arith, c.of_arc-a.ensures.below, behind_below))
          (omega (arith, c.of_arc-b.ensures.below, behind_below));
    }
