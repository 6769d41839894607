use Rattle.std.proofs.Common.{arith}
use Rattle.kh_types.specs.Code.{Code}
use Rattle.kh_types.specs.Darts.{HasArcsTwice}
use Rattle.kh_types.proofs.CircleBound.{ArcsBelow, ArcsBelow-slots}
use Rattle.orient_arcs.proofs.AlikeCrossings.{class_count-alike, circle_count-alike, state_sum-alike, ArcsBelow-places, name_count}
use Rattle.orient_arcs.proofs.laws.alike.alike_codes_have_one_state_sum.Goals as goal

pub returns-clause-classes : goal.returns-clause-classes
returns-clause-classes c = λ m n crossings others alike below others_below.
    class_count-alike m n crossings others alike (ArcsBelow-places m crossings below) (ArcsBelow-places n others others_below)

below : (code : Code) → HasArcsTwice code.crossings → ArcsBelow (name_count code) code.crossings
below code twice = ArcsBelow-slots (name_count code) code.crossings twice.slots (omega arith)

pub returns-clause-circles : goal.returns-clause-circles
returns-clause-circles c = λ old new alike loops old_twice new_twice.
    circle_count-alike old new alike loops (below old old_twice) (below new new_twice)

pub returns-clause-sums : goal.returns-clause-sums
returns-clause-sums c = λ old new alike loops old_twice new_twice plus.
    state_sum-alike old new alike loops (below old old_twice) (below new new_twice) plus
