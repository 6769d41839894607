use Rattle.std.proofs.lemmas.Bool.Decides.{nat_tests}
use Rattle.std.proofs.Common.{arith}
use Rattle.kh_types.proofs.AcceptedLemmas.{HasArcsTwice-accepted}
use Rattle.slide_laws.proofs.Corners.{source-source}
use Rattle.slide_laws.proofs.Sides.{HasSides-triangle}
use Rattle.std.proofs.Common.{ℕ, ◌*◌, ◌<◌, sym, subst}
use Rattle.slide_laws.specs.Slid.{slid}
use Rattle.slide_laws.proofs.SlidArcs.{length-slid, HasArcsTwice-slid}
use Rattle.slide_laws.proofs.SlidBoard.{IsCheckerboard-slid, passes-apart}
use Rattle.slide_laws.proofs.Passes.{KeepsPass-slid, components_of-slid, component_count-slid}
use Rattle.slide_laws.proofs.laws.slides_keep_passes.Goals as goal

pub returns-clause-passes : goal.returns-clause-passes
returns-clause-passes c code x y z place accepted is within =
    KeepsPass-slid code x y z accepted (HasSides-triangle code.crossings x y z (HasArcsTwice-accepted code accepted) is) place within

pub returns-clause-back : goal.returns-clause-back
returns-clause-back = grind (arith, nat_tests, source-source)

pub returns-clause-components : goal.returns-clause-components
returns-clause-components = grind (arith, nat_tests, components_of-slid, HasSides-triangle)

pub returns-clause-count : goal.returns-clause-count
returns-clause-count = grind (arith, nat_tests, component_count-slid, HasSides-triangle)

pub returns-clause-apart : goal.returns-clause-apart
returns-clause-apart c code x y z place accepted is within =
    let crossings = code.crossings in
    let twice = HasArcsTwice-accepted code accepted in
    let sides = HasSides-triangle crossings x y z twice is in
    passes-apart (slid crossings x y z) (HasArcsTwice-slid crossings x y z twice sides) (IsCheckerboard-slid code x y z accepted sides) place
    (subst (λ (k : ℕ). place < 4 * k) (sym (length-slid crossings x y z)) within)
