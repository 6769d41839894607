use Rattle.std.proofs.Common.{arith}
use Rattle.slide_view_laws.proofs.FrontTriangles.{IsSlid-three, dimension-three, accepted-three}
use Rattle.slide_view_laws.proofs.laws.slides_come_to_the_front.Goals as goal

pub returns-clause-slid : goal.returns-clause-slid
returns-clause-slid cx = IsSlid-three

pub returns-clause-old_cube : goal.returns-clause-old_cube
returns-clause-old_cube cx old new c d e p q r field plus minus arcs slid has i j =
    dimension-three old.crossings c d e slid.c_below slid.d_below slid.e_below field old.loops plus minus has i j

pub returns-clause-new_cube : goal.returns-clause-new_cube
returns-clause-new_cube cx old new c d e p q r field plus minus arcs slid has i j =
    let size = slid.size in
    dimension-three new.crossings c d e (omega (arith, size, slid.c_below)) (omega (arith, size, slid.d_below))
    (omega (arith, size, slid.e_below))
    field new.loops plus minus has i j

pub returns-clause-old_accepted : goal.returns-clause-old_accepted
returns-clause-old_accepted cx old new c d e p q r arcs slid holds =
    accepted-three old.crossings c d e slid.c_below slid.d_below slid.e_below old.loops holds
