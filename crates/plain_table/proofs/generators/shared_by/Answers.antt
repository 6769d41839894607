use Rattle.std.proofs.Common.{◌≡◌, ◌≤◌, ◌∙◌, ℕ, List, length, ap, arith}
use Rattle.std.specs.List.{filter}
use Rattle.kh_types.specs.Code.{arcs_and_loops}
use Rattle.kh_types.specs.Classes.{is_least}
use Rattle.kh_types.specs.Circles.{circles_of}
use Rattle.kh_types.specs.declared.limits.TheConstants.{CROSSINGS}
use Rattle.kh_types.proofs.AcceptedLemmas.{IsAccepted-is}
use Rattle.kh_types.proofs.CircleBound.{circle_count-within}
use Rattle.plain_table.proofs.generators.shared_by.Goals as goal

pub returns-clause-circles : goal.returns-clause-circles
returns-clause-circles c =
    let code = c.args.diagram.now in
    let few : length code.crossings ≤ CROSSINGS = omega (arith, c.crossings.ensures.few, ap length c.crossings.ensures.crossings) in
    let bound = circle_count-within code c.args.state ((IsAccepted-is code).0 c.crossings.ensures.accepted) few in
    let all : c.circle_names.result.items ≡ filter (is_least (circles_of code c.args.state)) (arcs_and_loops code) =
    c.circle_names.ensures
    ∙ ap (λ (circles : List ℕ). filter (is_least circles) (arcs_and_loops code)) (c.deref.ensures.0 ∙ c.circles_of.ensures) in
    omega (arith, bound, c.len-circles.ensures.value, ap length all)
