use Rattle.std.proofs.Common.{Err, sym}
use Rattle.serde_json.specs.View.{view}
use Rattle.json_code.specs.declared.stop.JsonStop.TheVariants.{Shape}
use Rattle.json_code.specs.Steps.{json_arcs_at}
use Rattle.json_code.proofs.Elements.{of_array}
use Rattle.json_code.proofs.crossing.crossing_of.Goals as goal

-- the element is an array
pub returns-in-Some : goal.returns-in-Some
returns-in-Some c =
    let made = of_array (json_arcs_at c.args.crossing) (Err (Shape c.args.crossing 0)) (view c.args.element.now) c.in-Some.members.now.items c.in-Some.ensures in
    rw (c.json_arcs_at.ensures, c.deref.ensures.value) (sym made)
