use Rattle.std.proofs.Common.{Err, length, arith, sym}
use Rattle.std.proofs.lemmas.List.{length-map}
use Rattle.serde_json.specs.View.{view}
use Rattle.json_code.specs.declared.stop.JsonStop.TheVariants.{Shape}
use Rattle.json_code.specs.Steps.{code_of_elements}
use Rattle.json_code.proofs.Elements.{of_array}
use Rattle.json_code.proofs.reader.json_code_of.Goals as goal

-- there are few enough elements to count them
pub code_of_elements-requires : goal.code_of_elements-requires
code_of_elements-requires c =
    let counted = of_array length 0 (view c.args.value.now) c.in-Some.elements.now.items c.in-Some.ensures in
    rw c.deref.ensures.value (omega (arith, counted, length-map c.in-Some.elements.now.items view))

-- the value is an array
pub returns-in-Some-clause-code : goal.returns-in-Some-clause-code
returns-in-Some-clause-code c =
    let made = of_array code_of_elements (Err (Shape 0 0)) (view c.args.value.now) c.in-Some.elements.now.items c.in-Some.ensures in
    rw (c.code_of_elements.ensures.code, c.deref.ensures.value) (sym made)
