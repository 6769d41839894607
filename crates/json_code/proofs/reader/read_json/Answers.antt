use Rattle.std.proofs.Common.{◌∙◌, sym, subst, arith}
use Rattle.serde_json.specs.View.{view}
use Rattle.json_code.specs.Reading.{IsJsonReading}
use Rattle.json_code.proofs.Counts.{elements-few}
use Rattle.json_code.proofs.Readings.{json_code_of-sound}
use Rattle.json_code.proofs.reader.read_json.Goals as goal

-- the text is short, so its array has few elements
pub json_code_of-requires : goal.json_code_of-requires
json_code_of-requires c = omega (arith, elements-few c.args.text.now (view c.in_ok-value.value) c.in_ok-value.ensures.ok.1)

-- the value of the text is read
pub returns-clause-reads : goal.returns-clause-reads
returns-clause-reads c = λ _.
    rw c.json_code_of.ensures.code (json_code_of-sound c.args.text.now (view c.in_ok-value.value) (record { utf8 = c.in_ok-value.ensures.ok.0; meaning = c.in_ok-value.ensures.ok.1 }))

-- no reading is out of memory
pub returns-clause-memory : goal.returns-clause-memory
returns-clause-memory c = λ none.
    let reading = json_code_of-sound c.args.text.now (view c.in_ok-value.value) (record { utf8 = c.in_ok-value.ensures.ok.0; meaning = c.in_ok-value.ensures.ok.1 }) in
    absurd (subst (IsJsonReading c.args.text.now) (sym c.json_code_of.ensures.code ∙ none) reading)
