use Rattle.std.specs.Prelude.{◌≢◌, Err}
use Rattle.undo_stack.specs.declared.stop.ScriptStop.TheVariants.{NoMemory}
use Rattle.undo_stack.specs.EditScript.{IsEdit, SpellsEdit}
use Rattle.undo_stack.proofs.EditReadings.{IsEdit-edit_of}
use Rattle.undo_stack.proofs.Readings.{IfOk-few}
use Rattle.undo_stack.proofs.edit_line.read_edit.Goals as goal

-- what is computed of a text, it reads as
pub returns : goal.returns
returns c =
    let reads : c.read_script.result ≢ Err NoMemory → IsEdit c.args.text.now c.read_script.result
    = λ some. rw (c.read_script.ensures some) (IsEdit-edit_of c.args.text.now) in
    record { reads = reads; few = IfOk-few SpellsEdit c.args.text.now c.read_script.result reads }
