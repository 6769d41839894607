use Rattle.undo_stack.proofs.EditReadings.{IsEdit-one, edit_of-reads}
use Rattle.undo_stack.proofs.edit_laws.each_edit_has_one_reading.Goals as goal

pub returns : goal.returns
returns c = record { reads = edit_of-reads; one = IsEdit-one }
