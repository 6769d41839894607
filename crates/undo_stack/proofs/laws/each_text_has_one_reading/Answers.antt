use Rattle.undo_stack.proofs.ScheduleReadings.{IsSchedule-one, schedule_of-reads}
use Rattle.undo_stack.proofs.laws.each_text_has_one_reading.Goals as goal

pub returns : goal.returns
returns c = record { reads = schedule_of-reads; one = IsSchedule-one }
