use Rattle.std.specs.Prelude.{◌≢◌, Err}
use Rattle.undo_stack.specs.declared.stop.ScriptStop.TheVariants.{NoMemory}
use Rattle.undo_stack.specs.Schedule.{IsSchedule, SpellsLine}
use Rattle.undo_stack.proofs.Readings.{IfOk-few}
use Rattle.undo_stack.proofs.ScheduleReadings.{IfOk-workers, IsSchedule-schedule_of}
use Rattle.undo_stack.proofs.schedule.read_schedule.Goals as goal

-- what is computed of a text, it reads as
pub returns : goal.returns
returns c =
    let reads : c.read_script.result ≢ Err NoMemory → IsSchedule c.args.text.now c.read_script.result
    = λ some. rw (c.read_script.ensures some) (IsSchedule-schedule_of c.args.text.now) in
    record {
      reads = reads;
      workers = IfOk-workers c.args.text.now c.read_script.result reads;
      few = IfOk-few SpellsLine c.args.text.now c.read_script.result reads;
    }
