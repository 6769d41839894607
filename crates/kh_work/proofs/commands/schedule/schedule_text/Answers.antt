use Rattle.std.proofs.Common.{◌∙◌}
use Rattle.kh_work.proofs.ScheduleLemmas.{schedule_text-is}
use Rattle.kh_work.proofs.commands.schedule.schedule_text.Goals as goal

pub returns : goal.returns
returns c =
    schedule_text-is c.args.field c.args.small.now c.counted.result.now c.args.script.now c.in_ok-text.text.items c.deref.result.now _
    c.counted.ensures.diagram c.in_ok-text.ensures (c.deref.ensures.value ∙ c.in_ok-jones_line.ensures)
    c.in_ok-extend_from_slice.ensures.items
