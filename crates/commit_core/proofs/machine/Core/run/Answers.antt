use Rattle.std.proofs.Common.{arith, ◌∙◌, get_or, pos}
use Rattle.commit_core.specs.declared.event.Event.TheVariants.{Look}
use Rattle.commit_core.proofs.RowsKeep.{workers-row}
use Rattle.commit_core.proofs.SoundRows.{run-more}
use Rattle.commit_core.proofs.machine.Core.run.Goals as goal

pub events-preserved : goal.events-preserved
events-preserved g c =
    let p = g.F.PrimeField.P in
    let event = get_or c.args.events.now c.events.event-index (Look 0 (pos 0) 0) in
    record {
      run = run-more p c.args.self.now c.events.self c.step.new.self c.args.events.now c.events.event-index (Look 0 (pos 0) 0) c.events.answers.items
          c.push.new.self.items c.in_ok-step.field-0 (omega (arith, c.events-test.true)) c.events.invariant.run
          c.in_ok-step.ensures.row c.in_ok-push.ensures.items;
      workers = workers-row p c.events.self event c.in_ok-step.field-0 c.step.new.self c.in_ok-step.ensures.row
          ∙ c.events.invariant.workers;
    }
