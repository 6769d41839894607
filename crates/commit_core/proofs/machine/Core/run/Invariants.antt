use Rattle.std.proofs.Common.{◌≡◌, length, take}
use Rattle.commit_core.specs.Rows.{IsCoreRun}
use Rattle.commit_core.proofs.machine.Core.run.Given as goal

abbrev pub invariant-events : goal.invariant-events
invariant-events g l = record {
  run : IsCoreRun g.F.PrimeField.P l.fn.self (take l.event-index l.events) l.answers.items l.self;
  workers : length l.self.workers ≡ length l.fn.self.workers;
}
