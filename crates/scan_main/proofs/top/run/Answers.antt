use Rattle.std.proofs.Common.{◌≡◌, ap, refl, Err}
use Rattle.kh_runs.specs.Told.{seen}
use Rattle.scan_main.proofs.ListRuns.{headline-list}
use Rattle.scan_main.proofs.ScanRuns.{IsScanRun-command, IsScanRun-none, headline-run}
use Rattle.scan_main.proofs.top.run.Goals as goal

-- the words mean a command
pub returns-in-Ok-clause-run : goal.returns-in-Ok-clause-run
returns-in-Ok-clause-run g c =
    IsScanRun-command c.args.words.now c.in-Ok.command
    (seen (g.S.Source.left c.args.source.now) (g.S.Source.faults c.args.source.now))
    (seen (g.S.Source.left c.run_command.new.source) (g.S.Source.faults c.run_command.new.source))
    (seen (g.K.Sink.written c.args.sink.now) (g.K.Sink.faults c.args.sink.now))
    (seen (g.K.Sink.written c.run_command.new.sink) (g.K.Sink.faults c.run_command.new.sink))
    (c.run_command.new.source ≡ c.args.source.now) (c.run_command.new.sink ≡ c.args.sink.now) c.run_command.result
    c.in-Ok.ensures.command c.run_command.ensures

pub returns-in-Ok-clause-headline : goal.returns-in-Ok-clause-headline
returns-in-Ok-clause-headline g c =
    headline-run c.args.words.now
    (seen (g.S.Source.left c.args.source.now) (g.S.Source.faults c.args.source.now))
    (seen (g.S.Source.left c.run_command.new.source) (g.S.Source.faults c.run_command.new.source))
    (seen (g.K.Sink.written c.args.sink.now) (g.K.Sink.faults c.args.sink.now))
    (seen (g.K.Sink.written c.run_command.new.sink) (g.K.Sink.faults c.run_command.new.sink))
    (c.run_command.new.source ≡ c.args.source.now) (c.run_command.new.sink ≡ c.args.sink.now) c.run_command.result
    (returns-in-Ok-clause-run g c)

pub returns-in-Ok-clause-lists : goal.returns-in-Ok-clause-lists
returns-in-Ok-clause-lists g c =
    headline-list c.args.words.now
    (seen (g.S.Source.left c.args.source.now) (g.S.Source.faults c.args.source.now))
    (seen (g.S.Source.left c.run_command.new.source) (g.S.Source.faults c.run_command.new.source))
    (seen (g.K.Sink.written c.args.sink.now) (g.K.Sink.faults c.args.sink.now))
    (seen (g.K.Sink.written c.run_command.new.sink) (g.K.Sink.faults c.run_command.new.sink))
    (c.run_command.new.source ≡ c.args.source.now) (c.run_command.new.sink ≡ c.args.sink.now) c.run_command.result
    (returns-in-Ok-clause-run g c)

-- they mean none, or there was no memory
pub returns-in-Err-clause-run : goal.returns-in-Err-clause-run
returns-in-Err-clause-run g c =
    IsScanRun-none c.args.words.now
    (seen (g.S.Source.left c.args.source.now) (g.S.Source.faults c.args.source.now))
    (seen (g.K.Sink.written c.args.sink.now) (g.K.Sink.faults c.args.sink.now))
    (seen (g.K.Sink.written c.written.new.sink) (g.K.Sink.faults c.written.new.sink))
    (c.args.source.now ≡ c.args.source.now) (c.written.new.sink ≡ c.args.sink.now) c.in-Err.stop c.reply_to_none.result c.written.result
    (λ none. c.in-Err.ensures.usage (ap Err none)) c.reply_to_none.ensures refl c.written.ensures

pub returns-in-Err-clause-headline : goal.returns-in-Err-clause-headline
returns-in-Err-clause-headline g c =
    headline-run c.args.words.now
    (seen (g.S.Source.left c.args.source.now) (g.S.Source.faults c.args.source.now))
    (seen (g.S.Source.left c.args.source.now) (g.S.Source.faults c.args.source.now))
    (seen (g.K.Sink.written c.args.sink.now) (g.K.Sink.faults c.args.sink.now))
    (seen (g.K.Sink.written c.written.new.sink) (g.K.Sink.faults c.written.new.sink))
    (c.args.source.now ≡ c.args.source.now) (c.written.new.sink ≡ c.args.sink.now) c.written.result
    (returns-in-Err-clause-run g c)

pub returns-in-Err-clause-lists : goal.returns-in-Err-clause-lists
returns-in-Err-clause-lists g c =
    headline-list c.args.words.now
    (seen (g.S.Source.left c.args.source.now) (g.S.Source.faults c.args.source.now))
    (seen (g.S.Source.left c.args.source.now) (g.S.Source.faults c.args.source.now))
    (seen (g.K.Sink.written c.args.sink.now) (g.K.Sink.faults c.args.sink.now))
    (seen (g.K.Sink.written c.written.new.sink) (g.K.Sink.faults c.written.new.sink))
    (c.args.source.now ≡ c.args.source.now) (c.written.new.sink ≡ c.args.sink.now) c.written.result
    (returns-in-Err-clause-run g c)
