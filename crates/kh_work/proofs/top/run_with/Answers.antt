use Rattle.std.proofs.Common.{◌≡◌}
use Rattle.kh_runs.specs.Told.{seen}
use Rattle.kh_runs.proofs.RunLemmas.{IsRun-written}
use Rattle.kh_work.specs.Runs.{request_of}
use Rattle.kh_work.proofs.Headlines.{headline-run}
use Rattle.kh_work.proofs.ReducedHeadlines.{reduced-run}
use Rattle.kh_work.proofs.top.run_with.Goals as goal

pub returns-clause-run : goal.returns-clause-run
returns-clause-run g c =
    IsRun-written (request_of c.args.words.now) (seen (g.S.Source.left c.args.source.now) (g.S.Source.faults c.args.source.now))
    (seen (g.S.Source.left c.reply_to-made.new.source) (g.S.Source.faults c.reply_to-made.new.source))
    (seen (g.K.Sink.written c.args.sink.now) (g.K.Sink.faults c.args.sink.now))
    (seen (g.K.Sink.written c.written.new.sink) (g.K.Sink.faults c.written.new.sink))
    (c.reply_to-made.new.source ≡ c.args.source.now) (c.written.new.sink ≡ c.args.sink.now) c.reply_to-made.result c.written.result
    (record {
      answered = c.reply_to-made.ensures.answered;
      blind = c.reply_to-made.ensures.blind;
      whole = c.reply_to-made.ensures.whole;
      usage_only = c.reply_to-made.ensures.usage_only;
      unread = c.reply_to-made.ensures.unread;
      taken = c.reply_to-made.ensures.taken;
      read_out = c.reply_to-made.ensures.read_out;
      fault = c.reply_to-made.ensures.fault;
      stayed = c.reply_to-made.ensures.stayed;
    }) c.written.ensures

pub returns-clause-headline : goal.returns-clause-headline
returns-clause-headline g c =
    headline-run c.args.words.now (seen (g.S.Source.left c.args.source.now) (g.S.Source.faults c.args.source.now))
    (seen (g.S.Source.left c.reply_to-made.new.source) (g.S.Source.faults c.reply_to-made.new.source))
    (seen (g.K.Sink.written c.args.sink.now) (g.K.Sink.faults c.args.sink.now))
    (seen (g.K.Sink.written c.written.new.sink) (g.K.Sink.faults c.written.new.sink))
    (c.reply_to-made.new.source ≡ c.args.source.now) (c.written.new.sink ≡ c.args.sink.now) c.written.result (returns-clause-run g c)

pub returns-clause-reduced : goal.returns-clause-reduced
returns-clause-reduced g c =
    reduced-run c.args.words.now (seen (g.S.Source.left c.args.source.now) (g.S.Source.faults c.args.source.now))
    (seen (g.S.Source.left c.reply_to-made.new.source) (g.S.Source.faults c.reply_to-made.new.source))
    (seen (g.K.Sink.written c.args.sink.now) (g.K.Sink.faults c.args.sink.now))
    (seen (g.K.Sink.written c.written.new.sink) (g.K.Sink.faults c.written.new.sink))
    (c.reply_to-made.new.source ≡ c.args.source.now) (c.written.new.sink ≡ c.args.sink.now) c.written.result (returns-clause-run g c)
