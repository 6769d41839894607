use Rattle.std.proofs.Common.{◌≡◌}
use Rattle.kh_work.proofs.ReplyLemmas.{bench_reply-made}
use Rattle.kh_work.proofs.commands.bench.reply_to_small.Goals as goal

pub returns : goal.returns
returns g c =
    bench_reply-made c.in_ok-reply_with_dimension.field-0 c.args.field c.args.number c.args.small.now c.counted.result.now
    c.in_ok-table.table c.counted.ensures.diagram c.in_ok-table.ensures c.in_ok-reply_with_dimension.ensures
