use Rattle.std.proofs.Common.{◌≡◌, ◌∙◌, false, true, refl}
use Rattle.kh_work.proofs.ReplyLemmas.{bench_reply-diagram, bench_reply-over, generators_of_diagram}
use Rattle.kh_work.proofs.commands.bench.reply_to_bench.Goals as goal

pub known-small-requires : goal.known-small-requires
known-small-requires g c =
    generators_of_diagram c.args.number c.of_diagram.result c.in-Ok.diagram c.of_diagram.ensures c.in-Ok.ensures.diagram
    c.numbers_give_small_diagrams.ensures.within

pub returns-in_ok-reply_to_small-in-Ok : goal.returns-in_ok-reply_to_small-in-Ok
returns-in_ok-reply_to_small-in-Ok g c =
    c.in_ok-reply_to_small-in-Ok.ensures
    ∙ bench_reply-diagram c.args.field c.args.number c.known-small.result c.in-Ok.diagram (c.in-Ok.ensures.within.0 refl)
    (c.known-small.ensures ∙ c.of_diagram.ensures) c.in-Ok.ensures.diagram

pub returns-in_ok-too_large_number-in-Err : goal.returns-in_ok-too_large_number-in-Err
returns-in_ok-too_large_number-in-Err g c =
    c.in_ok-too_large_number-in-Err.ensures
    ∙ bench_reply-over c.args.field c.args.number c.in-Err.limit.number
    (λ below. let so : false ≡ true = c.in-Err.ensures.within.1 below in absurd (cc)) c.in-Err.ensures.carried
