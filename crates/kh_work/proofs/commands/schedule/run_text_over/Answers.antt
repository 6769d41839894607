use Rattle.std.proofs.Common.{◌∙◌, ap, ap₂}
use Rattle.kh_types.specs.Code.{Code}
use Rattle.kh_types.specs.Table.{table}
use Rattle.kh_types.specs.declared.limits.TheConstants.{WORKERS}
use Rattle.commit_core.specs.Answering.{answers}
use Rattle.kh_work.proofs.ScheduleLemmas.{events_of-workers, run_text-is}
use Rattle.kh_work.proofs.commands.schedule.run_text_over.Goals as goal

pub run_events-requires-clause-events : goal.run_events-requires-clause-events
run_events-requires-clause-events g c =
    events_of-workers c.args.script.now c.deref.result.now (c.deref.ensures.value ∙ c.in_ok-events.ensures) c.requires.workers

pub returns : goal.returns
returns g c =
    run_text-is c.args.script.now c.deref-2.result.now c.in_ok-run.run'.answers.items _ c.in_ok-run.run'.table _ c.in_ok-text.text.items
    c.deref-2.ensures.value
    (c.in_ok-run.ensures.answers
    ∙ ap₂ (λ (code : Code) events. answers g.F.PrimeField.P code WORKERS events) (c.diagram-diagram.ensures ∙ c.counted.ensures.diagram)
    (c.deref.ensures.value ∙ c.in_ok-events.ensures))
    (c.in_ok-run.ensures.table ∙ ap (table g.F.PrimeField.P) (c.diagram-diagram.ensures ∙ c.counted.ensures.diagram)) c.in_ok-text.ensures
