use Rattle.std.proofs.Common.{◌≤◌, ◌∙◌, ap, subst, sym}
use Rattle.circle_smoothing.specs.GeneratorCounts.{generator_count}
use Rattle.circle_smoothing.specs.declared.limits.TheConstants.{GENERATORS}
use Rattle.kh_types.specs.Code.{Code}
use Rattle.kh_types.specs.Table.{table}
use Rattle.commit_core.proofs.Runs.{answers-made, diagram-made}
use Rattle.commit_core.proofs.run.run_events.Goals as goal

pub finish-requires : goal.finish-requires
finish-requires g c =
    subst (λ (code : Code). generator_count code ≤ GENERATORS)
    (sym
    (diagram-made g.F.PrimeField.P c.args.diagram.now c.args.workers c.in_ok-core.core c.args.events.now c.in_ok-answers.answers.items
    c.run.new.self c.in_ok-core.ensures c.in_ok-answers.ensures))
    c.requires.size

pub returns-clause-answers : goal.returns-clause-answers
returns-clause-answers g c =
    answers-made g.F.PrimeField.P c.args.diagram.now c.args.workers c.in_ok-core.core c.args.events.now c.in_ok-answers.answers.items
    c.run.new.self c.in_ok-core.ensures c.in_ok-answers.ensures

pub returns-clause-table : goal.returns-clause-table
returns-clause-table g c =
    c.in_ok-table.ensures
    ∙ ap (table g.F.PrimeField.P)
    (diagram-made g.F.PrimeField.P c.args.diagram.now c.args.workers c.in_ok-core.core c.args.events.now c.in_ok-answers.answers.items
    c.run.new.self c.in_ok-core.ensures c.in_ok-answers.ensures)
