use Rattle.std.proofs.Common.{ap, ◌∙◌}
use Rattle.union_laws.specs.Loops.{with_loops}
use Rattle.kh_work.proofs.BareCodes.{accepted-bare, generator_count-bare}
use Rattle.kh_work.proofs.tables.without_loops.Goals as goal

pub of_accepted-bare-requires : goal.of_accepted-bare-requires
of_accepted-bare-requires c =
    accepted-bare c.diagram-diagram.result.now c.with_no_loops.result c.diagram_laws.ensures.accepted
    (c.with_no_loops.ensures ∙ ap (λ code. with_loops code 0) c.to_raw.ensures)

pub known-requires : goal.known-requires
known-requires c =
    generator_count-bare c.diagram-diagram.result.now c.of_diagram-counted.result c.diagram_laws.ensures.accepted
    (rw (c.diagram-diagram.ensures, c.counted.ensures.diagram) c.counted.ensures.within)
    (c.of_diagram-counted.ensures ∙ c.of_accepted-bare.ensures ∙ c.with_no_loops.ensures ∙ ap (λ code. with_loops code 0) c.to_raw.ensures)
