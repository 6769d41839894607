use Rattle.std.proofs.Common.{◌∙◌}
use Rattle.kh_work.proofs.BesideCircles.{IsTable-whole, whole-reduced}
use Rattle.kh_work.proofs.circles.of_reduced.Goals as goal

pub beside_circle-requires-clause-table : goal.beside_circle-requires-clause-table
beside_circle-requires-clause-table g c =
    IsTable-whole g.F.PrimeField.P c.args.diagram.now 1 c.requires.two c.diagram_laws.ensures.accepted
    c.diagram_laws.ensures.few c.requires.mark c.args.reduced.now c.count.result c.count.ensures.count c.requires.reduced
    c.element_laws.ensures.prime c.requires.size

pub returns : goal.returns
returns g c =
    c.in_ok-made.ensures
    ∙ whole-reduced g.F.PrimeField.P c.args.diagram.now 1 c.requires.two c.diagram_laws.ensures.accepted
    c.diagram_laws.ensures.few c.requires.mark c.args.reduced.now c.count.result c.count.ensures.count c.requires.reduced
