use Rattle.std.proofs.Common.{arith}
use Rattle.kh_work.proofs.BesideCircles.{IsTable-more, table_with-first, table_with-last, table_with-more}
use Rattle.kh_work.proofs.circles.beside_loops.Goals as goal

pub loops-init : goal.loops-init
loops-init g c =
    table_with-first g.F.PrimeField.P c.args.diagram.now c.element_laws.ensures.prime c.diagram_laws.ensures.accepted
    c.diagram_laws.ensures.few c.args.bare c.requires.bare

pub beside_circle-requires-clause-table : goal.beside_circle-requires-clause-table
beside_circle-requires-clause-table g c =
    IsTable-more g.F.PrimeField.P c.args.diagram.now c.element_laws.ensures.prime c.diagram_laws.ensures.accepted
    c.diagram_laws.ensures.few c.loops.made c.count.result c.loops.counter c.count.ensures.count
    (omega (arith, c.loops-test.true, c.loops-end.ensures.loops)) c.requires.size c.loops.invariant

pub loops-preserved : goal.loops-preserved
loops-preserved g c =
    table_with-more g.F.PrimeField.P c.args.diagram.now c.element_laws.ensures.prime c.diagram_laws.ensures.accepted
    c.diagram_laws.ensures.few c.loops.made c.in_ok-made.made c.count.result c.loops.counter c.count.ensures.count
    (omega (arith, c.loops-test.true, c.loops-end.ensures.loops)) c.loops.invariant c.in_ok-made.ensures

pub returns : goal.returns
returns g c =
    table_with-last g.F.PrimeField.P c.args.diagram.now c.element_laws.ensures.prime c.diagram_laws.ensures.accepted
    c.diagram_laws.ensures.few c.loops.made c.loops.counter (omega (arith, c.loops-test.false, c.loops.auto.counter-end, c.loops-end.ensures.loops)) c.loops.invariant
