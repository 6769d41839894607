use Rattle.tangle_scan.proofs.Passes.{from-both}
use Rattle.tangle_scan.proofs.clearing.pass_each.Goals as goal

pub passes-preserved : goal.passes-preserved
passes-preserved g c =
    from-both g.F.PrimeField.P c.args.front.now c.args.rowed.complex c.passes.rowed c.in_ok-rowed.rowed c.passes.invariant
    c.in_ok-rowed.ensures
