use Rattle.tangle_scan.proofs.Passes.{from-both}
use Rattle.tangle_scan.proofs.clearing.pass_all.Goals as goal

pub places-preserved : goal.places-preserved
places-preserved g c =
    from-both g.F.PrimeField.P c.args.front.now c.args.rowed.complex c.places.rowed c.in_ok-rowed.rowed c.places.invariant
    c.in_ok-rowed.ensures
