use Rattle.tangle_scan.proofs.Passes.{fewer, from-both, from-step, indexed}
use Rattle.tangle_scan.proofs.clearing.finish.Goals as goal

pub find_pivot-requires : goal.find_pivot-requires
find_pivot-requires g c = indexed g.F.PrimeField.P c.args.front.now c.pivots.rowed c.pivots.invariant.is

pub pivots-smaller : goal.pivots-smaller
pivots-smaller g c =
    fewer g.F.PrimeField.P c.args.front.now c.pivots.rowed.complex c.in_ok-rowed.rowed.complex c.in_ok-rowed.ensures.step

pub pivots-preserved : goal.pivots-preserved
pivots-preserved g c =
    let p = g.F.PrimeField.P in
    let front = c.args.front.now in
    let next = c.in_ok-rowed.rowed in
    from-both p front c.args.rowed.complex c.pivots.rowed next c.pivots.invariant
    (from-step p front c.pivots.rowed next _ c.in_ok-rowed.ensures)
