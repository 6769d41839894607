use Rattle.tangle_scan.specs.Held.{scan_at}
use Rattle.tangle_scan.proofs.Passes.{heads-read, leads-both}
use Rattle.tangle_scan.proofs.clearing.eliminate_all.Goals as goal

pub rows_of-requires : goal.rows_of-requires
rows_of-requires g c =
    heads-read g.F.PrimeField.P c.args.front.now c.args.complex c.as_slice.result.now c.requires.complex c.as_slice.ensures.value

pub returns-clause-steps : goal.returns-clause-steps
returns-clause-steps g c =
    let front = c.args.front.now in
    leads-both g.F.PrimeField.P front.diagram (scan_at front c.args.complex) (scan_at front c.in_ok-rowed.rowed.complex)
    (scan_at front c.in_ok-rowed-2.rowed.complex) c.in_ok-rowed.ensures.leads c.in_ok-rowed-2.ensures.rowed.leads
