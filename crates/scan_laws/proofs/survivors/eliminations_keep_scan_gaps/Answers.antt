use Rattle.scan_laws.proofs.KeptSteps.{gap-kept}
use Rattle.scan_laws.proofs.survivors.eliminations_keep_scan_gaps.Goals as goal

pub returns : goal.returns
returns c p hd hh code plus minus scan next gap field cancels is of least less same =
    gap-kept p hd hh code plus minus scan next
    (record { field = field; cancels = cancels; accepted_is = is; of = of; less = less }) gap least same
