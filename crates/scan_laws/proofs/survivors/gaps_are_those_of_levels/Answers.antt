use Rattle.scan_laws.proofs.LastMaps.{gap-last}
use Rattle.scan_laws.proofs.survivors.gaps_are_those_of_levels.Goals as goal

pub returns : goal.returns
returns c p hd hh code plus minus scan gap field cancels is of filtered done least =
    gap-last p hd hh code plus minus field cancels is scan of filtered done gap least
