use Rattle.std.proofs.Common.{◌≡◌, take}
use Rattle.std.specs.List.{fold}
use Rattle.added_crossing_laws.specs.Steps.{pairs_at}
use Rattle.crossing_maps.specs.Partners.{paired_up}
use Rattle.crossing_maps.proofs.behind.pair_mates.Given as goal

abbrev pub invariant-mates : goal.invariant-mates
invariant-mates l =
    l.made.partners ≡ fold paired_up l.initial.made.partners (pairs_at (take l.mate-index l.opened) l.classes l.arc)
