use Rattle.std.proofs.Common.{◌≡◌, ◌<◌, IfSome}
use Rattle.braid_maker.specs.Words.{last_below, touches}
use Rattle.braid_maker.specs.Braids.{left_of}
use Rattle.braid_maker.proofs.rising.last_below.Given as goal

abbrev pub invariant-places : goal.invariant-places
invariant-places l =
    (l.last ≡ last_below (touches (left_of l.letters) l.position) l.place) × IfSome l.last (λ other. other < l.place)
