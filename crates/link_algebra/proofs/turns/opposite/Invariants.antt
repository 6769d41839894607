use Rattle.std.proofs.Common.{◌≡◌, map, not, take}
use Rattle.link_algebra.proofs.turns.opposite.Given as goal

abbrev pub invariant-signs : goal.invariant-signs
invariant-signs l = l.opposite.items ≡ map not (take l.sign-index l.signs)
