use Rattle.std.proofs.Common.{◌≡◌, drop, slice_index}
use Rattle.gauss_code.specs.Grammar.{number_places}
use Rattle.gauss_code.proofs.faults.number_place.Given as goal

-- the place is that of a number that is left
abbrev pub invariant-loop-token : goal.invariant-loop-token
invariant-loop-token l =
    slice_index (number_places (drop l.token-index l.tokens)) l.before ≡ slice_index (number_places l.tokens) l.at
