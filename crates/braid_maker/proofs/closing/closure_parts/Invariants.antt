use Rattle.std.proofs.Common.{◌≡◌, length, map}
use Rattle.std.specs.List.{range_with_len}
use Rattle.braid_maker.specs.Braids.{left_of, lower_left_is_over}
use Rattle.braid_maker.specs.Closures.{named_crossing}
use Rattle.braid_maker.proofs.closing.closure_parts.Given as goal

abbrev pub invariant-places : goal.invariant-places
invariant-places l =
    (l.crossings.items
    ≡ map (named_crossing l.strands (length l.letters) (left_of l.letters) (lower_left_is_over l.letters)) (range_with_len 0 l.place))
    × (l.positive.items ≡ map (lower_left_is_over l.letters) (range_with_len 0 l.place))
