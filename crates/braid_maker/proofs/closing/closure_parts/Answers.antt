use Rattle.std.proofs.Common.{arith}
use Rattle.braid_maker.proofs.NamedParts.{parts-are}
use Rattle.braid_maker.proofs.closing.closure_parts.Goals as goal

pub returns : goal.returns
returns c =
    parts-are c.args.strands c.places.place c.args.letters.now c.places.crossings.items c.places.positive.items
    c.straight_count.result (omega (arith, c.places-test.false, c.places.auto.place-end)) c.places.invariant.0 c.places.invariant.1
    c.straight_count.ensures
