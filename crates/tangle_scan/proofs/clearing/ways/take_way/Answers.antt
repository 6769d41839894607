use Rattle.std.proofs.Common.{length, refl, arith}
use Rattle.std.proofs.lemmas.Result.{on_ok_weaker}
use Rattle.tangle_scan.proofs.Cancels.{less-changed, taken-way}
use Rattle.tangle_scan.proofs.clearing.ways.take_way.Goals as goal

pub cancel_in-requires-clause-column : goal.cancel_in-requires-clause-column
cancel_in-requires-clause-column g c = (length c.args.turn.now.objects.now, c.requires.maps)

pub cancel_in-requires-clause-number : goal.cancel_in-requires-clause-number
cancel_in-requires-clause-number g c none = omega (arith, c.requires.passage.turn_is.some, c.of-number.ensures, none)

pub returns-in_ok-cancel_in-in-Some : goal.returns-in_ok-cancel_in-in-Some
returns-in_ok-cancel_in-in-Some g c =
    record {
      changed = less-changed _ _ _ _ _ _ _ _ _ _ _ c.of-number.ensures c.in-Some.ensures.some.1 c.way_over-way.ensures.through
          c.in_ok-cancel_in-in-Some.ensures.changed;
      same_heads = λ same. c.in_ok-cancel_in-in-Some.ensures.same_heads;
    }

pub cancel_new-requires-clause-column : goal.cancel_new-requires-clause-column
cancel_new-requires-clause-column g c = (length c.args.turn.now.objects.now, c.requires.maps)

pub cancel_new-requires-clause-new : goal.cancel_new-requires-clause-new
cancel_new-requires-clause-new g c = c.place_of.ensures.none c.in-None.is

pub cancel_new-requires-clause-number : goal.cancel_new-requires-clause-number
cancel_new-requires-clause-number g c none = omega (arith, c.requires.passage.turn_is.some, c.of-number.ensures, none)

pub returns-in-None : goal.returns-in-None
returns-in-None g c =
    taken-way _ _ _ _ _ _ _
    (on_ok_weaker c.cancel_new.result
    (less-changed _ _ _ _ _ _ _ _ _ _ _ c.of-number.ensures refl c.way_over-way.ensures.through) c.cancel_new.ensures.changed)
    c.cancel_new.ensures.same_heads
