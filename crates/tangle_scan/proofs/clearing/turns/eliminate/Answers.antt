use Rattle.std.proofs.Common.{◌∙◌, ap, refl}
use Rattle.tangle_scan.specs.declared.clearing.pivots.Pivot.{Pivot}
use Rattle.tangle_scan.specs.declared.clearing.rows.Rowed.{Rowed}
use Rattle.tangle_scan.proofs.Eliminated.{begun, columns-begun, eliminated, rowed-after, turn-is}
use Rattle.tangle_scan.proofs.Killed.{alive-within}
use Rattle.tangle_scan.proofs.clearing.turns.eliminate.Goals as goal

pub take_out-taken-requires-clause-tail : goal.take_out-taken-requires-clause-tail
take_out-taken-requires-clause-tail g c =
    alive-within c.args.rowed.complex.objects.items c.args.pivot.tail c.requires.pivot_is.is_there

pub take_out-taken-requires-clause-head : goal.take_out-taken-requires-clause-head
take_out-taken-requires-clause-head g c =
    alive-within c.args.rowed.complex.objects.items c.args.pivot.head c.requires.pivot_is.leads_there

pub clear_all-requires : goal.clear_all-requires
clear_all-requires g c =
    let is = begun _ _ _ _ _ _ _ c.requires.front_is c.requires.rowed_is c.requires.pivot_is c.take_out-taken.ensures
    c.turn_of-turn.ensures in
    record { turn_is = turn-is _ _ _ _ _ _ is; columns_are = columns-begun _ _ _ _ _ _ is }

pub returns : goal.returns
returns g c =
    let next : Rowed = record {
      complex = record { objects = c.take_out-taken.new.rowed.complex.objects; columns = c.clear_all.new.columns };
      rows = c.clear_all.new.rows;
      seams = c.clear_all.new.seams;
    } in
    let is = begun _ _ _ _ _ _ _ c.requires.front_is c.requires.rowed_is c.requires.pivot_is c.take_out-taken.ensures
    c.turn_of-turn.ensures in
    let cleared = c.in_ok-clear_all.ensures.cleared in
    let columns = c.in_ok-clear_all.ensures.columns_are in
    let done = eliminated _ _ _ _ _ _ is _ next c.as_slice-named.ensures.value refl cleared columns in
    record {
      step = done.0;
      tail = done.1.0 ∙ ap (λ (q : Pivot). q.tail) c.turn_of-turn.ensures.pivot_is;
      head = done.1.1 ∙ ap (λ (q : Pivot). q.head) c.turn_of-turn.ensures.pivot_is;
      rowed_is = rowed-after _ _ _ _ _ _ is _ next c.as_slice-named.ensures.value refl cleared columns;
    }
