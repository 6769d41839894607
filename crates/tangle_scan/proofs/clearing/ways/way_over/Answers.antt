use Rattle.std.proofs.Common.{refl, sym, subst}
use Rattle.tangle_maps.specs.declared.way.Way.{Way}
use Rattle.tangle_maps.specs.Sums.{AreReduced}
use Rattle.tangle_scan.specs.Eliminations.{IsThrough}
use Rattle.tangle_scan.proofs.Cancels.{multiple-through, way-through}
use Rattle.tangle_scan.proofs.clearing.ways.way_over.Goals as goal

pub returns : goal.returns
returns g c =
    let turn = c.args.turn.now in
    let start = c.args.start.now in
    let entry = c.args.entry.now in
    let way : Way = record {
      opened = turn.opened;
      from = c.pairing_at.result;
      over = c.pairing_at-2.result;
      to = c.pairing_at-3.result;
      first = start.first;
      second = c.as_slice.result;
    } in
    let through : IsThrough turn start.place entry.head start.first.now entry.terms.items way = record {
      opened = refl;
      source = c.pairing_at.ensures;
      middle = c.pairing_at-2.ensures;
      target = c.pairing_at-3.ensures;
      front = refl;
      back = c.as_slice.ensures;
    } in
    record {
      through = through;
      known = record {
        fits = way-through g.F.PrimeField.P turn start.place entry.head start.first.now entry.terms.items way c.requires.passage.turn_is
            c.requires.passage.start_is.place c.requires.passage.next_is.head through;
        maps = record {
          front = c.requires.passage.start_is.first;
          back = subst (AreReduced g.F.PrimeField.P) (sym c.as_slice.ensures) c.requires.passage.next_is.terms;
        };
        multiple_is = multiple-through turn start.place entry start.first.now way start.multiple through
            c.requires.passage.start_is.multiple c.requires.passage.next_is.dots c.requires.alive;
      };
    }
