use Rattle.std.proofs.Common.{refl, rules, pos, true}
use Rattle.tangle_scan.proofs.scan.first_complex.Goals as goal

pub returns : goal.returns
returns c = record {
  object = record { pairing = c.none.result; degree = 0; shift = pos 0; smoothing = 0; is_alive = true };
  objects = search rules;
  first = record { partners = search rules; degree = refl; shift = refl; alive = refl };
  columns = rw (c.in_ok-push-2.ensures.items, c.new-columns.ensures.items, c.new.ensures.items);
}
