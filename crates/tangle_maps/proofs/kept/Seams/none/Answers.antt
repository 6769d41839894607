use Rattle.std.proofs.Common.{List, ap, arith, length}
use Rattle.std.specs.Global.{Vec}
use Rattle.std.proofs.lemmas.List.{length_push}
use Rattle.tangle_maps.specs.declared.kept.KeptSeam.{KeptSeam}
use Rattle.tangle_maps.proofs.KeptLemmas.{lists-more}
use Rattle.tangle_maps.proofs.kept.Seams.none.Goals as goal

pub numbers-preserved : goal.numbers-preserved
numbers-preserved c = record {
  many = omega (
    arith,
    ap (λ (xs : List (Vec KeptSeam)). length xs) c.in_ok-push.ensures.items,
    length_push c.numbers.lists.items c.new.result,
    c.numbers.invariant.many,
  );
  each = lists-more c.new.result c.numbers.lists.items c.push.new.self.items c.new.ensures.items c.in_ok-push.ensures.items
      c.numbers.invariant.each;
}
