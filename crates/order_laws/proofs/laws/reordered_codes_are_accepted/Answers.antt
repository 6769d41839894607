use Rattle.order_laws.proofs.AnyOrder.{accepted-reordered, reordered-accepted}
use Rattle.order_laws.proofs.laws.reordered_codes_are_accepted.Goals as goal

pub returns : goal.returns
returns c =
    record {
      accepted = λ code crossings is order. accepted-reordered code.loops code.crossings crossings order is;
      either = λ code crossings order. (
        reordered-accepted code.loops code.crossings crossings order,
        accepted-reordered code.loops code.crossings crossings order,
      );
    }
