use Rattle.std.proofs.Common.{refl}
use Rattle.square_laws.specs.Deformed.{opposite}
use Rattle.order_laws.specs.Orders.{listed_by}
use Rattle.order_laws.proofs.AnyOrder.{accepted-reordered}
use Rattle.scan_laws.specs.LevelSteps.{IsLevelStep}
use Rattle.scan_laws.specs.Scans.{first_scan}
use Rattle.scan_laws.proofs.Leading.{leads-none}
use Rattle.scan_laws.proofs.Whole.{table-same}
use Rattle.scan_laws.proofs.WholeSurvivors.{dimension-whole, level-end}
use Rattle.scan_laws.proofs.survivors.level_scans_count_dimensions.Goals as goal

pub returns : goal.returns
returns c =
    record {
      dimensions = λ p h code crossings scan field is. dimension-whole p h (opposite p h) refl code crossings scan field is;
      table = λ p h code crossings scan field is end.
          table-same p code scan (dimension-whole p h (opposite p h) refl code crossings scan field is end);
      possible = λ p h code crossings field is order.
          let k = opposite p h in
          let listed = listed_by code crossings in
          let has = level-end p h k refl listed 0 0 field (accepted-reordered code.loops code.crossings crossings order is) first_scan
          (leads-none (IsLevelStep p h k listed) first_scan) in
          (has.end, record { order = order; reached = has.leads; last = has.last });
    }
