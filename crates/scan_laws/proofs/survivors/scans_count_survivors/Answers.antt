use Rattle.std.proofs.Common.{refl}
use Rattle.kh_types.specs.Directions.{minus_count, plus_count}
use Rattle.square_laws.specs.Deformed.{opposite}
use Rattle.order_laws.specs.Orders.{listed_by}
use Rattle.order_laws.proofs.AnyOrder.{accepted-reordered}
use Rattle.scan_laws.specs.LevelSteps.{IsFilteredStep}
use Rattle.scan_laws.specs.Scans.{first_scan}
use Rattle.scan_laws.proofs.Leading.{leads-none}
use Rattle.scan_laws.proofs.WholeSurvivors.{lasting-whole, filtered-end, survivors-whole}
use Rattle.scan_laws.proofs.survivors.scans_count_survivors.Goals as goal

pub returns : goal.returns
returns c =
    record {
      survivors = λ p h code crossings scan field is. survivors-whole p h (opposite p h) refl code crossings scan field is;
      lasting = λ p h code crossings scan field is. lasting-whole p h (opposite p h) refl code crossings scan field is;
      possible = λ p h code crossings field is order.
          let k = opposite p h in
          let plus = plus_count code.crossings in
          let minus = minus_count code.crossings in
          let listed = listed_by code crossings in
          let listed_is = accepted-reordered code.loops code.crossings crossings order is in
          let has = filtered-end p h k refl listed plus minus field listed_is first_scan (leads-none (IsFilteredStep p h k listed plus minus) first_scan) in
          (has.end, record { order = order; reached = has.leads; last = has.last });
    }
