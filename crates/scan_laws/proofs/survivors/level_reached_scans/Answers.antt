use Rattle.std.proofs.Common.{refl}
use Rattle.square_laws.specs.Deformed.{opposite}
use Rattle.order_laws.proofs.Reordered.{own-order}
use Rattle.scan_laws.specs.LevelSteps.{IsLevelStep}
use Rattle.scan_laws.specs.Scans.{first_scan}
use Rattle.scan_laws.proofs.Leading.{leads-more, leads-none}
use Rattle.scan_laws.proofs.Whole.{table-same}
use Rattle.scan_laws.proofs.WholeSurvivors.{dimension-whole, level-end, reached-level}
use Rattle.scan_laws.proofs.survivors.level_reached_scans.Goals as goal

pub returns : goal.returns
returns c =
    record {
      first = λ p hd hh code. leads-none (IsLevelStep p hd hh code) first_scan;
      step = λ p hd hh code. leads-more (IsLevelStep p hd hh code) first_scan;
      level = reached-level;
      dimensions = λ p h code scan field is reached last.
          dimension-whole p h (opposite p h) refl code code.crossings scan field is
          (record { order = own-order code.crossings; reached = reached; last = last });
      table = λ p h code scan field is reached last.
          table-same p code scan
          (dimension-whole p h (opposite p h) refl code code.crossings scan field is
          (record { order = own-order code.crossings; reached = reached; last = last }));
      ends = λ p h code scan field is reached.
          let has = level-end p h (opposite p h) refl code 0 0 field is scan reached in (has.end, has.leads, has.last);
    }
