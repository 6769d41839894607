use Rattle.std.proofs.Common.{refl}
use Rattle.square_laws.specs.Deformed.{opposite}
use Rattle.scan_laws.specs.LevelSteps.{IsFilteredStep}
use Rattle.scan_laws.specs.Scans.{first_scan}
use Rattle.scan_laws.proofs.Leading.{leads-more, leads-none}
use Rattle.scan_laws.proofs.WholeSurvivors.{lasting-reached, filtered-end, stands-reached, survivors-reached}
use Rattle.scan_laws.proofs.survivors.filtered_reached_scans.Goals as goal

pub returns : goal.returns
returns c =
    record {
      first = λ p hd hh code plus minus. leads-none (IsFilteredStep p hd hh code plus minus) first_scan;
      step = λ p hd hh code plus minus. leads-more (IsFilteredStep p hd hh code plus minus) first_scan;
      of = λ p h code plus minus scan field is reached. (stands-reached p h (opposite p h) refl code plus minus field is scan reached).of;
      filtered = λ p h code plus minus scan field is reached.
          (stands-reached p h (opposite p h) refl code plus minus field is scan reached).filtered;
      kept = λ p h code plus minus scan field is reached.
          (stands-reached p h (opposite p h) refl code plus minus field is scan reached).count;
      survivors = λ p h code plus minus scan field is. survivors-reached p h (opposite p h) refl code plus minus field is scan;
      lasting = λ p h code plus minus scan field is. lasting-reached p h (opposite p h) refl code plus minus field is scan;
      ends = λ p h code plus minus scan field is reached.
          let has = filtered-end p h (opposite p h) refl code plus minus field is scan reached in (has.end, has.leads, has.last);
    }
