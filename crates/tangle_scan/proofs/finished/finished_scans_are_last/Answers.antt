use Rattle.std.proofs.Common.{◌≡◌, List, length, subst}
use Rattle.std.specs.Prelude.{All}
use Rattle.tangle_maps.specs.declared.pairing.TheConstants.{POINTS}
use Rattle.tangle_scan.specs.declared.complex.Object.{Object}
use Rattle.tangle_scan.proofs.LastLemmas.{last-scan}
use Rattle.tangle_scan.proofs.finished.finished_scans_are_last.Goals as goal

pub returns : goal.returns
returns g c =
    let p = g.F.PrimeField.P in
    last-scan p c.args.scan.now (c.reached_scans.ensures.fields p c.element_laws.ensures.prime) c.laws.ensures.accepted
    c.laws.ensures.kept c.requires.done c.requires.none
    (subst (λ (objects : List Object). All (λ object. length object.pairing.partners ≡ POINTS) objects) c.objects.ensures
    c.look_at_partners.ensures)
