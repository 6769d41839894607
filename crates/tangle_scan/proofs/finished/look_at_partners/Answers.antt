use Rattle.std.proofs.Common.{◌≡◌, ◌∙◌, length, sym, subst, ap, arith}
use Rattle.std.specs.Prelude.{All}
use Rattle.std.proofs.lemmas.List.{take_all}
use Rattle.std.proofs.lemmas.List.Elements.{All-more}
use Rattle.tangle_maps.specs.declared.pairing.TheConstants.{POINTS}
use Rattle.tangle_scan.specs.declared.complex.Object.{Object}
use Rattle.tangle_scan.proofs.finished.look_at_partners.Goals as goal

pub objects-preserved : goal.objects-preserved
objects-preserved c =
    All-more (λ (object : Object). length object.pairing.partners ≡ POINTS) c.args.objects.now c.objects.object-index
    c.object-item.result (omega arith) c.objects.invariant
    (ap (λ (object : Object). length object.pairing.partners) (sym c.object-item.is) ∙ c.look_at_pairing.ensures)

pub returns : goal.returns
returns c =
    subst (All (λ (object : Object). length object.pairing.partners ≡ POINTS))
    (take_all c.objects.object-index c.args.objects.now (omega arith)) c.objects.invariant
