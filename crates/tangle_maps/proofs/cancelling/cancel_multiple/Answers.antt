use Rattle.std.proofs.Common.{◌*◌, ◌%◌, ◌∙◌, ap₂}
use Rattle.std.proofs.lemmas.Result.{on_ok_weaker}
use Rattle.prime_field.specs.Residues.{inverse_mod, negative_mod}
use Rattle.tangle_maps.proofs.ComposeLemmas.{cancelled}
use Rattle.tangle_maps.proofs.Multiples.{multiple-below, multiple_taken}
use Rattle.tangle_maps.proofs.WayLemmas.{way-facts}
use Rattle.tangle_maps.proofs.cancelling.cancel_multiple.Goals as goal

pub of-requires : goal.of-requires
of-requires g c = multiple-below g.F.PrimeField.P c.args.multiple c.args.way.now c.requires.maps c.requires.multiple

pub returns-clause-entry : goal.returns-clause-entry
returns-clause-entry g c =
    let p = g.F.PrimeField.P in
    let value = g.F.PrimeField.value_of in
    let way = c.args.way.now in
    let facts = way-facts way c.requires.way in
    on_ok_weaker c.add_scaled.result
    (λ sum. cancelled p (value c.args.pivot) way c.args.entry.now.items c.add_scaled.new.terms.items facts c.element_laws.ensures.field
    (multiple_taken p (value c.mul-factor.result) (negative_mod p (inverse_mod p (value c.args.pivot))) c.args.multiple way
    c.args.entry.now.items c.add_scaled.new.terms.items facts c.requires.multiple
    (c.mul-factor.ensures ∙ ap₂ (λ a b. a * b % p) c.minus_inverse.ensures c.of.ensures) sum))
    c.add_scaled.ensures.sum
