use Rattle.std.proofs.Common.{arith, subst}
use Rattle.tangle_scan.specs.Additions.{AreColumnsFrom, origins_to}
use Rattle.tangle_scan.proofs.adding.columns.columns_of.Goals as goal

pub returns : goal.returns
returns g c =
    let adding = c.args.links.now.adding.now in
    subst (λ n. AreColumnsFrom g.F.PrimeField.P adding (origins_to adding n) c.places.made.items)
    (omega (arith, c.places-test.false, c.places.auto.place-end, c.requires.links.many)) c.places.invariant.columns
