use Rattle.std.proofs.Common.{◌≡◌, ◌∙◌, ℕ, ap, arith}
use Rattle.tangle_maps.specs.Seams.{dots_on}
use Rattle.tangle_maps.proofs.SeamLemmas.{dots_on_none}
use Rattle.tangle_maps.proofs.seam.add_dots.Goals as goal

pub returns-then-dots-eq0 : goal.returns-then-dots-eq0
returns-then-dots-eq0 c = λ k below.
    let none : dots_on k c.args.dots c.args.places.now ≡ 0 =
    ap (λ (dots : ℕ). dots_on k dots c.args.places.now) c.if-dots-eq0.true ∙ dots_on_none k c.args.places.now in
    omega (arith, none, c.fits-loads k)
