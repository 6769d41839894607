use Rattle.std.proofs.Common.{◌∙◌, ap, subst}
use Rattle.std.specs.Option.{IfSome}
use Rattle.kh_types.specs.Complex.{Complex, IsPivot}
use Rattle.cancel_step.specs.declared.search.Found.{Found}
use Rattle.shared_block.specs.BlockHistories.{complex_of}
use Rattle.shared_block.proofs.shared_block.SharedBlock.next.Goals as goal

pub returns-clause-pivot : goal.returns-clause-pivot
returns-clause-pivot g c =
    subst (λ (complex : Complex). IfSome c.find.result (λ (found : Found). IsPivot complex found.pivot))
    (c.self.invariant.replayed ∙ ap (complex_of g.F.PrimeField.P) c.self.view_is) c.find.ensures.some
