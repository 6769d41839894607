use Rattle.std.proofs.Common.{◌∙◌, sym}
use Rattle.std.specs.Prelude.{slice_index}
use Rattle.dotted_maps.specs.Choices.{choices}
use Rattle.tangle_maps.proofs.ChoiceLemmas.{zero_added}
use Rattle.tangle_maps.proofs.composing.add_weighed.Goals as goal

pub returns-then-value-eq0-clause-sum : goal.returns-then-value-eq0-clause-sum
returns-then-value-eq0-clause-sum g c =
    zero_added g.F.PrimeField.P (g.F.PrimeField.value_of c.args.weighed)
    (choices c.args.names.now c.args.discs.now (slice_index c.args.left.now)) c.args.terms.now.items
    (sym c.value.ensures.value ∙ c.if-value-eq0.true)
