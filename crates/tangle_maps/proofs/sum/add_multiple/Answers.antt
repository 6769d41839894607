use Rattle.std.proofs.Common.{subst, [], ◌∷◌}
use Rattle.std.proofs.lemmas.Result.{on_ok_weaker}
use Rattle.tangle_maps.specs.Sums.{IsSum, dotted_term}
use Rattle.tangle_maps.proofs.SumLemmas.{multiple_added}
use Rattle.tangle_maps.proofs.sum.add_multiple.Goals as goal

pub returns-clause-sum : goal.returns-clause-sum
returns-clause-sum g c =
    on_ok_weaker c.add_term.result
    (λ is. multiple_added g.F.PrimeField.P (g.F.PrimeField.value_of c.args.factor) c.args.term.now.coefficient (g.F.PrimeField.value_of c.of.result)
    c.args.term.now.dots c.args.terms.now.items c.add_term.new.terms.items c.of.ensures
    (subst (λ v. IsSum g.F.PrimeField.P c.args.terms.now.items (dotted_term c.args.term.now.dots v ∷ []) c.add_term.new.terms.items) c.mul.ensures is))
    c.add_term.ensures.sum
