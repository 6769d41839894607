use Rattle.std.proofs.Common.{◌∙◌, ap}
use Rattle.kh_types.specs.Code.{Code}
use Rattle.kh_types.specs.StateSum.{state_sum}
use Rattle.link_algebra.proofs.UnionLemmas.{union-sum_within}
use Rattle.link_algebra.proofs.unions.union.Goals as goal

pub returns-else-from-gt-LOOPS-clause-sum : goal.returns-else-from-gt-LOOPS-clause-sum
returns-else-from-gt-LOOPS-clause-sum c = λ exponent.
    ap (λ (code : Code). state_sum code exponent) c.united.ensures
    ∙ union-sum_within c.args.first.now c.args.second.now exponent c.crossings-first.ensures.accepted c.crossings-second.ensures.accepted
    c.count.ensures.fits
