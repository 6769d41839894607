use Rattle.std.proofs.Common.{◌≡◌, length, ap, subst, arith, IsTrue}
use Rattle.kh_types.specs.Acceptance.{accepted}
use Rattle.kh_types.specs.Accepted.{IsAccepted}
use Rattle.kh_types.specs.Code.{Code}
use Rattle.kh_types.proofs.AcceptedLemmas.{IsAccepted-is}
use Rattle.jones_sum.proofs.KindLemmas.{counted_sum-state_sum, sum-counts}
use Rattle.jones_sum.proofs.kinds.state_counts.Goals as goal

-- the code that is seen in both
accepted_too : (code same : Code) → same ≡ code → IsTrue (accepted same) → IsAccepted code
accepted_too code same is holds = subst (λ (c : Code). IsAccepted c) is ((IsAccepted-is same).0 holds)

pub returns-clause-sums : goal.returns-clause-sums
returns-clause-sums c = λ exponent.
    let code = c.args.counted.now in
    counted_sum-state_sum code c.kinds.counts exponent
    (accepted_too code c.diagram.result.now c.diagram.ensures c.diagram_laws.ensures.accepted)
    (omega (
      arith,
      c.diagram_laws.ensures.few,
      ap (λ (d : Code). length d.crossings) c.diagram.ensures,
    ))
    c.kinds.invariant.size (λ kind below. c.kinds.invariant.counts kind (omega (arith, below, c.kinds-test.false)))

pub returns-clause-all : goal.returns-clause-all
returns-clause-all c =
    let code = c.args.counted.now in
    sum-counts code c.kinds.counts (accepted_too code c.diagram.result.now c.diagram.ensures c.diagram_laws.ensures.accepted)
    (omega (
      arith,
      c.diagram_laws.ensures.few,
      ap (λ (d : Code). length d.crossings) c.diagram.ensures,
    ))
    c.kinds.invariant.size (λ kind below. c.kinds.invariant.counts kind (omega (arith, below, c.kinds-test.false)))
