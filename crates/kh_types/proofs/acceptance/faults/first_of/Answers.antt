use Rattle.std.proofs.lemmas.Bool.Decides.{nat_tests}
use Rattle.std.proofs.Common.{◌-◌, ◌∙◌, sym, arith}
use Rattle.kh_types.proofs.FaultLemmas.{first_of_at, none_of_more}
use Rattle.kh_types.proofs.acceptance.faults.first_of.Goals as goal

pub returns-in-Some : goal.returns-in-Some
returns-in-Some g c = λ at same.
    let start = c.args.numbers.start in
    let number = c.loop-number.number in
    sym (first_of_at at start (c.args.numbers.end - start) (number - start) number c.in-Some.fault (omega arith) (omega arith)
    (c.loop-number.invariant at same) (sym (same number _ (omega arith) c.fault_at.ensures) ∙ c.in-Some.is))

pub loop-number-preserved : goal.loop-number-preserved
loop-number-preserved = grind (arith, nat_tests, none_of_more)
