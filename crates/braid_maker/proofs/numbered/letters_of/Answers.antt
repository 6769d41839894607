use Rattle.std.proofs.Common.{refl, arith, subst, sym, List, ℤ}
use Rattle.braid_maker.specs.Closures.{AreLetters}
use Rattle.braid_maker.proofs.Accepted.{AreLetters-number}
use Rattle.braid_maker.proofs.Digits.{first-more, first-all}
use Rattle.braid_maker.proofs.numbered.letters_of.Goals as goal

pub digits-preserved : goal.digits-preserved
digits-preserved c =
    first-more c.args.number c.digits.counter c.digits.rest c.digits.letters.items c.push_letter.new.letters.items _
    c.digits.invariant c.push_letter.ensures refl

pub returns-clause-letters : goal.returns-clause-letters
returns-clause-letters c =
    first-all c.args.number c.digits.counter c.digits.rest 10 c.digits.letters.items c.digits.invariant
    (omega (arith, c.digits.auto.counter-end, c.digits-test.false))

pub returns-clause-within : goal.returns-clause-within
returns-clause-within c =
    subst (λ (letters : List ℤ). AreLetters 3 letters) (sym (returns-clause-letters c)) (AreLetters-number 10 c.args.number)
