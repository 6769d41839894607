use Rattle.braid_maker.proofs.Digits.{AreFirst}
use Rattle.braid_maker.proofs.numbered.letters_of.Given as goal

abbrev pub invariant-digits : goal.invariant-digits
invariant-digits l = AreFirst l.number l.counter l.rest l.letters.items
