use Rattle.kh_lex.proofs.NumeralReads.{WritesNumber-numeral_of, WritesSigned-signed_numeral_of, numeral_of-WritesNumber, signed_numeral_of-WritesSigned}
use Rattle.kh_lex.proofs.laws.numbers_are_written_in_one_way.Goals as goal

pub returns-clause-number : goal.returns-clause-number
returns-clause-number c = λ limit word number. (WritesNumber-numeral_of limit word number, numeral_of-WritesNumber limit word number)

pub returns-clause-signed : goal.returns-clause-signed
returns-clause-signed c = λ limit word number. (WritesSigned-signed_numeral_of limit word number, signed_numeral_of-WritesSigned limit word number)
