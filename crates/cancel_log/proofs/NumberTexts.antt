-- Words that are the print of a number.
use Rattle.std.proofs.Common.{◌≡◌, ℕ, zero, suc, ◌^◌, ◌<◌, ◌∙◌, Bool, true, false, not, List, ◌∷◌, ◌++◌, length, get_or, ℤ, pos, negsuc, sym, ap, subst, arith, rules}
use Rattle.std.specs.Prelude.{Option, None, Some, unsigned_abs}
use Rattle.std.specs.Char.{is_ascii_digit}
use Rattle.std.specs.Fmt.{decimal, digits, signed_decimal}
use Rattle.std.specs.List.{list_all}
use Rattle.std.specs.Str.Parse.{digits_value}
use Rattle.std.proofs.lemmas.Bool.{ne_eqb}
use Rattle.std.proofs.lemmas.Bool.Decides.{nat_tests}
use Rattle.std.proofs.lemmas.Fmt.{decimal-digits_value, decimal_digit, first_decimal}
use Rattle.std.proofs.lemmas.Str.Parse.{IsDigitsTest, IsNumeralModel, numerals_by_value}
use Rattle.kh_lex.specs.Cuts.{sign, signed}
use Rattle.kh_lex.specs.Numerals.{WritesNumber, numeral_of, signed_numeral_of}
use Rattle.kh_lex.proofs.NumeralReads.{WritesNumber-decimal, WritesNumber-numeral_of, WritesSigned-signed_decimal, WritesSigned-signed_numeral_of, digits_value-below, numeral_of-WritesNumber, signed_numeral_of-WritesSigned}
use Rattle.cancel_log.specs.LogLines.{IsShortDegree}
use Rattle.cancel_log.specs.NumberWords.{IsDegreeIn, IsPlaceIn, is_printed}
use Rattle.cancel_log.specs.declared.limits.TheConstants.{DEGREE_DIGITS, PLACE_DIGITS}

-- digits are told by a test

are_digits : List ℕ → Type 0
are_digits word = list_all is_ascii_digit word ≡ true

IsDigitsTest-digits : IsDigitsTest are_digits
unfolding are_digits
IsDigitsTest-digits = search rules

IsNumeralModel-digits : IsNumeralModel are_digits (digits_value 10)
IsNumeralModel-digits = numerals_by_value are_digits IsDigitsTest-digits

-- digits that do not begin with a 0, unless there is no other, are the print of what they write
decimal-written : (limit : ℕ) (word : List ℕ) (number : ℕ) → WritesNumber limit word number → 10 ^ limit < 2 ^ 64
    → (get_or word 0 0 ≡ 48 → length word ≡ 1) → decimal number ≡ word
unfolding are_digits
decimal-written limit word number written small first =
    ap decimal written.valued
    ∙ decimal-digits_value IsNumeralModel-digits word written.digits written.some first
    (omega (arith, small, digits_value-below limit word written.digits written.few))

-- the test, by the first two bytes and the length

printed-zero : (word : List ℕ) → is_printed word ≡ true → get_or word 0 0 ≡ 48 → length word ≡ 1
printed-zero word passes first = grind (arith, nat_tests)

printed-minus : (word : List ℕ) → is_printed word ≡ true → get_or word 0 0 ≡ 45 → get_or word 1 0 ≡ 48 → ⊥
printed-minus word passes first second = grind (arith, nat_tests)

-- what is printed passes

printed-decimal : (n : ℕ) → n < 2 ^ 64 → is_printed (decimal n) ≡ true
printed-decimal zero small = ap is_printed (decimal_digit 0 (omega arith))
printed-decimal (suc n) small = grind (arith, nat_tests, first_decimal (suc n) (omega arith) small)

printed-signed : (z : ℤ) → unsigned_abs z < 2 ^ 64 → is_printed (signed_decimal z) ≡ true
printed-signed (pos n) small = printed-decimal n (omega (arith, small))
printed-signed (negsuc n) small =
    let above = first_decimal (suc n) (omega arith) (omega (arith, small)) in
    ap not (ne_eqb (get_or (decimal (suc n)) 0 0) 48 (λ same. omega (arith, above, same)))

-- columns and rows

pub place-read : (word : List ℕ) (result : Option ℕ) → is_printed word ≡ true → result ≡ numeral_of PLACE_DIGITS word → IsPlaceIn word result
place-read word (Some place) passes same =
    let written = WritesNumber-numeral_of PLACE_DIGITS word place (sym same) in (
      sym (decimal-written PLACE_DIGITS word place written (omega arith) (printed-zero word passes)),
      omega (arith, written.valued, digits_value-below PLACE_DIGITS word written.digits written.few),
    )
place-read word None passes same = λ place small is.
    let reads = numeral_of-WritesNumber PLACE_DIGITS (decimal place) place
    (WritesNumber-decimal PLACE_DIGITS place (omega arith) small (omega (arith, small))) in
    absurd (cc (same ∙ ap (numeral_of PLACE_DIGITS) is ∙ reads))

pub place-none : (word : List ℕ) → is_printed word ≡ false → IsPlaceIn word None
place-none word fails = λ place small is.
    absurd (cc (sym fails ∙ ap is_printed is ∙ printed-decimal place (omega (arith, small))))

pub ruleset places = (place-read, place-none)

-- degrees

-- no 0 comes behind a minus sign
minus-zero : (word rest : List ℕ) → is_printed word ≡ true → word ≡ 45 ∷ rest → get_or rest 0 0 ≡ 48 → ⊥
minus-zero word rest passes parts is =
    printed-minus word passes (ap (λ (w : List ℕ). get_or w 0 0) parts) (ap (λ (w : List ℕ). get_or w 1 0) parts ∙ is)

degree-sign : (minus : Bool) (word digits : List ℕ) (degree : ℤ) (size : ℕ) → is_printed word ≡ true → word ≡ sign minus ++ digits
    → WritesNumber DEGREE_DIGITS digits size → degree ≡ signed minus size → IsDegreeIn word (Some degree)
degree-sign false word digits degree size passes parts written valued =
    let below = digits_value-below DEGREE_DIGITS digits written.digits written.few in
    let same = decimal-written DEGREE_DIGITS word size (subst (λ (w : List ℕ). WritesNumber DEGREE_DIGITS w size) (sym parts) written)
    (omega arith) (printed-zero word passes) in (
      sym same ∙ ap signed_decimal (sym valued),
      subst IsShortDegree (sym valued) (omega (arith, written.valued, below)),
    )
degree-sign true word digits degree zero passes parts written valued =
    let same = decimal-written DEGREE_DIGITS digits 0 written (omega arith) (λ zero. absurd (minus-zero word digits passes parts zero)) in
    absurd (minus-zero word digits passes parts (ap (λ (w : List ℕ). get_or w 0 0) (sym same ∙ decimal_digit 0 (omega arith))))
degree-sign true word digits degree (suc size) passes parts written valued =
    let below = digits_value-below DEGREE_DIGITS digits written.digits written.few in
    let same = decimal-written DEGREE_DIGITS digits (suc size) written (omega arith)
    (λ zero. absurd (minus-zero word digits passes parts zero)) in (
      parts ∙ ap (λ (w : List ℕ). 45 ∷ w) (sym same) ∙ ap signed_decimal (sym valued),
      subst IsShortDegree (sym valued) (omega (arith, written.valued, below)),
    )

pub degree-some : (word : List ℕ) (degree made : ℤ) → is_printed word ≡ true → signed_numeral_of DEGREE_DIGITS word ≡ Some degree
    → made ≡ degree → IsDegreeIn word (Some made)
degree-some word degree made passes reads same =
    let written = WritesSigned-signed_numeral_of DEGREE_DIGITS word degree reads in
    degree-sign written.minus word written.digits made written.size passes written.parts written.written (same ∙ written.valued)

pub degree-none : (word : List ℕ) → signed_numeral_of DEGREE_DIGITS word ≡ None → IsDegreeIn word None
degree-none word none = λ degree short is.
    let reads = signed_numeral_of-WritesSigned DEGREE_DIGITS (signed_decimal degree) degree
    (WritesSigned-signed_decimal DEGREE_DIGITS degree (omega arith) short (omega (arith, short))) in
    absurd (cc (sym none ∙ ap (signed_numeral_of DEGREE_DIGITS) is ∙ reads))

pub degree-unprinted : (word : List ℕ) → is_printed word ≡ false → IsDegreeIn word None
degree-unprinted word fails = λ degree short is.
    absurd (cc (sym fails ∙ ap is_printed is ∙ printed-signed degree (omega (arith, short))))

pub ruleset degrees = (degree-some, degree-none, degree-unprinted)
