-- Words write numbers exactly where these are read from them; and numbers of few digits are small.
use Rattle.std.proofs.lemmas.Bool.Decides.{nat_tests}
use Rattle.std.proofs.Common.{◌≡◌, ℕ, ◌<◌, ◌≤◌, ◌^◌, ◌&&◌, true, false, List, length, Option, Some, refl, sym, arith, nat_le, nat_lt, ℤ, pos, negsuc, suc}
use Rattle.std.proofs.Math.Nat.{pow-le-pow_right}
use Rattle.std.proofs.lemmas.Bool.{and_parts, leb-true}
use Rattle.std.proofs.lemmas.Str.Parse.{IsDigitsTest, digits_value_short, numerals_by_value}
use Rattle.std.proofs.Common.{rules}
use Rattle.std.proofs.lemmas.Fmt.{decimal_is_IsNumeral, decimal_nonempty, length-decimal-le}
use Rattle.std.specs.Prelude.{unsigned_abs}
use Rattle.std.specs.Fmt.{decimal, signed_decimal}
use Rattle.std.specs.Char.{is_ascii_digit}
use Rattle.std.specs.List.{list_all}
use Rattle.std.specs.Option.{option_map}
use Rattle.std.specs.Str.Parse.{digits_value}
use Rattle.kh_lex.specs.declared.limits.TheConstants.{NUMBER_DIGITS}
use Rattle.kh_lex.specs.Cuts.{sign}
use Rattle.kh_lex.specs.Numerals.{WritesNumber, WritesSigned, is_numeral, numeral_of, signed_numeral_of}

-- digits are told by a test
is_digits : List ℕ → Type 0
is_digits word = list_all is_ascii_digit word ≡ true

IsDigitsTest-digits : IsDigitsTest is_digits
unfolding is_digits
IsDigitsTest-digits = search rules

-- no more than so many digits write less than that power of ten
pub digits_value-below : (limit : ℕ) (word : List ℕ) → list_all is_ascii_digit word ≡ true → length word ≤ limit
    → digits_value 10 word < 10 ^ limit
unfolding is_digits
digits_value-below limit word digits few =
    digits_value_short (numerals_by_value is_digits IsDigitsTest-digits) word limit digits few

pub numeral_of-below : (limit : ℕ) (word : List ℕ) → is_numeral limit word ≡ true → limit ≤ NUMBER_DIGITS
    → (digits_value 10 word < 10 ^ limit) × (digits_value 10 word < 10 ^ NUMBER_DIGITS)
numeral_of-below limit word is within =
    let all = and_parts (nat_lt 0 (length word) && nat_le (length word) limit) (list_all is_ascii_digit word) is in
    let sizes = and_parts (nat_lt 0 (length word)) (nat_le (length word) limit) all.0 in
    let few = leb-true (length word) limit sizes.1 in
    let below = digits_value-below limit word all.1 few in
    let power : 10 ^ limit ≤ 10 ^ NUMBER_DIGITS = pow-le-pow_right (omega arith) within in
    (below, omega (arith, below, power))

pub ruleset sizes = (numeral_of-below)

-- what is made of a value that there is
pub option_map_some : {A B P : Type 0} (f : A → B) (o : Option A) (y : B) → option_map f o ≡ Some y → ((x : A) → o ≡ Some x → f x ≡ y → P) → P
option_map_some f o y same made = grind (arith, nat_tests)

-- a word writes a number exactly where it is read from it
pub WritesNumber-numeral_of : (limit : ℕ) (word : List ℕ) (number : ℕ) → numeral_of limit word ≡ Some number → WritesNumber limit word number
WritesNumber-numeral_of limit word number same = grind (arith, nat_tests)

pub numeral_of-WritesNumber : (limit : ℕ) (word : List ℕ) (number : ℕ) → WritesNumber limit word number → numeral_of limit word ≡ Some number
numeral_of-WritesNumber limit word number written = grind (arith, nat_tests)

-- a word writes a number with a sign exactly where it is read from it
pub WritesSigned-signed_numeral_of : (limit : ℕ) (word : List ℕ) (number : ℤ) → signed_numeral_of limit word ≡ Some number
    → WritesSigned limit word number
WritesSigned-signed_numeral_of limit word number same = grind (arith, nat_tests)

pub signed_numeral_of-WritesSigned : (limit : ℕ) (word : List ℕ) (number : ℤ) → WritesSigned limit word number
    → signed_numeral_of limit word ≡ Some number
signed_numeral_of-WritesSigned limit word number written = grind (arith, nat_tests)

-- what is printed of a number writes it

pub WritesNumber-decimal : (limit n : ℕ) → 0 < limit → n < 10 ^ limit → n < 2 ^ 64 → WritesNumber limit (decimal n) n
unfolding is_digits
WritesNumber-decimal limit n some below small =
    let numeral = decimal_is_IsNumeral n small in
    record {
      some = decimal_nonempty n small;
      few = length-decimal-le limit n some below small;
      digits = (numerals_by_value is_digits IsDigitsTest-digits).from (decimal n) numeral.0.1;
      valued = sym numeral.1;
    }

pub WritesSigned-signed_decimal : (limit : ℕ) (z : ℤ) → 0 < limit → unsigned_abs z < 10 ^ limit → unsigned_abs z < 2 ^ 64
    → WritesSigned limit (signed_decimal z) z
WritesSigned-signed_decimal limit (pos n) some below small = record {
  minus = false;
  digits = decimal n;
  parts = refl;
  size = n;
  written = WritesNumber-decimal limit n some below small;
  valued = refl;
}
WritesSigned-signed_decimal limit (negsuc n) some below small = record {
  minus = true;
  digits = decimal (suc n);
  parts = refl;
  size = suc n;
  written = WritesNumber-decimal limit (suc n) some below small;
  valued = refl;
}
