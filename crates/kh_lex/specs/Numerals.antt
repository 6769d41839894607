-- The numbers that words write.
use Rattle.std.specs.Prelude.{◌≡◌, ℕ, ◌<◌, ◌≤◌, nat_lt, nat_le, ◌&&◌, Bool, IsTrue, if◌then◌else◌, List, ◌++◌, length, drop, Option, None, Some, ℤ}
use Rattle.std.specs.Char.{is_ascii_digit}
use Rattle.std.specs.List.{list_all}
use Rattle.std.specs.Option.{option_map}
use Rattle.std.specs.Str.Parse.{digits_value}
use Rattle.kh_lex.specs.Cuts.{sign, signed}
use Rattle.kh_lex.specs.Lexer.{has_minus, sign_length}

-- a word writes a number: it is one ASCII digit or more, and no more than a limit, leading zeros counted; the number is theirs
pub record WritesNumber (limit : ℕ) (word : List ℕ) (number : ℕ) : Type 0 where
  pub some : 0 < length word
  pub few : length word ≤ limit
  pub digits : IsTrue (list_all is_ascii_digit word)
  pub valued : number ≡ digits_value 10 word

-- a word writes a number with a sign: an optional minus sign, and then a number, which is its size
pub record WritesSigned (limit : ℕ) (word : List ℕ) (number : ℤ) : Type 0 where
  pub minus : Bool
  pub digits : List ℕ
  pub parts : word ≡ sign minus ++ digits
  pub size : ℕ
  pub written : WritesNumber limit digits size
  pub valued : number ≡ signed minus size

-- a word is digits, of which there is one at least, and no more than a limit
abbrev pub is_numeral : ℕ → List ℕ → Bool
is_numeral limit word = nat_lt 0 (length word) && nat_le (length word) limit && list_all is_ascii_digit word

-- the number that a word writes, as the way of the code
abbrev pub numeral_of : ℕ → List ℕ → Option ℕ
numeral_of limit word = if is_numeral limit word then Some (digits_value 10 word) else None

-- the number with a sign that a word writes, as the way of the code
abbrev pub signed_numeral_of : ℕ → List ℕ → Option ℤ
signed_numeral_of limit word = option_map (signed (has_minus word)) (numeral_of limit (drop (sign_length word) word))
