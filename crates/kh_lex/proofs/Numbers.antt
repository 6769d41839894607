-- A number that begins a text, as it is and as it is read.
use Rattle.std.proofs.lemmas.Bool.Decides.{nat_tests}
use Rattle.std.proofs.Common.{◌≡◌, ℕ, ◌==◌, nat_abs, ℤ, Bool, true, false, cond, List, [], ◌∷◌, ◌++◌, length, drop, refl, sym, ◌∙◌, ap, arith, slice_index, take-append-drop}
use Rattle.std.proofs.lemmas.Bool.{eqb-true}
use Rattle.std.specs.Char.{is_ascii_alphabetic, is_ascii_digit}
use Rattle.std.specs.List.{prefix_len, take_while}
use Rattle.std.specs.Str.Parse.{digits_value}
use Rattle.kh_lex.specs.Cuts.{IsNumber, IsLongestRun, begins_with, is_blank, sign, signed}
use Rattle.kh_lex.specs.Lexer.{begins_number, digits_at, has_minus}
use Rattle.kh_lex.proofs.FirstBytes.{begins_with-first, digit-other}
use Rattle.kh_lex.proofs.Runs.{is-first, IsLongestRun-take_while, take_while-run}

-- the size of a value is its size without the sign
pub nat_abs-signed : (minus : Bool) (size : ℕ) → nat_abs (signed minus size) ≡ size
nat_abs-signed minus size = grind (arith, nat_tests)

pub length-sign : (minus : Bool) → length (sign minus) ≡ cond minus 1 0
length-sign minus = grind (arith, nat_tests)

-- a text is a sign, the digits behind it and a rest
pub record IsSplit (minus : Bool) (text digits : List ℕ) : Type 0 where
  pub rest : List ℕ
  pub parts : text ≡ (sign minus ++ digits) ++ rest
  pub run : IsLongestRun is_ascii_digit digits rest

IsSplit-at : (minus : Bool) (text : List ℕ) → has_minus text ≡ minus → is_ascii_digit (slice_index text (cond minus 1 0)) ≡ true
    → IsSplit minus text (take_while is_ascii_digit (drop (cond minus 1 0) text))
IsSplit-at false [] same digit = absurd (cc)
IsSplit-at false (byte ∷ bytes) same digit = record {
  rest = drop (prefix_len is_ascii_digit (byte ∷ bytes)) (byte ∷ bytes);
  parts = sym (take-append-drop (prefix_len is_ascii_digit (byte ∷ bytes)) (byte ∷ bytes));
  run = IsLongestRun-take_while is_ascii_digit (byte ∷ bytes) (omega arith) digit;
}
IsSplit-at true [] same digit = absurd (cc)
IsSplit-at true (byte ∷ []) same digit = absurd (cc)
IsSplit-at true (byte ∷ first ∷ bytes) same digit = record {
  rest = drop (prefix_len is_ascii_digit (first ∷ bytes)) (first ∷ bytes);
  parts = ap (λ b. b ∷ first ∷ bytes) (eqb-true byte 45 same)
      ∙ ap (λ t. 45 ∷ t) (sym (take-append-drop (prefix_len is_ascii_digit (first ∷ bytes)) (first ∷ bytes)));
  run = IsLongestRun-take_while is_ascii_digit (first ∷ bytes) (omega arith) digit;
}

-- a text that begins with a number is split so
pub IsSplit-text : (text : List ℕ) → begins_number text ≡ true → IsSplit (has_minus text) text (digits_at text)
IsSplit-text text begins = IsSplit-at (has_minus text) text refl begins

pub IsNumber-signed : (minus : Bool) (text digits : List ℕ) (s : IsSplit minus text digits)
    → IsNumber (signed minus (digits_value 10 digits)) (sign minus ++ digits) s.rest
IsNumber-signed minus text digits s = record { minus = minus; digits = digits; parts = refl; run = s.run; valued = refl }

-- how a text that begins with a number is read
pub record IsReadAs (text : List ℕ) (minus : Bool) (digits : List ℕ) : Type 0 where
  pub begins : begins_number text ≡ true
  pub sign : has_minus text ≡ minus
  pub size : digits_at text ≡ digits
  pub letter : is_ascii_alphabetic (slice_index text 0) ≡ false
  pub no_blank : begins_with is_blank text ≡ false

IsReadAs-run : (minus : Bool) (digits rest : List ℕ) → IsLongestRun is_ascii_digit digits rest → IsReadAs ((sign minus ++ digits) ++ rest) minus digits
IsReadAs-run true digits rest run = grind (arith, nat_tests, is-first, take_while-run)
IsReadAs-run false digits rest run = record {
  begins = rw no_minus first;
  sign = no_minus;
  size = rw no_minus (take_while-run is_ascii_digit digits rest run);
  letter = digit-other is_ascii_alphabetic (slice_index (digits ++ rest) 0) refl first;
  no_blank = begins_with-first is_blank (digits ++ rest) refl ∙ digit-other is_blank (slice_index (digits ++ rest) 0) refl first;
}
  where
    first : is_ascii_digit (slice_index (digits ++ rest) 0) ≡ true
    first = is-first is_ascii_digit digits rest run

    no_minus : has_minus (digits ++ rest) ≡ false
    no_minus = digit-other (λ b. b == 45) (slice_index (digits ++ rest) 0) refl first

-- a number is read with its sign and its digits
pub IsReadAs-number : (value : ℤ) (bytes rest : List ℕ) (n : IsNumber value bytes rest) → IsReadAs (bytes ++ rest) n.minus n.digits
IsReadAs-number value bytes rest n = grind (arith, nat_tests, IsReadAs-run n.minus n.digits rest n.run)
