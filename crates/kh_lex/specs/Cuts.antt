-- What it is that tokens cut a text, and that a stop is the first fault of a text. A text may be the rest of another one; `place` is where
-- its first byte stands there, counted from 0.
use Rattle.std.specs.Prelude.{◌≡◌, ℕ, ◌+◌, ◌<◌, ◌≤◌, ◌==◌, ◌||◌, Bool, false, if◌then◌else◌, IsTrue, IsFalse, List, [], ◌∷◌, ◌++◌, length, codes, ℤ, pos, neg_ℤ, nat_abs}
use Rattle.std.specs.Char.{is_ascii_alphabetic, is_ascii_digit}
use Rattle.std.specs.List.{list_all}
use Rattle.std.specs.Str.Parse.{digits_value}
use Rattle.kh_lex.specs.declared.limits.TheConstants.{NUMBER_LIMIT}
use Rattle.kh_lex.specs.declared.token.Kind.{Kind}
use Rattle.kh_lex.specs.declared.token.Kind.TheVariants.{Word, Number, LeftBracket, RightBracket, LeftBrace, RightBrace, Comma}
use Rattle.kh_lex.specs.declared.token.Token.{Token}
use Rattle.kh_lex.specs.declared.stop.LexStop.{LexStop}
use Rattle.kh_lex.specs.declared.stop.LexStop.TheVariants as stops

-- a byte is blank: a space, a tab, a carriage return or a line feed, and nothing else
abbrev pub is_blank : ℕ → Bool
is_blank byte = (byte == 32) || (byte == 9) || (byte == 13) || (byte == 10)

-- a text has a first byte, and that is of a sort
abbrev pub begins_with : (ℕ → Bool) → List ℕ → Bool
begins_with is [] = false
begins_with is (byte ∷ bytes) = is byte

-- bytes are a longest run of a sort: there is one at least, all are of the sort, and the rest behind them does not begin
-- with another
pub record IsLongestRun (is : ℕ → Bool) (bytes rest : List ℕ) : Type 0 where
  pub some : 0 < length bytes
  pub all : IsTrue (list_all is bytes)
  pub longest : IsFalse (begins_with is rest)

-- the bytes of a sign: a minus sign, or none
abbrev pub sign : Bool → List ℕ
sign minus = if minus then codes "-" else []

-- a size with its sign
abbrev pub signed : Bool → ℕ → ℤ
signed minus size = if minus then neg_ℤ (pos size) else pos size

-- bytes are a number: an optional minus sign and then a longest run of digits, and the value is that of the digits with
-- the sign
pub record IsNumber (value : ℤ) (bytes rest : List ℕ) : Type 0 where
  pub minus : Bool
  pub digits : List ℕ
  pub parts : bytes ≡ sign minus ++ digits
  pub run : IsLongestRun is_ascii_digit digits rest
  pub valued : value ≡ signed minus (digits_value 10 digits)

-- bytes, with a rest behind them, are a token of a kind and of a value: a word is a longest run of letters, a number is as
-- above, and each mark is its one byte; words and marks have the value 0
abbrev pub IsToken : Kind → ℤ → List ℕ → List ℕ → Type 0
IsToken Word value bytes rest = IsLongestRun is_ascii_alphabetic bytes rest × (value ≡ pos 0)
IsToken Number value bytes rest = IsNumber value bytes rest
IsToken LeftBracket value bytes rest = (bytes ≡ codes "[") × (value ≡ pos 0)
IsToken RightBracket value bytes rest = (bytes ≡ codes "]") × (value ≡ pos 0)
IsToken LeftBrace value bytes rest = (bytes ≡ codes "{") × (value ≡ pos 0)
IsToken RightBrace value bytes rest = (bytes ≡ codes "}") × (value ≡ pos 0)
IsToken Comma value bytes rest = (bytes ≡ codes ",") × (value ≡ pos 0)

-- a text is blanks, of which there may be none, and then a rest
pub record SkipsBlanks (text rest : List ℕ) : Type 0 where
  pub blanks : List ℕ
  pub parts : text ≡ blanks ++ rest
  pub blank : IsTrue (list_all is_blank blanks)

-- a token is the first of a text and leaves a rest: behind blanks stand its bytes, and then the rest; its place and its
-- length are those of the bytes; they are a token of its kind and value, and the value is within the limit
pub record IsFirstToken (place : ℕ) (text : List ℕ) (token : Token) (rest : List ℕ) : Type 0 where
  pub bytes : List ℕ
  pub skip : SkipsBlanks text (bytes ++ rest)
  pub begin : token.place ≡ place + length skip.blanks
  pub size : token.length ≡ length bytes
  pub kind : IsToken token.kind token.value bytes rest
  pub limit : nat_abs token.value ≤ NUMBER_LIMIT

-- tokens cut a text down to an end: blanks lead to the end, if there is no token; else the first token leaves a rest, and
-- the later tokens cut that
abbrev pub CutsTo : List ℕ → ℕ → List ℕ → List Token → Type 0
CutsTo end place text [] = SkipsBlanks text end
CutsTo end place text (token ∷ tokens) =
    (rest : List ℕ) × IsFirstToken place text token rest × CutsTo end (token.place + token.length) rest tokens

-- tokens cut a text: nothing is left of it but blanks
abbrev pub Cuts : ℕ → List ℕ → List Token → Type 0
Cuts place text tokens = CutsTo [] place text tokens

-- a text has a first byte that begins no token, and that is no blank
pub record BeginsNoToken (text : List ℕ) : Type 0 where
  pub some : 0 < length text
  pub no_blank : IsFalse (begins_with is_blank text)
  pub none : (kind : Kind) (value : ℤ) (bytes rest : List ℕ) → text ≡ bytes ++ rest → ¬ IsToken kind value bytes rest

-- a text begins with a number that is above the limit in size
pub record BeginsLargeNumber (text : List ℕ) : Type 0 where
  pub value : ℤ
  pub bytes : List ℕ
  pub rest : List ℕ
  pub parts : text ≡ bytes ++ rest
  pub number : IsNumber value bytes rest
  pub above : NUMBER_LIMIT < nat_abs value

-- a stop is the fault at the first byte of a text, and carries its place
abbrev pub IsFault : LexStop → ℕ → List ℕ → Type 0
IsFault (stops.Bad at) place text = (at ≡ place) × BeginsNoToken text
IsFault (stops.Number at) place text = (at ≡ place) × BeginsLargeNumber text
IsFault stops.NoMemory place text = ⊥

-- a stop is the first fault of a text: tokens cut the text down to an end, and the fault stands at the first byte of that
pub record Stops (place : ℕ) (text : List ℕ) (stop : LexStop) : Type 0 where
  pub tokens : List Token
  pub end : List ℕ
  pub cut : CutsTo end place text tokens
  pub at : ℕ
  pub begin : at + length end ≡ place + length text
  pub fault : IsFault stop at end
