-- The tokens of a text as the code takes them, piece by piece. What tokens are is said by the relation `Cuts`.
use Rattle.std.specs.Prelude.{ℕ, zero, suc, ◌+◌, ◌≤◌, ◌==◌, nat_lt, Bool, if◌then◌else◌, List, [], ◌∷◌, ◌++◌, length, drop, slice_index, Option, None, Some, Result, Ok, Err, pos}
use Rattle.std.specs.Char.{is_ascii_alphabetic, is_ascii_digit}
use Rattle.std.specs.Option.{option_map_or, option_to_list}
use Rattle.std.specs.Result.{result_map_both}
use Rattle.std.specs.List.{prefix_len, take_while}
use Rattle.std.specs.Str.Parse.{digits_value}
use Rattle.kh_lex.specs.declared.limits.TheConstants.{NUMBER_LIMIT}
use Rattle.kh_lex.specs.declared.token.Kind.{Kind}
use Rattle.kh_lex.specs.declared.token.Kind.TheVariants.{Word, Number, LeftBracket, RightBracket, LeftBrace, RightBrace, Comma}
use Rattle.kh_lex.specs.declared.token.Token.{Token}
use Rattle.kh_lex.specs.declared.stop.LexStop.{LexStop}
use Rattle.kh_lex.specs.declared.stop.LexStop.TheVariants as stops
use Rattle.kh_lex.specs.Cuts.{is_blank, signed}

-- the mark that a byte is, if it is one: `[`, `]`, `{`, `}` or `,`
abbrev pub mark_of : ℕ → Option Kind
mark_of byte =
    if byte == 91 then Some LeftBracket
    else if byte == 93 then Some RightBracket
    else if byte == 123 then Some LeftBrace
    else if byte == 125 then Some RightBrace
    else if byte == 44 then Some Comma
    else None

-- the token of a kind that is no number
abbrev pub plain_token : Kind → ℕ → ℕ → Token
plain_token kind place size = record { kind = kind; place = place; length = size; value = pos 0 }

-- the word that begins a text: its longest run of ASCII letters
abbrev pub word_at : ℕ → List ℕ → Token
word_at place text = plain_token Word place (prefix_len is_ascii_alphabetic text)

-- a text begins with a minus sign
abbrev pub has_minus : List ℕ → Bool
has_minus text = slice_index text 0 == 45

-- the bytes of a sign: one for a minus, none else
abbrev pub sign_length : List ℕ → ℕ
sign_length text = if has_minus text then 1 else 0

-- the digits of the number that begins a text: the longest run behind its sign
abbrev pub digits_at : List ℕ → List ℕ
digits_at text = take_while is_ascii_digit (drop (sign_length text) text)

-- a text begins with a digit, or with a minus sign and a digit
abbrev pub begins_number : List ℕ → Bool
begins_number text = is_ascii_digit (slice_index text (sign_length text))

-- the number that begins a text, which is a fault where its size is above `NUMBER_LIMIT`
abbrev pub number_at : ℕ → List ℕ → Result Token LexStop
number_at place text =
    let size = digits_value 10 (digits_at text) in
    if nat_lt NUMBER_LIMIT size then Err (stops.Number place)
    else Ok (record {
      kind = Number;
      place = place;
      length = sign_length text + length (digits_at text);
      value = signed (has_minus text) size;
    })

-- the mark that begins a text, or the fault that its first byte begins no token
abbrev pub mark_at : ℕ → List ℕ → Result Token LexStop
mark_at place text =
    option_map_or (λ kind. Ok (plain_token kind place 1)) (mark_of (slice_index text 0)) (Err (stops.Bad place))

-- the token that begins a text, or the fault there
abbrev pub token_at : ℕ → List ℕ → Result Token LexStop
token_at place text =
    if is_ascii_alphabetic (slice_index text 0) then Ok (word_at place text)
    else if begins_number text then number_at place text
    else mark_at place text

-- what begins a text that is not empty: a blank, which is no token, or a token; or the fault there
abbrev pub piece_at : ℕ → List ℕ → Result (Option Token) LexStop
piece_at place text =
    if is_blank (slice_index text 0) then Ok None
    else result_map_both Some (λ stop. stop) (token_at place text)

-- the bytes of a piece; a blank has one
abbrev pub piece_length : Option Token → ℕ
piece_length None = 1
piece_length (Some token) = token.length

-- tokens, and then those that the rest of a text gives
abbrev pub preceded_by : List Token → Result (List Token) LexStop → Result (List Token) LexStop
preceded_by first (Ok tokens) = Ok (first ++ tokens)
preceded_by first (Err stop) = Err stop

-- a piece, and then what the text behind it gives
abbrev pub followed_by : Result (Option Token) LexStop → (ℕ → Result (List Token) LexStop)
    → Result (List Token) LexStop
followed_by (Ok piece) rest = preceded_by (option_to_list piece) (rest (piece_length piece))
followed_by (Err stop) rest = Err stop

-- the tokens of a text whose first byte has a place, or its first fault, within some steps of a piece each
abbrev pub tokens_within : ℕ → ℕ → List ℕ → Result (List Token) LexStop
tokens_within zero place text = Ok []
tokens_within (suc steps) place [] = Ok []
tokens_within (suc steps) place (byte ∷ bytes) =
    followed_by (piece_at place (byte ∷ bytes)) (λ n. tokens_within steps (place + n) (drop n (byte ∷ bytes)))

-- the tokens of a text in order, or its first fault, piece by piece; no text has more pieces than bytes
abbrev pub tokens_of : List ℕ → Result (List Token) LexStop
tokens_of text = tokens_within (length text) 0 text

-- a token ends within a text of some length
abbrev pub EndsWithin : ℕ → Token → Type 0
EndsWithin size token = token.place + token.length ≤ size
