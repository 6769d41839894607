-- What begins a text: the token or the fault that is read there is the one of the definition. The text is not empty and begins
-- with no blank. Its first byte decides, in this order: a letter begins a word, which is the longest run of letters; a digit, or
-- a minus sign and a digit, begins a number, which is a fault where it is too large; one of five bytes is a mark. Any other byte
-- begins no token of any kind, as each kind tells what its first byte is. Last, a piece that is read is a blank or a token that
-- begins the text.
use Rattle.std.proofs.lemmas.Bool.Decides.{nat_tests}
use Rattle.std.proofs.Common.{◌≡◌, ℕ, ◌+◌, ◌<◌, ◌≤◌, nat_lt, ◌==◌, nat_abs, ℤ, pos, Bool, true, false, cond, List, [], ◌∷◌, ◌++◌, length, IfSome, Option, None, Some, Result, Ok, Err, refl, sym, ◌∙◌, ap, subst, arith, slice_index, take-append-drop, length-append, drop}
use Rattle.std.proofs.lemmas.Bool.{eqb-true, ltb-false, ltb-true}
use Rattle.std.proofs.lemmas.List.Folds.{length-prefix_len}
use Rattle.std.specs.Char.{is_ascii_alphabetic}
use Rattle.std.specs.List.{prefix_len, take_while}
use Rattle.std.specs.Option.{option_map_or}
use Rattle.std.specs.Result.{result_map_both}
use Rattle.std.specs.Str.Parse.{digits_value}
use Rattle.kh_lex.specs.declared.limits.TheConstants.{NUMBER_LIMIT}
use Rattle.kh_lex.specs.declared.token.Kind.{Kind}
use Rattle.kh_lex.specs.declared.token.Kind.TheVariants.{Word, Number, LeftBracket, RightBracket, LeftBrace, RightBrace, Comma}
use Rattle.kh_lex.specs.declared.stop.LexStop.{LexStop}
use Rattle.kh_lex.specs.declared.stop.LexStop.TheVariants as stops
use Rattle.kh_lex.specs.declared.token.Token.{Token}
use Rattle.kh_lex.specs.Cuts.{BeginsNoToken, IsFault, IsToken, begins_with, is_blank, sign, signed}
use Rattle.kh_lex.specs.Lexer.{begins_number, digits_at, has_minus, mark_at, mark_of, number_at, piece_at, plain_token, sign_length, token_at, word_at}
use Rattle.kh_lex.proofs.FirstBytes.{begins_with-first}
use Rattle.kh_lex.proofs.Numbers.{IsSplit, length-sign, nat_abs-signed, IsNumber-signed, IsReadAs-number, IsSplit-text}
use Rattle.kh_lex.proofs.Runs.{is-first, IsLongestRun-take_while}

-- a token begins a text
pub record IsTokenAt (place : ℕ) (text : List ℕ) (token : Token) : Type 0 where
  pub bytes : List ℕ
  pub rest : List ℕ
  pub parts : text ≡ bytes ++ rest
  pub begin : token.place ≡ place
  pub size : token.length ≡ length bytes
  pub kind : IsToken token.kind token.value bytes rest
  pub limit : nat_abs token.value ≤ NUMBER_LIMIT

-- a token or a fault begins a text
abbrev pub IsPieceAt : ℕ → List ℕ → Result Token LexStop → Type 0
IsPieceAt place text (Ok token) = IsTokenAt place text token
IsPieceAt place text (Err stop) = IsFault stop place text

ok_is : {A E : Type 0} {x y : A} → ◌≡◌ {A = Result A E} (Ok x) (Ok y) → x ≡ y
ok_is e = cc

-- a word
IsTokenAt-word : (place : ℕ) (text : List ℕ) → 0 < length text → is_ascii_alphabetic (slice_index text 0) ≡ true → IsTokenAt place text (word_at place text)
IsTokenAt-word place text some letter = record {
  bytes = take_while is_ascii_alphabetic text;
  rest = drop (prefix_len is_ascii_alphabetic text) text;
  parts = sym (take-append-drop (prefix_len is_ascii_alphabetic text) text);
  begin = refl;
  size = sym (length-prefix_len is_ascii_alphabetic text);
  kind = (IsLongestRun-take_while is_ascii_alphabetic text some letter, refl);
  limit = omega arith;
}

-- a number
IsPieceAt-number : (place : ℕ) (text : List ℕ) → begins_number text ≡ true → IsPieceAt place text (number_at place text)
IsPieceAt-number place text begins = go (nat_lt NUMBER_LIMIT (digits_value 10 (digits_at text))) refl
  where
    s : IsSplit (has_minus text) text (digits_at text)
    s = IsSplit-text text begins

    go : (large : Bool) → nat_lt NUMBER_LIMIT (digits_value 10 (digits_at text)) ≡ large
        → IsPieceAt place text (cond large (Err (stops.Number place)) (Ok (record {
          kind = Number;
          place = place;
          length = sign_length text + length (digits_at text);
          value = signed (has_minus text) (digits_value 10 (digits_at text));
        })))
    go true e = (
      refl,
      record {
        value = signed (has_minus text) (digits_value 10 (digits_at text));
        bytes = sign (has_minus text) ++ digits_at text;
        rest = s.rest;
        parts = s.parts;
        number = IsNumber-signed (has_minus text) text (digits_at text) s;
        above = rw (nat_abs-signed (has_minus text) (digits_value 10 (digits_at text))) (ltb-true NUMBER_LIMIT (digits_value 10 (digits_at text)) e);
      },
    )
    go false e = grind (arith, nat_tests, s, length-append, length-sign, IsNumber-signed, nat_abs-signed, ltb-false)

-- no token of a kind stands where its first byte does not
BeginsNoToken-other : (text : List ℕ) → 0 < length text → begins_with is_blank text ≡ false → is_ascii_alphabetic (slice_index text 0) ≡ false
    → begins_number text ≡ false → mark_of (slice_index text 0) ≡ None → BeginsNoToken text
BeginsNoToken-other text some no_blank no_letter no_number no_mark = record {
  some = some;
  no_blank = no_blank;
  none = λ kind value bytes rest parts. none kind bytes rest value parts;
}
  where
    marked : (byte : ℕ) (bytes rest : List ℕ) → text ≡ bytes ++ rest → bytes ≡ byte ∷ [] → mark_of byte ≡ None
    marked byte bytes rest parts is = rw (← ap (λ t. slice_index t 0) (parts ∙ ap (λ b. b ++ rest) is)) no_mark

    none : (kind : Kind) (bytes rest : List ℕ) (value : ℤ) → text ≡ bytes ++ rest → ¬ IsToken kind value bytes rest
    none Word bytes rest value parts is = grind (arith, nat_tests, is-first, is)
    none Number bytes rest value parts is = grind (arith, nat_tests, IsReadAs-number value bytes rest is, is)
    none LeftBracket bytes rest value parts is = let e = marked 91 bytes rest parts is.0 in absurd (cc)
    none RightBracket bytes rest value parts is = let e = marked 93 bytes rest parts is.0 in absurd (cc)
    none LeftBrace bytes rest value parts is = let e = marked 123 bytes rest parts is.0 in absurd (cc)
    none RightBrace bytes rest value parts is = let e = marked 125 bytes rest parts is.0 in absurd (cc)
    none Comma bytes rest value parts is = let e = marked 44 bytes rest parts is.0 in absurd (cc)

-- a byte that is equal to a number begins a text
text-first_byte : (text : List ℕ) (byte : ℕ) → 0 < length text → slice_index text 0 ≡ byte → (rest : List ℕ) × (text ≡ byte ∷ rest)
text-first_byte [] byte some first = absurd (omega arith)
text-first_byte (b ∷ bs) byte some first = (bs, ap (λ b. b ∷ bs) first)

-- a mark
IsTokenAt-mark : (place : ℕ) (text : List ℕ) (byte : ℕ) (kind : Kind) → 0 < length text → slice_index text 0 ≡ byte
    → ((rest : List ℕ) → IsToken kind (pos 0) (byte ∷ []) rest) → IsTokenAt place text (plain_token kind place 1)
IsTokenAt-mark place text byte kind some first is =
    let begins = text-first_byte text byte some first in
    record {
      bytes = byte ∷ [];
      rest = begins.0;
      parts = begins.1;
      begin = refl;
      size = refl;
      kind = is begins.0;
      limit = omega arith;
    }

-- a mark, or a byte that begins none
IsPieceAt-mark : (place : ℕ) (text : List ℕ) → 0 < length text → begins_with is_blank text ≡ false → is_ascii_alphabetic (slice_index text 0) ≡ false
    → begins_number text ≡ false → IsPieceAt place text (mark_at place text)
IsPieceAt-mark place text some no_blank no_letter no_number = go
    (slice_index text 0 == 91) refl (slice_index text 0 == 93) refl (slice_index text 0 == 123) refl (slice_index text 0 == 125) refl (slice_index text 0 == 44) refl
  where
    is : (byte : ℕ) → (slice_index text 0 == byte) ≡ true → slice_index text 0 ≡ byte
    is byte e = eqb-true (slice_index text 0) byte e

    go : (a : Bool) → (slice_index text 0 == 91) ≡ a → (b : Bool) → (slice_index text 0 == 93) ≡ b → (c : Bool) → (slice_index text 0 == 123) ≡ c
        → (d : Bool) → (slice_index text 0 == 125) ≡ d → (e : Bool) → (slice_index text 0 == 44) ≡ e
        → IsPieceAt place text (option_map_or (λ kind. Ok (plain_token kind place 1))
        (cond a (Some LeftBracket) (cond b (Some RightBracket) (cond c (Some LeftBrace) (cond d (Some RightBrace) (cond e (Some Comma) None)))))
        (Err (stops.Bad place)))
    go a has1 b has3 c has5 d has7 e has9 = grind (arith, nat_tests, IsTokenAt-mark, is, BeginsNoToken-other)

-- the token or the fault that is read begins the text
pub IsPieceAt-token_at : (place : ℕ) (text : List ℕ) → 0 < length text → begins_with is_blank text ≡ false → IsPieceAt place text (token_at place text)
IsPieceAt-token_at place text some no_blank = go (is_ascii_alphabetic (slice_index text 0)) refl (begins_number text) refl
  where
    go : (letter : Bool) → is_ascii_alphabetic (slice_index text 0) ≡ letter → (number : Bool) → begins_number text ≡ number
        → IsPieceAt place text (cond letter (Ok (word_at place text)) (cond number (number_at place text) (mark_at place text)))
    go letter has1 number begins = grind (arith, nat_tests, IsTokenAt-word, IsPieceAt-number, IsPieceAt-mark)

-- what is read is a blank, or a token that begins the text
pub IsTokenAt-piece : (place : ℕ) (text : List ℕ) (piece : Option Token) → piece_at place text ≡ Ok piece → 0 < length text → IfSome piece (IsTokenAt place text)
IsTokenAt-piece place text piece read some = go (is_blank (slice_index text 0)) refl read
  where
    taken : (r : Result Token LexStop) → IsPieceAt place text r → result_map_both Some (λ stop. stop) r ≡ Ok piece → IfSome piece (IsTokenAt place text)
    taken (Ok token) at e = subst (λ p. IfSome p (IsTokenAt place text)) (ok_is e) at
    taken (Err stop) fault e = absurd (cc)

    go : (blank : Bool) → is_blank (slice_index text 0) ≡ blank → cond blank (Ok None) (result_map_both Some (λ stop. stop) (token_at place text)) ≡ Ok piece
        → IfSome piece (IsTokenAt place text)
    go blank has1 e = grind (arith, nat_tests, ok_is, taken, IsPieceAt-token_at, begins_with-first)
