-- What begins a text by the definition is read there.
use Rattle.std.proofs.lemmas.Bool.Decides.{nat_tests}
use Rattle.std.proofs.Common.{◌≡◌, ℕ, ◌+◌, ◌<◌, ◌≤◌, nat_lt, nat_abs, ℤ, pos, true, false, cond, List, ◌++◌, length, Result, Ok, Err, refl, sym, ◌∙◌, ap, subst, arith, length-append}
use Rattle.std.proofs.lemmas.Bool.{le-ltb, lt-ltb}
use Rattle.std.specs.Char.{is_ascii_alphabetic}
use Rattle.std.specs.Str.Parse.{digits_value}
use Rattle.kh_lex.specs.declared.limits.TheConstants.{NUMBER_LIMIT}
use Rattle.kh_lex.specs.declared.token.Kind.{Kind}
use Rattle.kh_lex.specs.declared.token.Kind.TheVariants.{Word, Number, LeftBracket, RightBracket, LeftBrace, RightBrace, Comma}
use Rattle.kh_lex.specs.declared.stop.LexStop.{LexStop}
use Rattle.kh_lex.specs.declared.stop.LexStop.TheVariants as stops
use Rattle.kh_lex.specs.declared.token.Token.{Token}
use Rattle.kh_lex.specs.Cuts.{IsFault, IsNumber, IsLongestRun, IsToken, begins_with, is_blank, sign}
use Rattle.kh_lex.specs.Lexer.{token_at}
use Rattle.kh_lex.proofs.FirstBytes.{begins_with-first, letter-other}
use Rattle.kh_lex.proofs.Numbers.{length-sign, nat_abs-signed, IsReadAs-number}
use Rattle.kh_lex.proofs.Pieces.{IsPieceAt, IsTokenAt, IsPieceAt-token_at}
use Rattle.kh_lex.proofs.Runs.{is-first, prefix_len-run}

-- a token of some kind, length and value
token : Kind → ℕ → ℕ → ℤ → Token
token kind place size value = record { kind = kind; place = place; length = size; value = value }

-- the size of a number's value is that of its digits
size_of : (value : ℤ) (bytes rest : List ℕ) (n : IsNumber value bytes rest) → nat_abs value ≡ digits_value 10 n.digits
size_of value bytes rest n = ap nat_abs n.valued ∙ nat_abs-signed n.minus (digits_value 10 n.digits)

-- a word is read
token_at-word : (place size : ℕ) (value : ℤ) (bytes rest : List ℕ) → size ≡ length bytes → IsLongestRun is_ascii_alphabetic bytes rest × (value ≡ pos 0)
    → token_at place (bytes ++ rest) ≡ Ok (token Word place size value)
unfolding token
token_at-word place size value bytes rest sized is =
    rw (is-first is_ascii_alphabetic bytes rest is.0, prefix_len-run is_ascii_alphabetic bytes rest is.0, sized, is.1) refl

-- a number is read, as a token or as one that is too large
token_at-small_number : (place size : ℕ) (value : ℤ) (bytes rest : List ℕ) → size ≡ length bytes → IsNumber value bytes rest → nat_abs value ≤ NUMBER_LIMIT
    → token_at place (bytes ++ rest) ≡ Ok (token Number place size value)
unfolding token
token_at-small_number place size value bytes rest sized n limit =
    let read = IsReadAs-number value bytes rest n in
    let small : nat_lt NUMBER_LIMIT (digits_value 10 n.digits) ≡ false = le-ltb NUMBER_LIMIT (digits_value 10 n.digits) (subst (λ s. s ≤ NUMBER_LIMIT) (size_of value bytes rest n) limit) in
    let long : size ≡ cond n.minus 1 0 + length n.digits
    = sized ∙ ap length n.parts ∙ length-append (sign n.minus) n.digits ∙ ap (λ s. s + length n.digits) (length-sign n.minus) in
    rw (read.letter, read.begins, read.size, small, read.sign, long, n.valued) refl

token_at-large_number : (place : ℕ) (value : ℤ) (bytes rest : List ℕ) → IsNumber value bytes rest → NUMBER_LIMIT < nat_abs value
    → token_at place (bytes ++ rest) ≡ Err (stops.Number place)
token_at-large_number place value bytes rest n above =
    let read = IsReadAs-number value bytes rest n in
    let large : nat_lt NUMBER_LIMIT (digits_value 10 n.digits) ≡ true = lt-ltb NUMBER_LIMIT (digits_value 10 n.digits) (subst (λ s. NUMBER_LIMIT < s) (size_of value bytes rest n) above) in
    rw (read.letter, read.begins, read.size, large) refl

-- a token of any kind is read
token_at-kind : (kind : Kind) (place size : ℕ) (value : ℤ) (bytes rest : List ℕ) → size ≡ length bytes → IsToken kind value bytes rest → nat_abs value ≤ NUMBER_LIMIT
    → token_at place (bytes ++ rest) ≡ Ok (token kind place size value)
unfolding token
token_at-kind Word place size value bytes rest sized is limit = token_at-word place size value bytes rest sized is
token_at-kind Number place size value bytes rest sized is limit = token_at-small_number place size value bytes rest sized is limit
token_at-kind LeftBracket place size value bytes rest sized is limit = rw (sized, is.0, is.1) refl
token_at-kind RightBracket place size value bytes rest sized is limit = rw (sized, is.0, is.1) refl
token_at-kind LeftBrace place size value bytes rest sized is limit = rw (sized, is.0, is.1) refl
token_at-kind RightBrace place size value bytes rest sized is limit = rw (sized, is.0, is.1) refl
token_at-kind Comma place size value bytes rest sized is limit = rw (sized, is.0, is.1) refl

pub token_at-token : (place : ℕ) (text : List ℕ) (t : Token) → IsTokenAt place text t → token_at place text ≡ Ok t
unfolding token
token_at-token place text t s =
    ap (token_at place) s.parts ∙ token_at-kind t.kind place t.length t.value s.bytes s.rest s.size s.kind s.limit
    ∙ ap (λ p. Ok (token t.kind p t.length t.value)) (sym s.begin)

-- a token begins with no blank, and is not empty
begins_with-kind : (kind : Kind) (value : ℤ) (bytes rest : List ℕ) → IsToken kind value bytes rest
    → (begins_with is_blank (bytes ++ rest) ≡ false) × (0 < length bytes)
begins_with-kind kind value bytes rest is =
    grind (arith, nat_tests, begins_with-first, letter-other, is-first, IsReadAs-number, length-append)

-- a text begins with no blank, and has so many bytes and one at least
pub record HasNoBlank (text : List ℕ) (size : ℕ) : Type 0 where
  pub no_blank : begins_with is_blank text ≡ false
  pub some : 0 < size
  pub within : size ≤ length text

pub HasNoBlank-token : (place : ℕ) (text : List ℕ) (t : Token) → IsTokenAt place text t → HasNoBlank text t.length
HasNoBlank-token place text t s = grind (arith, nat_tests, begins_with-kind, length-append)

pub HasNoBlank-fault : (place : ℕ) (text : List ℕ) (stop : LexStop) → IsFault stop place text → HasNoBlank text 1
HasNoBlank-fault place text (stops.Bad at) is = record { no_blank = is.1.no_blank; some = omega arith; within = omega (arith, is.1.some) }
HasNoBlank-fault place text (stops.Number at) is =
    grind (arith, nat_tests, begins_with-kind Number is.1.value is.1.bytes is.1.rest is.1.number, length-append is.1.bytes is.1.rest)
HasNoBlank-fault place text stops.NoMemory is = absurd is

-- a fault is read
pub token_at-fault : (place : ℕ) (text : List ℕ) (stop : LexStop) → IsFault stop place text → token_at place text ≡ Err stop
token_at-fault place text (stops.Number at) is =
    ap (token_at place) is.1.parts ∙ token_at-large_number place is.1.value is.1.bytes is.1.rest is.1.number is.1.above ∙ ap (λ p. Err (stops.Number p)) (sym is.0)
token_at-fault place text (stops.Bad at) is = go (token_at place text) (IsPieceAt-token_at place text is.1.some is.1.no_blank)
  where
    go : (r : Result Token LexStop) → IsPieceAt place text r → r ≡ Err (stops.Bad at)
    go (Ok t) s = absurd (is.1.none t.kind t.value s.bytes s.rest s.parts s.kind)
    go (Err (stops.Bad other)) s = ap (λ p. Err (stops.Bad p)) (s.0 ∙ sym is.0)
    go (Err (stops.Number other)) s = absurd (is.1.none Number s.1.value s.1.bytes s.1.rest s.1.parts s.1.number)
    go (Err stops.NoMemory) s = absurd s
token_at-fault place text stops.NoMemory is = absurd is
