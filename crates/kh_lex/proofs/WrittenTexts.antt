-- How a text is written so that it means some symbols: symbol by symbol, from its end on. The empty text writes no symbols.
-- Before a text that writes some, there may be put: a mark; a word, where the text begins with no letter; a number in decimal
-- digits, with its sign, where it begins with no digit; and a space, which adds no symbol. So each word and each number is a
-- longest run. At last, a text means what it writes: by induction on the symbols its tokens are found, each at its place in the
-- whole text, and they cut the text.
use Rattle.std.proofs.lemmas.Bool.Decides.{nat_tests}
use Rattle.std.proofs.Common.{◌≡◌, suc, ◌+◌, ◌<◌, ◌≤◌, ℕ, ℤ, pos, negsuc, neg_ℤ, nat_abs, true, false, List, [], ◌∷◌, ◌++◌, length, take, drop, refl, sym, ◌∙◌, ap, arith, codes}
use Rattle.std.proofs.Math.Seq.{drop-append_seam, take-append_seam}
use Rattle.std.proofs.lemmas.List.{drop-drop}
use Rattle.std.proofs.lemmas.Bool.{and_from}
use Rattle.std.proofs.lemmas.Fmt.{decimal_is_IsNumeral}
use Rattle.std.proofs.lemmas.Str.Parse.{digit_from_value}
use Rattle.std.specs.Char.{is_ascii_alphabetic, is_ascii_digit}
use Rattle.std.specs.Fmt.{decimal, signed_decimal}
use Rattle.std.specs.List.{list_all}
use Rattle.std.specs.Str.Parse.{AllDigits, digits_value}
use Rattle.kh_lex.specs.declared.limits.TheConstants.{NUMBER_LIMIT}
use Rattle.kh_lex.specs.declared.symbol.Symbol.{Symbol}
use Rattle.kh_lex.specs.declared.symbol.Symbol.TheVariants as symbols
use Rattle.kh_lex.specs.declared.token.Kind.{Kind}
use Rattle.kh_lex.specs.declared.token.Kind.TheVariants.{Word, Number, LeftBracket, RightBracket, LeftBrace, RightBrace, Comma}
use Rattle.kh_lex.specs.declared.token.Token.{Token}
use Rattle.kh_lex.specs.Cuts.{Cuts, IsLongestRun, IsToken, SkipsBlanks, begins_with}
use Rattle.kh_lex.proofs.Cuttings.{skip-cons}
use Rattle.kh_lex.specs.Symbols.{Means, bytes_of, kind_symbol, symbols_of, word_symbol}

-- bytes behind blanks are the first token of a text, which means a symbol, and leave a rest
pub record WritesFirst (text : List ℕ) (symbol : Symbol) (rest : List ℕ) : Type 0 where
  pub kind : Kind
  pub value : ℤ
  pub bytes : List ℕ
  pub skip : SkipsBlanks text (bytes ++ rest)
  pub token : IsToken kind value bytes rest
  pub limit : nat_abs value ≤ NUMBER_LIMIT
  pub meaning : kind_symbol kind bytes value ≡ symbol

-- a text writes symbols: it is blank, if there are none; else its first token means the first, and the rest writes the others
abbrev pub Writes : List ℕ → List Symbol → Type 0
Writes text [] = SkipsBlanks text []
Writes text (symbol ∷ more) = (rest : List ℕ) × WritesFirst text symbol rest × Writes rest more

-- the same as a record
pub record IsWritten (text : List ℕ) (more : List Symbol) : Type 0 where
  pub writes : Writes text more

-- a text without a byte writes nothing
pub nothing-written : IsWritten [] []
nothing-written = record { writes = record { blanks = []; parts = refl; blank = refl } }

-- a token before a text
token-written : {rest : List ℕ} {more : List Symbol} (kind : Kind) (value : ℤ) (bytes : List ℕ) → IsToken kind value bytes rest → nat_abs value ≤ NUMBER_LIMIT
    → IsWritten rest more → IsWritten (bytes ++ rest) (kind_symbol kind bytes value ∷ more)
token-written {rest = rest} kind value bytes token limit written = grind (arith, nat_tests)

-- a mark before a text
pub left_bracket-written : {rest : List ℕ} {more : List Symbol} → IsWritten rest more → IsWritten (codes "[" ++ rest) (symbols.LeftBracket ∷ more)
left_bracket-written written = token-written LeftBracket (pos 0) (codes "[") (refl, refl) (omega arith) written

pub right_bracket-written : {rest : List ℕ} {more : List Symbol} → IsWritten rest more → IsWritten (codes "]" ++ rest) (symbols.RightBracket ∷ more)
right_bracket-written written = token-written RightBracket (pos 0) (codes "]") (refl, refl) (omega arith) written

pub left_brace-written : {rest : List ℕ} {more : List Symbol} → IsWritten rest more → IsWritten (codes "{" ++ rest) (symbols.LeftBrace ∷ more)
left_brace-written written = token-written LeftBrace (pos 0) (codes "{") (refl, refl) (omega arith) written

pub right_brace-written : {rest : List ℕ} {more : List Symbol} → IsWritten rest more → IsWritten (codes "}" ++ rest) (symbols.RightBrace ∷ more)
right_brace-written written = token-written RightBrace (pos 0) (codes "}") (refl, refl) (omega arith) written

pub comma-written : {rest : List ℕ} {more : List Symbol} → IsWritten rest more → IsWritten (codes "," ++ rest) (symbols.Comma ∷ more)
comma-written written = token-written Comma (pos 0) (codes ",") (refl, refl) (omega arith) written

-- a word before a text that begins with no letter
pub word-written : {rest : List ℕ} {more : List Symbol} (word : List ℕ) → 0 < length word → list_all is_ascii_alphabetic word ≡ true → begins_with is_ascii_alphabetic rest ≡ false
    → IsWritten rest more → IsWritten (word ++ rest) (word_symbol word ∷ more)
word-written word some all longest written =
    token-written Word (pos 0) word (record { some = some; all = all; longest = longest }, refl) (omega arith) written

-- digits are digits
list_all-digits : (digits : List ℕ) → AllDigits 10 digits → list_all is_ascii_digit digits ≡ true
list_all-digits [] all = refl
list_all-digits (digit ∷ digits) all = grind (arith, nat_tests, digit_from_value, and_from, list_all-digits digits all.1)

-- decimal digits before a text that begins with no digit are a run
decimal-run : {rest : List ℕ} (n : ℕ) → n ≤ NUMBER_LIMIT → begins_with is_ascii_digit rest ≡ false → IsLongestRun is_ascii_digit (decimal n) rest × (digits_value 10 (decimal n) ≡ n)
decimal-run n small longest =
    let written = decimal_is_IsNumeral n (omega arith) in
    (record { some = written.0.0; all = list_all-digits (decimal n) written.0.1; longest = longest }, written.1)

-- a number before a text that begins with no digit
pub number-written : {rest : List ℕ} {more : List Symbol} (value : ℤ) → nat_abs value ≤ NUMBER_LIMIT → begins_with is_ascii_digit rest ≡ false
    → IsWritten rest more → IsWritten (signed_decimal value ++ rest) (symbols.Number value ∷ more)
number-written {rest = rest} (pos n) small longest written =
    let run = decimal-run {rest = rest} n small longest in
    token-written Number (pos n) (decimal n) (record { minus = false; digits = decimal n; parts = refl; run = run.0; valued = ap pos (sym run.1) }) small written
number-written {rest = rest} (negsuc n) small longest written =
    let run = decimal-run {rest = rest} (suc n) small longest in
    token-written Number (negsuc n) (45 ∷ decimal (suc n))
    (record { minus = true; digits = decimal (suc n); parts = refl; run = run.0; valued = ap (λ m. neg_ℤ (pos m)) (sym run.1) }) small written

-- a space before a text
pub space-written : {rest : List ℕ} {more : List Symbol} → IsWritten rest more → IsWritten (codes " " ++ rest) more
space-written {rest = rest} {more = more} written = record { writes = go more written.writes }
  where
    go : (more : List Symbol) → Writes rest more → Writes (32 ∷ rest) more
    go [] skip = skip-cons 32 rest [] refl skip
    go (symbol ∷ more) writes = grind (arith, nat_tests, skip-cons)

-- the tokens of a text that writes symbols, whose first byte has a place in a whole text
tokens-Writes : (whole : List ℕ) (place : ℕ) (text : List ℕ) (more : List Symbol) → drop place whole ≡ text → Writes text more
    → (tokens : List Token) × Cuts place text tokens × (symbols_of whole tokens ≡ more)
tokens-Writes whole place text [] stands writes = ([], writes, refl)
tokens-Writes whole place text (symbol ∷ more) stands writes =
    let first = writes.1 in
    let rest = writes.0 in
    let begin : ℕ = place + length first.skip.blanks in
    let token : Token = record { kind = first.kind; place = begin; length = length first.bytes; value = first.value } in
    let here : drop begin whole ≡ first.bytes ++ rest
    = sym (drop-drop (length first.skip.blanks) place whole) ∙ ap (drop (length first.skip.blanks)) (stands ∙ first.skip.parts)
    ∙ drop-append_seam first.skip.blanks (first.bytes ++ rest) in
    let later : drop (begin + length first.bytes) whole ≡ rest
    = sym (drop-drop (length first.bytes) begin whole) ∙ ap (drop (length first.bytes)) here ∙ drop-append_seam first.bytes rest in
    let bytes : bytes_of whole token ≡ first.bytes
    = ap (λ n. take n (drop begin whole)) (omega arith) ∙ ap (take (length first.bytes)) here ∙ take-append_seam first.bytes rest in
    let others = tokens-Writes whole (begin + length first.bytes) rest more later writes.2 in (
      token ∷ others.0,
      (
        rest,
        record { bytes = first.bytes; skip = first.skip; begin = refl; size = refl; kind = first.token; limit = first.limit },
        others.1,
      ),
      ap (λ b. kind_symbol first.kind b first.value ∷ symbols_of whole others.0) bytes
          ∙ ap (λ s. s ∷ symbols_of whole others.0) first.meaning ∙ ap (λ s. symbol ∷ s) others.2,
    )

-- a text means what it writes
pub Means-written : (text : List ℕ) (more : List Symbol) → IsWritten text more → Means text more
Means-written text more written = grind (arith, nat_tests, tokens-Writes text 0 text more refl written.writes)
