-- What the tokens of a text mean in the grammars of code texts (Knot Atlas, "Planar Diagrams" and "Gauss Codes"; `Loop`,
-- `Signs` and the braces are this project's rule).
use Rattle.std.specs.Prelude.{◌≡◌, ℕ, ◌+◌, if◌then◌else◌, List, map, codes, ℤ}
use Rattle.std.specs.List.{slice_range}
use Rattle.std.specs.Str.{bytes_eq}
use Rattle.kh_lex.specs.declared.token.Kind.TheVariants as kinds
use Rattle.kh_lex.specs.declared.token.Kind.{Kind}
use Rattle.kh_lex.specs.declared.token.Token.{Token}
use Rattle.kh_lex.specs.declared.symbol.Symbol.{Symbol}
use Rattle.kh_lex.specs.declared.symbol.Symbol.TheVariants.{Pd, X, Loop, GaussCode, Signs, OtherWord, Number, LeftBracket, RightBracket, LeftBrace, RightBrace, Comma}
use Rattle.kh_lex.specs.Cuts.{Cuts}

-- what a word means: the words of the grammars are spelled exactly so
abbrev pub word_symbol : List ℕ → Symbol
word_symbol word =
    if bytes_eq word (codes "PD") then Pd
    else if bytes_eq word (codes "X") then X
    else if bytes_eq word (codes "Loop") then Loop
    else if bytes_eq word (codes "GaussCode") then GaussCode
    else if bytes_eq word (codes "Signs") then Signs
    else OtherWord

-- what a token of a kind means, by its bytes and its value
abbrev pub kind_symbol : Kind → List ℕ → ℤ → Symbol
kind_symbol kinds.Word bytes value = word_symbol bytes
kind_symbol kinds.Number bytes value = Number value
kind_symbol kinds.LeftBracket bytes value = LeftBracket
kind_symbol kinds.RightBracket bytes value = RightBracket
kind_symbol kinds.LeftBrace bytes value = LeftBrace
kind_symbol kinds.RightBrace bytes value = RightBrace
kind_symbol kinds.Comma bytes value = Comma

-- the bytes of a token
abbrev pub bytes_of : List ℕ → Token → List ℕ
bytes_of text token = slice_range text token.place (token.place + token.length)

-- what a token of a text means
abbrev pub symbol_of : List ℕ → Token → Symbol
symbol_of text token = kind_symbol token.kind (bytes_of text token) token.value

-- what tokens of a text mean, in order
abbrev pub symbols_of : List ℕ → List Token → List Symbol
symbols_of text tokens = map (symbol_of text) tokens

-- a text means symbols: tokens cut it, and these are their meanings
pub record Means (text : List ℕ) (symbols : List Symbol) : Type 0 where
  pub tokens : List Token
  pub cut : Cuts 0 text tokens
  pub meaning : symbols_of text tokens ≡ symbols
