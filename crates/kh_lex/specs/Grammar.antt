-- Where a text leaves a grammar. A grammar is given by what it is that symbols are a text of it.
use Rattle.std.specs.Prelude.{◌≡◌, ℕ, ◌+◌, ◌<◌, ◌≤◌, List, ◌++◌, length, take, slice_get}
use Rattle.std.specs.Option.{option_map_or}
use Rattle.kh_lex.specs.declared.token.Token.{Token}
use Rattle.kh_lex.specs.declared.symbol.Symbol.{Symbol}
use Rattle.kh_lex.specs.Cuts.{Cuts}
use Rattle.kh_lex.specs.Symbols.{symbols_of}

-- symbols are viable: they can go on to a text of the grammar
pub record IsViable (IsText : List Symbol → Type 0) (symbols : List Symbol) : Type 0 where
  pub more : List Symbol
  pub text : IsText (symbols ++ more)

-- symbols leave the grammar first at the one that stands behind `at` others: those others are viable, and with this one
-- they are not; or there is none, and the symbols are no text yet
pub record IsFirstFault (IsText : List Symbol → Type 0) (symbols : List Symbol) (at : ℕ) : Type 0 where
  pub within : at ≤ length symbols
  pub before : IsViable IsText (take at symbols)
  pub here : at < length symbols → ¬ IsViable IsText (take (at + 1) symbols)
  pub end : at ≡ length symbols → ¬ IsText symbols

-- the place in bytes of a fault at the token that stands behind `at` others: that token's own place, or the number of bytes
-- of the text where the tokens run out
abbrev pub fault_place : List ℕ → List Token → ℕ → ℕ
fault_place text tokens at = option_map_or (λ token. token.place) (slice_get tokens at) (length text)

-- tokens of a text leave the grammar at a place: their meanings have their first fault at the token there, or at the end
pub record LeavesAt (IsText : List Symbol → Type 0) (text : List ℕ) (tokens : List Token) (place : ℕ) : Type 0 where
  pub at : ℕ
  pub fault : IsFirstFault IsText (symbols_of text tokens) at
  pub named : place ≡ fault_place text tokens at

-- a text leaves the grammar at a place: tokens cut it, and they leave the grammar there
pub record LeavesGrammar (IsText : List Symbol → Type 0) (text : List ℕ) (place : ℕ) : Type 0 where
  pub tokens : List Token
  pub cut : Cuts 0 text tokens
  pub leaves : LeavesAt IsText text tokens place
