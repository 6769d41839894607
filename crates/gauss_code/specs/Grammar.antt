-- The grammar of signed Gauss texts, as the spelling of what they list (Knot Atlas, "Gauss Codes"; the groups, the loops and the
-- signs are this project's rule):
--     text  = "GaussCode" "[" body "]" [ "Signs" "[" [ number { "," number } ] "]" ]
--     body  = nothing  or  number { "," number }  or  group { "," group }
--     group = "{" [ number { "," number } ] "}"
use Rattle.std.specs.Prelude.{◌≡◌, ℕ, List, [], ◌∷◌, ◌++◌, map, ℤ, Option, None, Some, Bool, true, false}
use Rattle.std.specs.List.{filter, flat_map}
use Rattle.kh_lex.specs.declared.symbol.Symbol.{Symbol}
use Rattle.kh_lex.specs.declared.symbol.Symbol.TheVariants.{GaussCode, Signs, Number, LeftBracket, RightBracket, LeftBrace, RightBrace, Comma}
use Rattle.kh_lex.specs.declared.token.Kind.{Kind}
use Rattle.kh_lex.specs.declared.token.Kind.TheVariants as kinds
use Rattle.kh_lex.specs.declared.token.Token.{Token}
use Rattle.kh_lex.specs.Cuts.{Cuts}
use Rattle.kh_lex.specs.Symbols.{symbols_of}
use Rattle.gauss_code.specs.Listings.{Body, Listing}

-- a number behind a comma
abbrev pub next_number : ℤ → List Symbol
next_number number = Comma ∷ Number number ∷ []

-- numbers, with a comma between any two
abbrev pub numbers_symbols : List ℤ → List Symbol
numbers_symbols [] = []
numbers_symbols (number ∷ numbers) = Number number ∷ flat_map next_number numbers

-- a group: numbers in braces
abbrev pub group_symbols : List ℤ → List Symbol
group_symbols labels = LeftBrace ∷ (numbers_symbols labels ++ RightBrace ∷ [])

-- a group behind a comma
abbrev pub next_group : List ℤ → List Symbol
next_group labels = Comma ∷ group_symbols labels

-- a body: numbers, or groups with a comma between any two
abbrev pub body_symbols : Body → List Symbol
body_symbols (Body.Bare labels) = numbers_symbols labels
body_symbols (Body.Groups group groups) = group_symbols group ++ flat_map next_group groups

-- signs, if there are any: `Signs[`, the numbers and `]`
abbrev pub signs_symbols : Option (List ℤ) → List Symbol
signs_symbols None = []
signs_symbols (Some signs) = Signs ∷ LeftBracket ∷ (numbers_symbols signs ++ RightBracket ∷ [])

-- the symbols that spell what a text lists: `GaussCode[`, the body, `]` and the signs
abbrev pub gauss_spelled : Listing → List Symbol
gauss_spelled listing =
    GaussCode ∷ LeftBracket ∷ (body_symbols listing.body ++ RightBracket ∷ signs_symbols listing.signs)

-- symbols are a text of the grammar: they spell some listing
abbrev pub IsGaussText : List Symbol → Type 0
IsGaussText symbols = (listing : Listing) × (symbols ≡ gauss_spelled listing)

-- whether a token is a number
abbrev pub is_number_token : Token → Bool
is_number_token token = is_number_kind token.kind
  where
    is_number_kind : Kind → Bool
    is_number_kind kinds.Number = true
    is_number_kind _ = false

-- the places of the numbers among some tokens, in order: those of the labels, and then those of the signs
abbrev pub number_places : List Token → List ℕ
number_places tokens = map (λ token. token.place) (filter is_number_token tokens)

-- a text lists a body and signs, with its numbers at these places
pub record Lists (text : List ℕ) (listing : Listing) (places : List ℕ) : Type 0 where
  pub tokens : List Token
  pub cut : Cuts 0 text tokens
  pub spells : symbols_of text tokens ≡ gauss_spelled listing
  pub at : places ≡ number_places tokens
