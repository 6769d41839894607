-- The grammar of planar diagram texts, as the spelling of a list of items
-- (Knot Atlas, "Planar Diagrams"; `Loop` is this project's rule):
--     text = "PD" "[" [ item { "," item } ] "]"
--     item = "X" "[" number "," number "," number "," number "]"  or  "Loop" "[" number "]"
use Rattle.std.specs.Prelude.{◌≡◌, ℕ, List, [], ◌∷◌, ◌++◌}
use Rattle.std.specs.List.{flat_map}
use Rattle.kh_lex.specs.declared.symbol.Symbol.{Symbol}
use Rattle.kh_lex.specs.declared.symbol.Symbol.TheVariants.{Pd, X, Number, LeftBracket, RightBracket, Comma}
use Rattle.kh_lex.specs.declared.symbol.Symbol.TheVariants as symbols
use Rattle.kh_lex.specs.Symbols.{Means}
use Rattle.pd_code.specs.declared.item.Item.{Item}
use Rattle.pd_code.specs.declared.item.Item.TheVariants.{Crossing, Loop}

-- an item: `X[i, j, k, l]` or `Loop[n]`
abbrev pub item_symbols : Item → List Symbol
item_symbols (Crossing i j k l) =
    X ∷ LeftBracket ∷ Number i ∷ Comma ∷ Number j ∷ Comma ∷ Number k ∷ Comma ∷ Number l ∷ RightBracket ∷ []
item_symbols (Loop n) = symbols.Loop ∷ LeftBracket ∷ Number n ∷ RightBracket ∷ []

-- an item behind a comma
abbrev pub next_symbols : Item → List Symbol
next_symbols item = Comma ∷ item_symbols item

-- items, with a comma between any two
abbrev pub listed : List Item → List Symbol
listed [] = []
listed (item ∷ items) = item_symbols item ++ flat_map next_symbols items

-- the symbols that spell a list of items: `PD[`, the items and `]`
abbrev pub pd_spelled : List Item → List Symbol
pd_spelled items = Pd ∷ LeftBracket ∷ (listed items ++ RightBracket ∷ [])

-- symbols are a text of the grammar: they spell some items
abbrev pub IsPdText : List Symbol → Type 0
IsPdText symbols = (items : List Item) × (symbols ≡ pd_spelled items)

-- a text spells items: its tokens mean their spelling
abbrev pub Spells : List ℕ → List Item → Type 0
Spells text items = Means text (pd_spelled items)
