-- The machine that reads the grammar in one pass, as the way of the code.
use Rattle.std.specs.Prelude.{ℕ, Bool, true, false, List, [], ◌∷◌, ◌++◌, Option, None, Some, ℤ}
use Rattle.std.specs.Option.{option_map}
use Rattle.kh_lex.specs.declared.symbol.Symbol.{Symbol}
use Rattle.kh_lex.specs.declared.symbol.Symbol.TheVariants.{GaussCode, Signs, Number, LeftBracket, RightBracket, LeftBrace, RightBrace, Comma}
use Rattle.kh_lex.specs.declared.token.Token.{Token}
use Rattle.kh_lex.specs.Grammar.{LeavesAt}
use Rattle.gauss_code.specs.declared.machine.State.{State}
use Rattle.gauss_code.specs.declared.machine.State.TheVariants.{Start, Named, Open, BareNumber, BareComma, GroupOpen, GroupNumber, GroupComma, GroupEnd, NextGroup, BodyEnd, SignsNamed, SignsOpen, SignNumber, SignComma, Done}
use Rattle.gauss_code.specs.declared.stop.GaussStop.{GaussStop}
use Rattle.gauss_code.specs.declared.stop.GaussStop.TheVariants.{Text}
use Rattle.gauss_code.specs.Listings.{Body, Listing}
use Rattle.gauss_code.specs.Grammar.{IsGaussText}

-- where a symbol leads from a state, if the grammar has it there
abbrev pub gauss_step : State → Symbol → Option State
gauss_step Start GaussCode = Some Named
gauss_step Named LeftBracket = Some Open
gauss_step Open (Number n) = Some BareNumber
gauss_step Open LeftBrace = Some GroupOpen
gauss_step Open RightBracket = Some BodyEnd
gauss_step BareNumber Comma = Some BareComma
gauss_step BareNumber RightBracket = Some BodyEnd
gauss_step BareComma (Number n) = Some BareNumber
gauss_step GroupOpen (Number n) = Some GroupNumber
gauss_step GroupOpen RightBrace = Some GroupEnd
gauss_step GroupNumber Comma = Some GroupComma
gauss_step GroupNumber RightBrace = Some GroupEnd
gauss_step GroupComma (Number n) = Some GroupNumber
gauss_step GroupEnd Comma = Some NextGroup
gauss_step GroupEnd RightBracket = Some BodyEnd
gauss_step NextGroup LeftBrace = Some GroupOpen
gauss_step BodyEnd Signs = Some SignsNamed
gauss_step SignsNamed LeftBracket = Some SignsOpen
gauss_step SignsOpen (Number n) = Some SignNumber
gauss_step SignsOpen RightBracket = Some Done
gauss_step SignNumber Comma = Some SignComma
gauss_step SignNumber RightBracket = Some Done
gauss_step SignComma (Number n) = Some SignNumber
gauss_step _ _ = None

-- a body with one more group
abbrev pub with_group : List ℤ → Body → Body
with_group group (Body.Bare labels) = Body.Groups group []
with_group group (Body.Groups first groups) = Body.Groups first (groups ++ group ∷ [])

-- a body that ends: the numbers behind its last group, if it has none, are its labels
abbrev pub group_ended : List ℤ → Body → Body
group_ended numbers (Body.Bare labels) = Body.Bare numbers
group_ended numbers (Body.Groups first groups) = Body.Groups first groups

-- the body where a state is entered, which may end a group or the body, given the numbers since the last mark that is no comma
abbrev pub body_after : State → List ℤ → Body → Body
body_after GroupEnd numbers body = with_group numbers body
body_after BodyEnd numbers body = group_ended numbers body
body_after _ numbers body = body

-- those numbers, where a state is entered by a symbol
abbrev pub numbers_after : State → Symbol → List ℤ → List ℤ
numbers_after GroupEnd _ numbers = []
numbers_after BodyEnd _ numbers = []
numbers_after _ (Number n) numbers = numbers ++ n ∷ []
numbers_after _ _ numbers = numbers

-- where the machine stands, the body that it has read, and the numbers behind that
pub record GaussProgress : Type 0 where
  pub state : State
  pub body : Body
  pub numbers : List ℤ

-- the machine at a state, with a body and numbers
abbrev pub gauss_progress : State → Body → List ℤ → GaussProgress
gauss_progress state body numbers = record { state = state; body = body; numbers = numbers }

-- the machine at its beginning
abbrev pub start : GaussProgress
start = gauss_progress Start (Body.Bare []) []

-- the machine where a symbol leads to a state
abbrev pub entered : State → Symbol → GaussProgress → GaussProgress
entered next symbol progress =
    gauss_progress next (body_after next progress.numbers progress.body) (numbers_after next symbol progress.numbers)

-- the machine after one more symbol
abbrev pub gauss_advanced : GaussProgress → Symbol → Option GaussProgress
gauss_advanced progress symbol = option_map (λ next. entered next symbol progress) (gauss_step progress.state symbol)

-- a state is an end: behind the body, which may have no signs, or behind the signs
abbrev pub is_gauss_done : State → Bool
is_gauss_done BodyEnd = true
is_gauss_done Done = true
is_gauss_done _ = false

-- the machine has come to an end
abbrev pub is_gauss_end : GaussProgress → Bool
is_gauss_end progress = is_gauss_done progress.state

-- the signs that have been read
abbrev pub signs_read : State → List ℤ → Option (List ℤ)
signs_read Done numbers = Some numbers
signs_read _ numbers = None

-- what has been read
abbrev pub listing_read : GaussProgress → Listing
listing_read progress = record { body = progress.body; signs = signs_read progress.state progress.numbers }

-- a stop is the fault of the grammar at which tokens of a text leave it
abbrev pub IsGaussFault : List ℕ → List Token → GaussStop → Type 0
IsGaussFault text tokens (Text place) = LeavesAt IsGaussText text tokens place
IsGaussFault text tokens _ = ⊥
