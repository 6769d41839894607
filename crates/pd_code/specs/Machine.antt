-- The machine that reads the grammar in one pass, as the way of the code.
use Rattle.std.specs.Prelude.{ℕ, Bool, true, false, List, [], ◌∷◌, ◌++◌, Option, None, Some}
use Rattle.std.specs.Option.{option_map}
use Rattle.kh_lex.specs.declared.symbol.Symbol.{Symbol}
use Rattle.kh_lex.specs.declared.symbol.Symbol.TheVariants as symbols
use Rattle.kh_lex.specs.declared.symbol.Symbol.TheVariants.{Pd, X, Number, LeftBracket, RightBracket, Comma}
use Rattle.kh_lex.specs.declared.token.Token.{Token}
use Rattle.kh_lex.specs.Grammar.{LeavesAt}
use Rattle.pd_code.specs.declared.machine.State.{State}
use Rattle.pd_code.specs.declared.machine.State.TheVariants.{Start, Named, Open, Listed, Separated, Done, Crossing, CrossingOpen, First, FirstComma, Second, SecondComma, Third, ThirdComma, Fourth, Loop, LoopOpen, LoopNumber}
use Rattle.pd_code.specs.declared.item.Item.{Item}
use Rattle.pd_code.specs.declared.item.Item.TheVariants as kinds
use Rattle.pd_code.specs.declared.stop.PdStop.{PdStop}
use Rattle.pd_code.specs.declared.stop.PdStop.TheVariants.{Text}
use Rattle.pd_code.specs.Grammar.{IsPdText}

-- where a symbol leads from a state, if the grammar has it there
abbrev pub pd_step : State → Symbol → Option State
pd_step Start Pd = Some Named
pd_step Named LeftBracket = Some Open
pd_step Open X = Some Crossing
pd_step Open symbols.Loop = Some Loop
pd_step Open RightBracket = Some Done
pd_step Listed Comma = Some Separated
pd_step Listed RightBracket = Some Done
pd_step Separated X = Some Crossing
pd_step Separated symbols.Loop = Some Loop
pd_step Crossing LeftBracket = Some CrossingOpen
pd_step CrossingOpen (Number i) = Some (First i)
pd_step (First i) Comma = Some (FirstComma i)
pd_step (FirstComma i) (Number j) = Some (Second i j)
pd_step (Second i j) Comma = Some (SecondComma i j)
pd_step (SecondComma i j) (Number k) = Some (Third i j k)
pd_step (Third i j k) Comma = Some (ThirdComma i j k)
pd_step (ThirdComma i j k) (Number l) = Some (Fourth i j k l)
pd_step (Fourth i j k l) RightBracket = Some Listed
pd_step Loop LeftBracket = Some LoopOpen
pd_step LoopOpen (Number n) = Some (LoopNumber n)
pd_step (LoopNumber n) RightBracket = Some Listed
pd_step _ _ = None

-- the items with the one that ends as a state is left
abbrev pub added : State → List Item → List Item
added (Fourth i j k l) items = items ++ kinds.Crossing i j k l ∷ []
added (LoopNumber n) items = items ++ kinds.Loop n ∷ []
added _ items = items

-- where the machine stands, and the items that it has read
pub record PdProgress : Type 0 where
  pub state : State
  pub items : List Item

-- the machine at a state, with items
abbrev pub pd_progress : State → List Item → PdProgress
pd_progress state items = record { state = state; items = items }

-- the machine after one more symbol
abbrev pub pd_advanced : PdProgress → Symbol → Option PdProgress
pd_advanced progress symbol =
    option_map (λ next. pd_progress next (added progress.state progress.items)) (pd_step progress.state symbol)

-- a state is the end
abbrev pub is_pd_done : State → Bool
is_pd_done Done = true
is_pd_done _ = false

-- the machine has come to the end
abbrev pub is_pd_end : PdProgress → Bool
is_pd_end progress = is_pd_done progress.state

-- a stop is the fault of the grammar at which tokens of a text leave it
abbrev pub IsPdFault : List ℕ → List Token → PdStop → Type 0
IsPdFault text tokens (Text place) = LeavesAt IsPdText text tokens place
IsPdFault text tokens _ = ⊥
