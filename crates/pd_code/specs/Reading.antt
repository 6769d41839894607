-- What the reading of a text comes to: a code, or why there is none.
use Rattle.std.specs.Prelude.{◌≡◌, ℕ, ◌<◌, ◌≤◌, ◌⊎◌, List, length, Result, Ok, Err}
use Rattle.kh_types.specs.Code.{Code}
use Rattle.kh_types.specs.declared.limits.TheConstants.{CROSSINGS, LOOPS}
use Rattle.kh_lex.specs.declared.stop.LexStop.TheVariants as lexical
use Rattle.kh_lex.specs.Cuts.{Stops}
use Rattle.kh_lex.specs.Grammar.{LeavesGrammar}
use Rattle.pd_code.specs.declared.item.Item.{Item}
use Rattle.pd_code.specs.declared.stop.PdStop.{PdStop}
use Rattle.pd_code.specs.declared.stop.PdStop.TheVariants.{Text, Number, CrossingLimit, LoopLimit, NoMemory}
use Rattle.pd_code.specs.Items.{code_of_items, crossings_among, loop_item_count}
use Rattle.pd_code.specs.Grammar.{IsPdText, Spells}

-- a text reads as a code: it spells items whose crossings and loops are within the limits, and the code is theirs
pub record ReadsAsPd (text : List ℕ) (code : Code) : Type 0 where
  pub items : List Item
  pub pd_spelled : Spells text items
  pub crossings : length (crossings_among items) ≤ CROSSINGS
  pub loops : loop_item_count items ≤ LOOPS
  pub same : code ≡ code_of_items items

-- a text has too many crossings: it spells items with so many, and these are above the limit
pub record HasManyCrossings (text : List ℕ) (count : ℕ) : Type 0 where
  pub items : List Item
  pub pd_spelled : Spells text items
  pub counted : count ≡ length (crossings_among items)
  pub above : CROSSINGS < count

-- a text has too many loops: it spells items with so many, and these are above the limit, and the crossings within theirs
pub record HasManyLoops (text : List ℕ) (count : ℕ) : Type 0 where
  pub items : List Item
  pub pd_spelled : Spells text items
  pub crossings : length (crossings_among items) ≤ CROSSINGS
  pub counted : count ≡ loop_item_count items
  pub above : LOOPS < count

-- what the reading of a text comes to. A byte that begins no token, or a number that is too large, is the first such fault
-- of the text, and then the grammar is not asked; running out of memory is no reading
abbrev pub IsPdReading : List ℕ → Result Code PdStop → Type 0
IsPdReading text (Ok code) = ReadsAsPd text code
IsPdReading text (Err (Text place)) = Stops 0 text (lexical.Bad place) ⊎ LeavesGrammar IsPdText text place
IsPdReading text (Err (Number place)) = Stops 0 text (lexical.Number place)
IsPdReading text (Err (CrossingLimit count)) = HasManyCrossings text count
IsPdReading text (Err (LoopLimit count)) = HasManyLoops text count
IsPdReading text (Err NoMemory) = ⊥
