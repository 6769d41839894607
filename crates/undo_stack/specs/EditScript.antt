-- The lines of a script of edits: `r1 add A under plus`, `r1 drop C`, `r2 add A left B right`, `r2 drop C D`, `r3 C D E`,
-- `undo` and `redo`.
use Rattle.std.specs.Prelude.{◌≡◌, ℕ, ◌≤◌, Bool, true, false, List, [], ◌∷◌, codes, Result}
use Rattle.kh_lex.specs.Numerals.{WritesNumber}
use Rattle.diagram_moves.specs.declared.change.Move.TheVariants.{KinkAdd, KinkDrop, FingerAdd, FingerDrop, Slide}
use Rattle.diagram_moves.specs.declared.change.Side.{Side}
use Rattle.diagram_moves.specs.declared.change.Side.TheVariants.{Left, Right}
use Rattle.undo_stack.specs.declared.edit_line.EditLine.{EditLine}
use Rattle.undo_stack.specs.declared.edit_line.EditLine.TheVariants.{Change, Undo, Redo}
use Rattle.undo_stack.specs.declared.limits.TheConstants.{NAMED_DIGITS, NAMED_LIMIT}
use Rattle.undo_stack.specs.declared.stop.ScriptStop.{ScriptStop}
use Rattle.undo_stack.specs.Reading.{IsScriptReading}

-- a word names an arc or a crossing: one to three digits, and the number is within the limit
pub record NamesPlace (word : List ℕ) (place : ℕ) : Type 0 where
  pub written : WritesNumber NAMED_DIGITS word place
  pub within : place ≤ NAMED_LIMIT

-- the word for a side
abbrev pub side_word : Side → List ℕ
side_word Left = codes "left"
side_word Right = codes "right"

-- the word for whether the first pass of a kink is under
abbrev pub pass_word : Bool → List ℕ
pass_word true = codes "under"
pass_word false = codes "over"

-- the word for whether the crossing of a kink is positive
abbrev pub sign_word : Bool → List ℕ
sign_word true = codes "plus"
sign_word false = codes "minus"

-- words spell a line of an edit
abbrev pub SpellsEdit : List (List ℕ) → EditLine → Type 0
SpellsEdit words (Change (KinkAdd arc under_first positive)) =
    (a : List ℕ) × (words ≡ codes "r1" ∷ codes "add" ∷ a ∷ pass_word under_first ∷ sign_word positive ∷ []) × NamesPlace a arc
SpellsEdit words (Change (KinkDrop crossing)) =
    (c : List ℕ) × (words ≡ codes "r1" ∷ codes "drop" ∷ c ∷ []) × NamesPlace c crossing
SpellsEdit words (Change (FingerAdd over over_side under under_side)) =
    (a b : List ℕ) × (words ≡ codes "r2" ∷ codes "add" ∷ a ∷ side_word over_side ∷ b ∷ side_word under_side ∷ [])
    × NamesPlace a over × NamesPlace b under
SpellsEdit words (Change (FingerDrop first second)) =
    (c d : List ℕ) × (words ≡ codes "r2" ∷ codes "drop" ∷ c ∷ d ∷ []) × NamesPlace c first × NamesPlace d second
SpellsEdit words (Change (Slide first second third)) =
    (c d e : List ℕ) × (words ≡ codes "r3" ∷ c ∷ d ∷ e ∷ []) × NamesPlace c first × NamesPlace d second × NamesPlace e third
SpellsEdit words Undo = words ≡ codes "undo" ∷ []
SpellsEdit words Redo = words ≡ codes "redo" ∷ []

-- what the reading of the text of an edit comes to
abbrev pub IsEdit : List ℕ → Result (List (ℕ × EditLine)) ScriptStop → Type 0
IsEdit text reading = IsScriptReading SpellsEdit text reading
