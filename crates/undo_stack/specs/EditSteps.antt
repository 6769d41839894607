-- The reading of an edit, as the way of the code.
use Rattle.std.specs.Prelude.{ℕ, nat_le, Bool, true, false, if◌then◌else◌, List, [], ◌∷◌, codes, Option, None, Some, Result, bytes_eq}
use Rattle.std.specs.Option.{option_map, option_and_then}
use Rattle.kh_lex.specs.Numerals.{numeral_of}
use Rattle.diagram_moves.specs.declared.change.Move.TheVariants.{KinkAdd, KinkDrop, FingerAdd, FingerDrop, Slide}
use Rattle.diagram_moves.specs.declared.change.Side.{Side}
use Rattle.diagram_moves.specs.declared.change.Side.TheVariants.{Left, Right}
use Rattle.undo_stack.specs.declared.edit_line.EditLine.{EditLine}
use Rattle.undo_stack.specs.declared.edit_line.EditLine.TheVariants.{Change, Undo, Redo}
use Rattle.undo_stack.specs.declared.limits.TheConstants.{NAMED_DIGITS, NAMED_LIMIT}
use Rattle.undo_stack.specs.declared.stop.ScriptStop.{ScriptStop}
use Rattle.undo_stack.specs.Steps.{script_reading}

-- the one of two things that a word tells by one of two words, if it does
abbrev pub told_by : {T : Type 0} → List ℕ → List ℕ → T → List ℕ → T → Option T
told_by word first one second other = if bytes_eq word first then Some one else if bytes_eq word second then Some other else None

-- the arc or the crossing that a word names
abbrev pub place_named : List ℕ → Option ℕ
place_named word = option_and_then (λ place. if nat_le place NAMED_LIMIT then Some place else None) (numeral_of NAMED_DIGITS word)

-- the side that a word names
abbrev pub side_named : List ℕ → Option Side
side_named word = told_by word (codes "left") Left (codes "right") Right

-- whether a word says that the first pass is under
abbrev pub pass_named : List ℕ → Option Bool
pass_named word = told_by word (codes "under") true (codes "over") false

-- whether a word says that the crossing is positive
abbrev pub sign_named : List ℕ → Option Bool
sign_named word = told_by word (codes "plus") true (codes "minus") false

-- the line of one word
abbrev pub lone_line : List ℕ → Option EditLine
lone_line name = told_by name (codes "undo") Undo (codes "redo") Redo

-- the line of a kink that is added
abbrev pub kink_line : List ℕ → List ℕ → List ℕ → Option EditLine
kink_line a pass sign =
    option_and_then (λ arc. option_and_then (λ under. option_map (λ plus. Change (KinkAdd arc under plus)) (sign_named sign))
    (pass_named pass))
    (place_named a)

-- of a crossing with a kink that is dropped
abbrev pub kink_drop_line : List ℕ → Option EditLine
kink_drop_line c = option_map (λ crossing. Change (KinkDrop crossing)) (place_named c)

-- of a finger that is added
abbrev pub finger_line : List ℕ → List ℕ → List ℕ → List ℕ → Option EditLine
finger_line a side b other =
    option_and_then
    (λ over. option_and_then
    (λ over_side. option_and_then
    (λ under. option_map (λ under_side. Change (FingerAdd over over_side under under_side)) (side_named other))
    (place_named b))
    (side_named side))
    (place_named a)

-- of two crossings of a bigon that are dropped
abbrev pub finger_drop_line : List ℕ → List ℕ → Option EditLine
finger_drop_line c d =
    option_and_then (λ first. option_map (λ second. Change (FingerDrop first second)) (place_named d)) (place_named c)

-- of a slide
abbrev pub slide_line : List ℕ → List ℕ → List ℕ → Option EditLine
slide_line c d e =
    option_and_then
    (λ first. option_and_then (λ second. option_map (λ third. Change (Slide first second third)) (place_named e)) (place_named d))
    (place_named c)

-- the line of the words behind `r1`
abbrev pub r1_line : List (List ℕ) → Option EditLine
r1_line (verb ∷ c ∷ []) = if bytes_eq verb (codes "drop") then kink_drop_line c else None
r1_line (verb ∷ a ∷ pass ∷ sign ∷ []) = if bytes_eq verb (codes "add") then kink_line a pass sign else None
r1_line _ = None

-- the line of the words behind `r2`
abbrev pub r2_line : List (List ℕ) → Option EditLine
r2_line (verb ∷ c ∷ d ∷ []) = if bytes_eq verb (codes "drop") then finger_drop_line c d else None
r2_line (verb ∷ a ∷ side ∷ b ∷ other ∷ []) = if bytes_eq verb (codes "add") then finger_line a side b other else None
r2_line _ = None

-- the line of the words behind `r3`
abbrev pub r3_line : List (List ℕ) → Option EditLine
r3_line (c ∷ d ∷ e ∷ []) = slide_line c d e
r3_line _ = None

-- the line of a move: its name, and the words behind it
abbrev pub move_line : List ℕ → List (List ℕ) → Option EditLine
move_line name words =
    if bytes_eq name (codes "r1") then r1_line words
    else if bytes_eq name (codes "r2") then r2_line words
    else if bytes_eq name (codes "r3") then r3_line words
    else None

-- the line of an edit that words spell, if they spell one
abbrev pub edit_line_of : List (List ℕ) → Option EditLine
edit_line_of [] = None
edit_line_of (name ∷ []) = lone_line name
edit_line_of (name ∷ words) = move_line name words

-- what the text of an edit reads as
abbrev pub edit_of : List ℕ → Result (List (ℕ × EditLine)) ScriptStop
edit_of text = script_reading edit_line_of text
