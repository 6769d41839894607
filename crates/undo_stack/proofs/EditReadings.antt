-- What the text of an edit reads as, and what is computed of it, are the same.
use Rattle.std.proofs.Common.{◌≡◌, ◌↔◌, ℕ, List, Result, sym, ◌∙◌, subst}
use Rattle.undo_stack.specs.declared.edit_line.EditLine.{EditLine}
use Rattle.undo_stack.specs.declared.stop.ScriptStop.{ScriptStop}
use Rattle.undo_stack.specs.EditScript.{IsEdit, SpellsEdit}
use Rattle.undo_stack.specs.EditSteps.{edit_line_of, edit_of}
use Rattle.undo_stack.proofs.EditLines.{edit_line_of-means}
use Rattle.undo_stack.proofs.Readings.{IsMeaning, IsScriptReading-script_reading, script_reading-IsScriptReading}

IsMeaning-edit_line_of : IsMeaning SpellsEdit edit_line_of
IsMeaning-edit_line_of = record { means = edit_line_of-means }

-- a text reads as what is computed of it
pub IsEdit-edit_of : (text : List ℕ) → IsEdit text (edit_of text)
IsEdit-edit_of text = IsScriptReading-script_reading SpellsEdit edit_line_of IsMeaning-edit_line_of text

-- and as nothing else
pub edit_of-reads : (text : List ℕ) (r : Result (List (ℕ × EditLine)) ScriptStop) → (edit_of text ≡ r) ↔ IsEdit text r
edit_of-reads text r = (
  λ same. subst (IsEdit text) same (IsEdit-edit_of text),
  script_reading-IsScriptReading SpellsEdit edit_line_of IsMeaning-edit_line_of text r,
)

pub IsEdit-one : (text : List ℕ) (a b : Result (List (ℕ × EditLine)) ScriptStop) → IsEdit text a → IsEdit text b → a ≡ b
IsEdit-one text a b first second = sym ((edit_of-reads text a).1 first) ∙ (edit_of-reads text b).1 second
