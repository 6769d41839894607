-- The reply of `edit`: there is one, and what the code writes line by line is its text.
use Rattle.std.proofs.Common.{◌≡◌, ℕ, ◌+◌, ◌<◌, List, ◌++◌, length, get_or, Some, None, Result, Ok, Err, refl, sym, ◌∙◌, ap, ap₂, subst, arith, append-nil}
use Rattle.std.proofs.lemmas.List.{get_or-map, length-map}
use Rattle.kh_types.specs.Code.{Code}
use Rattle.kh_types.proofs.Ranges.{flat_map-range_more}
use Rattle.undo_stack.specs.EditSteps.{edit_of}
use Rattle.undo_stack.specs.EditScript.{IsEdit}
use Rattle.undo_stack.specs.EditRuns.{EditOutcome, after_line, diagram_after, edit_outcome, edited}
use Rattle.undo_stack.specs.Histories.{History, opening_history}
use Rattle.undo_stack.specs.declared.edit_line.EditLine.{EditLine}
use Rattle.undo_stack.specs.declared.edit_run.EditFault.{EditFault}
use Rattle.undo_stack.specs.declared.limits.TheConstants.{SCRIPT_LINES}
use Rattle.undo_stack.specs.declared.stop.ScriptStop.{ScriptStop}
use Rattle.undo_stack.specs.declared.stop.ScriptStop.TheVariants as stops
use Rattle.undo_stack.proofs.EditReadings.{IsEdit-edit_of, IsEdit-one}
use Rattle.undo_stack.proofs.EditedParts.{AreDone, AreDone-end, AreDone-line, AreDone-refused}
use Rattle.kh_runs.specs.declared.status.Status.TheVariants.{Done, MoveRefused}
use Rattle.kh_runs.specs.Replies.{Reply, reply_of}
use Rattle.kh_runs.specs.Refusals.{refused_line, too_many_lines}
use Rattle.kh_work.specs.Edit.{IsEditReply, IsEditedReply, diagram_line, diagram_lines, edit_reply, edits_in, line_number_at, outcome_reply, refusal_line}

-- what a script was read as is answered once
IsEditedReply-some : (code : Code) (text : List ℕ) (reading : Result (List (ℕ × EditLine)) ScriptStop) → IsEdit text reading
    → (reply : Reply) × IsEditedReply code reading reply
IsEditedReply-some code text (Ok script) read = (edit_reply code script, refl)
IsEditedReply-some code text (Err (stops.LineLimit count)) read = (too_many_lines count SCRIPT_LINES, refl)
IsEditedReply-some code text (Err (stops.Line line)) read = (refused_line line, refl)
IsEditedReply-some code text (Err stops.NoMemory) read = absurd read

IsEditedReply-one : (code : Code) (reading : Result (List (ℕ × EditLine)) ScriptStop) (a b : Reply) → IsEditedReply code reading a
    → IsEditedReply code reading b → a ≡ b
IsEditedReply-one code (Ok script) a b is_a is_b = is_a ∙ sym is_b
IsEditedReply-one code (Err (stops.LineLimit count)) a b is_a is_b = is_a ∙ sym is_b
IsEditedReply-one code (Err (stops.Line line)) a b is_a is_b = is_a ∙ sym is_b
IsEditedReply-one code (Err stops.NoMemory) a b is_a is_b = absurd is_a

pub IsEditReply-some : (code : Code) (text : List ℕ) → (reply : Reply) × IsEditReply code text reply
IsEditReply-some code text =
    let read = IsEdit-edit_of text in
    let reply = IsEditedReply-some code text (edit_of text) read in
    (reply.0, record { reading = edit_of text; read = read; answered = reply.1 })

pub IsEditReply-one : (code : Code) (text : List ℕ) (a b : Reply) → IsEditReply code text a → IsEditReply code text b → a ≡ b
IsEditReply-one code text a b is_a is_b =
    let same : is_a.reading ≡ is_b.reading = IsEdit-one text is_a.reading is_b.reading is_a.read is_b.read in
    IsEditedReply-one code is_b.reading a b (subst (λ reading. IsEditedReply code reading a) same is_a.answered) is_b.answered

-- the lines of a script before a place are done, and have led to a history and a text
pub record IsEditSoFar (code : Code) (script : List (ℕ × EditLine)) (place : ℕ) (now : History) (text : List ℕ) : Type 0 where
  pub done : AreDone (edits_in script) place (opening_history code) now
  pub written : text ≡ diagram_lines code script place

-- the line at a place, and its number
edit-at : (script : List (ℕ × EditLine)) (place : ℕ) (line other : ℕ × EditLine) → place < length script
    → line ≡ get_or script place other → get_or (edits_in script) place line.1 ≡ line.1
edit-at script place line other within is =
    get_or-map (λ (l : ℕ × EditLine). l.1) script place other line.1 within ∙ ap (λ (l : ℕ × EditLine). l.1) (sym is)

number_at-line : (script : List (ℕ × EditLine)) (place : ℕ) (line other : ℕ × EditLine) → place < length script
    → line ≡ get_or script place other → line.0 ≡ line_number_at script place
number_at-line script place line other within is = sym
    (get_or-map (λ (l : ℕ × EditLine). l.0) script place other 0 within ∙ ap (λ (l : ℕ × EditLine). l.0) (sym is))

edits-length : (script : List (ℕ × EditLine)) → length (edits_in script) ≡ length script
edits-length script = length-map script (λ (l : ℕ × EditLine). l.1)

-- one more line
pub IsEditSoFar-line : (code : Code) (script : List (ℕ × EditLine)) (place : ℕ) (now next : History) (text more : List ℕ)
    (line other : ℕ × EditLine) → place < length script → line ≡ get_or script place other → after_line line.1 now ≡ Ok next
    → more ≡ text ++ diagram_line line.0 next.diagram
    → IsEditSoFar code script place now text → IsEditSoFar code script (place + 1) next more
IsEditSoFar-line code script place now next text more line other within is_line is is_more so_far =
    let first = opening_history code in
    let done : AreDone (edits_in script) (place + 1) first next =
    AreDone-line (edits_in script) place first now next line.1 (omega (arith, edits-length script)) (edit-at script place line other within is_line)
    is so_far.done in
    let diagram : diagram_after (edits_in script) code (place + 1) ≡ next.diagram = ap (λ (o : EditOutcome). o.history.diagram) done.outcome in
    record {
      done = done;
      written = is_more
          ∙ ap₂ (λ (xs ys : List ℕ). xs ++ ys) so_far.written
          (ap₂ (λ (n : ℕ) (d : Code). diagram_line n d) (number_at-line script place line other within is_line) (sym diagram))
          ∙ sym
          (flat_map-range_more
          (λ k. diagram_line (line_number_at script k) (diagram_after (edits_in script) code (k + 1))) 0 place place (omega arith));
    }

-- a line is refused
pub edit_reply-refused : (code : Code) (script : List (ℕ × EditLine)) (place : ℕ) (now : History) (text more : List ℕ)
    (line other : ℕ × EditLine) (fault : EditFault) → place < length script → line ≡ get_or script place other
    → after_line line.1 now ≡ Err fault → more ≡ text ++ refusal_line line.0 fault
    → IsEditSoFar code script place now text → reply_of MoveRefused more ≡ edit_reply code script
unfolding edit_reply
edit_reply-refused code script place now text more line other fault within is_line is is_more so_far =
    let first = opening_history code in
    let outcome : edited (edits_in script) first ≡ edit_outcome now place (Some fault) =
    AreDone-refused (edits_in script) place first now line.1 fault (omega (arith, edits-length script))
    (edit-at script place line other within is_line) is so_far.done in
    ap (reply_of MoveRefused)
    (is_more
    ∙ ap₂ (λ (xs : List ℕ) (n : ℕ). xs ++ refusal_line n fault) so_far.written (number_at-line script place line other within is_line))
    ∙ ap (outcome_reply code script) (sym outcome)

-- all lines are done
pub edit_reply-done : (code : Code) (script : List (ℕ × EditLine)) (place : ℕ) (now : History) (text : List ℕ)
    → length script ≡ place → IsEditSoFar code script place now text → reply_of Done text ≡ edit_reply code script
unfolding edit_reply
edit_reply-done code script place now text end so_far =
    let first = opening_history code in
    let outcome : edited (edits_in script) first ≡ edit_outcome now place None =
    AreDone-end (edits_in script) place first now (sym (edits-length script ∙ end)) so_far.done in
    ap (reply_of Done) (so_far.written ∙ sym (append-nil (diagram_lines code script place))) ∙ ap (outcome_reply code script) (sym outcome)
