-- Lines that are done, and those behind them.
use Rattle.std.proofs.Common.{◌≡◌, ℕ, suc, ◌+◌, ◌<◌, List, [], ◌∷◌, ◌++◌, length, take, drop, Some, None, Result, Ok, Err, sym, ◌∙◌, ap, ap₂, arith, get_or, drop-cons, take_all}
use Rattle.std.proofs.lemmas.List.{take_more, take-append-drop}
use Rattle.undo_stack.specs.declared.edit_line.EditLine.{EditLine}
use Rattle.undo_stack.specs.declared.edit_run.EditFault.{EditFault}
use Rattle.undo_stack.specs.Histories.{History}
use Rattle.undo_stack.specs.EditRuns.{EditOutcome, after_line, edit_outcome, edited, edited_from, then_edits}

then_edits-append : (first more : List EditLine) (history now : History) (count done : ℕ)
    → ((next : History) → edited_from (count + 1) first next ≡ edit_outcome now done None
    → edited_from (count + 1) (first ++ more) next ≡ edited_from done more now)
    → (r : Result History EditFault) → then_edits (edited_from (count + 1) first) history count r ≡ edit_outcome now done None
    → then_edits (edited_from (count + 1) (first ++ more)) history count r ≡ edited_from done more now
then_edits-append first more history now count done later (Ok next) is = later next is
then_edits-append first more history now count done later (Err fault) is =
    let e : Some fault ≡ None = ap (λ (o : EditOutcome). o.fault) is in absurd (cc)

-- where lines are done, those behind them begin with what they leave
pub edited_from-append : (count : ℕ) (first more : List EditLine) (history now : History) (done : ℕ)
    → edited_from count first history ≡ edit_outcome now done None
    → edited_from count (first ++ more) history ≡ edited_from done more now
edited_from-append count [] more history now done is =
    ap₂ (λ n h. edited_from n more h) (ap (λ (o : EditOutcome). o.count) is) (ap (λ (o : EditOutcome). o.history) is)
edited_from-append count (line ∷ first) more history now done is =
    then_edits-append first more history now count done (λ next. edited_from-append (count + 1) first more next now done) (after_line line history) is

-- the lines before a place are done, and have led from one history to another
pub record AreDone (lines : List EditLine) (place : ℕ) (first now : History) : Type 0 where
  pub outcome : edited (take place lines) first ≡ edit_outcome now place None

-- one more line
pub AreDone-line : (lines : List EditLine) (place : ℕ) (first now next : History) (line : EditLine)
    → place < length lines → get_or lines place line ≡ line → after_line line now ≡ Ok next
    → AreDone lines place first now → AreDone lines (place + 1) first next
AreDone-line lines place first now next line within is_line is so_far = record {
  outcome = ap (λ (xs : List EditLine). edited xs first) (take_more lines place line within ∙ ap (λ x. take place lines ++ x ∷ []) is_line)
      ∙ edited_from-append 0 (take place lines) (line ∷ []) first now place so_far.outcome
      ∙ ap (then_edits (edited_from (place + 1) []) now place) is;
}

-- a line is refused
pub AreDone-refused : (lines : List EditLine) (place : ℕ) (first now : History) (line : EditLine) (fault : EditFault)
    → place < length lines → get_or lines place line ≡ line → after_line line now ≡ Err fault
    → AreDone lines place first now → edited lines first ≡ edit_outcome now place (Some fault)
AreDone-refused lines place first now line fault within is_line is so_far =
    let one : suc place ≡ place + 1 = omega arith in
    ap (λ (xs : List EditLine). edited xs first)
    (sym (take-append-drop place lines)
    ∙ ap (λ xs. take place lines ++ xs) (drop-cons lines place line within ∙ (λ i. is_line i ∷ drop (one i) lines)))
    ∙ edited_from-append 0 (take place lines) (line ∷ drop (place + 1) lines) first now place so_far.outcome
    ∙ ap (then_edits (edited_from (place + 1) (drop (place + 1) lines)) now place) is

-- all lines are done
pub AreDone-end : (lines : List EditLine) (place : ℕ) (first now : History) → place ≡ length lines → AreDone lines place first now
    → edited lines first ≡ edit_outcome now place None
AreDone-end lines place first now end so_far =
    ap (λ (xs : List EditLine). edited xs first) (sym (ap (λ n. take n lines) end ∙ take_all (length lines) lines (omega arith))) ∙ so_far.outcome
