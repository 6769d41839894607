-- What all histories keep.
use Rattle.std.proofs.Common.{ℕ, suc, ◌+◌, ◌-◌, ◌≤◌, inl, inr, List, [], ◌∷◌, ◌++◌, length, take, drop, slice_get, Option, Some, None, IfSome, IfOk, Result, Ok, Err, option_map, ok_or, IsTrue, refl, sym, ◌∙◌, ap, subst, arith, length-append, length-drop}
use Rattle.std.proofs.lemmas.List.Elements.{All-append, All-drop, All-take, All-nil, All-cons}
use Rattle.kh_types.specs.Code.{Code}
use Rattle.kh_types.specs.Acceptance.{accepted}
use Rattle.circular_buffer.specs.Buffer.{last_item}
use Rattle.diagram_moves.specs.Moved.{moved}
use Rattle.diagram_moves.specs.declared.change.Move.{Move}
use Rattle.diagram_moves.specs.declared.fault.MoveFault.{MoveFault}
use Rattle.undo_stack.specs.declared.limits.TheConstants.{UNDO_DEPTH}
use Rattle.undo_stack.specs.declared.edit_line.EditLine.{EditLine}
use Rattle.undo_stack.specs.declared.edit_line.EditLine.TheVariants.{Change, Undo, Redo}
use Rattle.undo_stack.specs.declared.edit_run.EditFault.{EditFault}
use Rattle.undo_stack.specs.EditRuns.{EditOutcome, after_line, edited, edited_from, history_after, then_edits}
use Rattle.undo_stack.specs.Histories.{EachOf, History, history_of, opening_history, redone, undone}
use Rattle.undo_stack.specs.Sums.{HasSumOf}
use Rattle.undo_stack.proofs.ListEnds.{All-slice_get, none_or_last}
use Rattle.undo_stack.proofs.HistorySteps.{undone-push}
use Rattle.undo_stack.proofs.MoveLemmas.{moves_have_the_sum}

-- a line, and those behind it
then_edits-keep : (Q : History → Type 0) (more : History → EditOutcome) → ((next : History) → Q next → Q (more next).history)
    → (history : History) (count : ℕ) (r : Result History EditFault) → Q history → IfOk r Q → Q (then_edits more history count r).history
then_edits-keep Q more keeps history count (Ok next) holds then = keeps next then
then_edits-keep Q more keeps history count (Err fault) holds then = holds

-- what each line keeps, all lines keep
edited_from-keep : (Q : History → Type 0) → ((line : EditLine) (history : History) → Q history → IfOk (after_line line history) Q)
    → (count : ℕ) (lines : List EditLine) (history : History) → Q history → Q (edited_from count lines history).history
edited_from-keep Q keeps count [] history holds = holds
edited_from-keep Q keeps count (line ∷ more) history holds =
    then_edits-keep Q (edited_from (count + 1) more) (edited_from-keep Q keeps (count + 1) more) history count
    (after_line line history) holds (keeps line history holds)

-- an option as a result
ok_or-keep : {S E : Type 0} (Q : S → Type 0) (r : Option S) (e : E) → IfSome r Q → IfOk (ok_or r e) Q
ok_or-keep Q None e holds = tt
ok_or-keep Q (Some s) e holds = holds

module _ (P : Code → Type 0) where
  EachOf-change : (r : Result Code MoveFault) (history : History) → EachOf P history → IfOk r P
      → IfOk (history_after r history) (EachOf P)
  EachOf-change (Ok diagram) history each holds = record {
    past = All-drop P (length (history.past ++ history.diagram ∷ []) - UNDO_DEPTH) (history.past ++ history.diagram ∷ [])
        (All-append P history.past (history.diagram ∷ []) each.past (All-cons P history.diagram [] each.diagram (All-nil P)));
    diagram = holds;
    future = All-nil P;
  }
  EachOf-change (Err fault) history each holds = tt

  EachOf-undone_by : (r : Option Code) (history : History) → EachOf P history → IfSome r P
      → IfSome (option_map (λ last. history_of (take (length history.past - 1) history.past) last (history.diagram ∷ history.future)) r)
      (EachOf P)
  EachOf-undone_by None history each holds = tt
  EachOf-undone_by (Some last) history each holds = record {
    past = All-take P (length history.past - 1) history.past each.past;
    diagram = holds;
    future = All-cons P history.diagram history.future each.diagram each.future;
  }

  EachOf-redone_by : (r : Option Code) (history : History) → EachOf P history → IfSome r P
      → IfSome (option_map (λ first. history_of (history.past ++ history.diagram ∷ []) first (drop 1 history.future)) r) (EachOf P)
  EachOf-redone_by None history each holds = tt
  EachOf-redone_by (Some first) history each holds = record {
    past = All-append P history.past (history.diagram ∷ []) each.past (All-cons P history.diagram [] each.diagram (All-nil P));
    diagram = holds;
    future = All-drop P 1 history.future each.future;
  }

  EachOf-line : ((change : Move) (code : Code) → P code → IfOk (moved code change) P)
      → (line : EditLine) (history : History) → EachOf P history → IfOk (after_line line history) (EachOf P)
  EachOf-line keeps (Change change) history each =
      EachOf-change (moved history.diagram change) history each (keeps change history.diagram each.diagram)
  EachOf-line keeps Undo history each =
      ok_or-keep (EachOf P) (undone history) EditFault.NothingToUndo
      (EachOf-undone_by (last_item history.past) history each (All-slice_get P history.past (length history.past - 1) each.past))
  EachOf-line keeps Redo history each =
      ok_or-keep (EachOf P) (redone history) EditFault.NothingToRedo
      (EachOf-redone_by (slice_get history.future 0) history each (All-slice_get P history.future 0 each.future))

  -- what each move keeps, all diagrams of all histories have
  pub EachOf-lines : ((change : Move) (code : Code) → P code → IfOk (moved code change) P)
      → (lines : List EditLine) (history : History) → EachOf P history → EachOf P (edited lines history).history
  EachOf-lines keeps = edited_from-keep (EachOf P) (EachOf-line keeps) 0

  -- at first
  pub EachOf-opening : (code : Code) → P code → EachOf P (opening_history code)
  EachOf-opening code holds = record { past = All-nil P; diagram = holds; future = All-nil P }

HasSumOf-next : (first code : Code) (r : Result Code MoveFault) → HasSumOf first code → IfOk r (HasSumOf code) → IfOk r (HasSumOf first)
HasSumOf-next first code (Ok next) is holds = record {
  accepted = holds.accepted;
  same = λ exponent. holds.same exponent ∙ is.same exponent;
}
HasSumOf-next first code (Err fault) is holds = tt

-- all histories keep the state sum
pub HasSumOf-edited : (lines : List EditLine) (code : Code) → IsTrue (accepted code)
    → EachOf (HasSumOf code) (edited lines (opening_history code)).history
HasSumOf-edited lines code is =
    EachOf-lines (HasSumOf code)
    (λ change at has. HasSumOf-next code at (moved at change) has (moves_have_the_sum at change has.accepted))
    lines (opening_history code)
    (EachOf-opening (HasSumOf code) code (record { accepted = is; same = λ exponent. refl }))

-- past and future together have at most so many diagrams
abbrev IsShort : History → Type 0
IsShort history = length history.past + length history.future ≤ UNDO_DEPTH

IsShort-change : (r : Result Code MoveFault) (history : History) → IfOk (history_after r history) IsShort
IsShort-change (Ok diagram) history =
    omega (arith, length-drop (length (history.past ++ history.diagram ∷ []) - UNDO_DEPTH) (history.past ++ history.diagram ∷ []))
IsShort-change (Err fault) history = tt

IsShort-undone : (past : List Code) (diagram : Code) (future : List Code) → IsShort (history_of past diagram future)
    → IfSome (undone (history_of past diagram future)) IsShort
IsShort-undone past diagram future short = elim (none_or_last past) [
  | inl none ↦ subst (λ p. IfSome (undone (history_of p diagram future)) IsShort) (sym none) tt
  | inr found ↦
      let fits : length found.0 + suc (length future) ≤ UNDO_DEPTH =
      omega (arith, length-append found.0 (found.1 ∷ []), ap length found.2) in
      subst (λ p. IfSome (undone (history_of p diagram future)) IsShort) (sym found.2)
      (rw (undone-push found.0 found.1 diagram future) fits)
]

IsShort-redone : (past : List Code) (diagram : Code) (future : List Code) → IsShort (history_of past diagram future)
    → IfSome (redone (history_of past diagram future)) IsShort
IsShort-redone past diagram [] short = tt
IsShort-redone past diagram (first ∷ more) short = omega (arith, length-append past (diagram ∷ []))

IsShort-line : (line : EditLine) (history : History) → IsShort history → IfOk (after_line line history) IsShort
IsShort-line (Change change) history short = IsShort-change (moved history.diagram change) history
IsShort-line Undo history short =
    ok_or-keep IsShort (undone history) EditFault.NothingToUndo (IsShort-undone history.past history.diagram history.future short)
IsShort-line Redo history short =
    ok_or-keep IsShort (redone history) EditFault.NothingToRedo (IsShort-redone history.past history.diagram history.future short)

-- no history has more
pub edited-short : (lines : List EditLine) (code : Code) → IsShort (edited lines (opening_history code)).history
edited-short lines code = edited_from-keep IsShort IsShort-line 0 lines (opening_history code) (omega arith)
