-- Each diagram of an edit is small, and one of the same link as the first, whose tables and state sum it has so: all moves keep the link,
-- and what is undone or made again goes among diagrams that came before.
use Rattle.std.proofs.Common.{◌≡◌, ℕ, List, IsTrue, refl, take}
use Rattle.std.specs.Prelude.{Err, IfOk, Ok, Result}
use Rattle.kh_types.specs.Acceptance.{accepted}
use Rattle.kh_types.specs.Code.{Code}
use Rattle.diagram_moves.specs.Moved.{moved}
use Rattle.diagram_moves.specs.declared.fault.MoveFault.{MoveFault}
use Rattle.undo_stack.specs.EditRuns.{diagram_after}
use Rattle.undo_stack.specs.Histories.{opening_history}
use Rattle.undo_stack.specs.declared.edit_line.EditLine.{EditLine}
use Rattle.undo_stack.proofs.HistoryLemmas.{EachOf-lines, EachOf-opening}
use Rattle.link_algebra.proofs.TurnedCodes.{small_prime-inverses}
use Rattle.link_laws.specs.Links.{AreOneLink}
use Rattle.link_laws.proofs.AddedMoves.{link-moved}
use Rattle.link_laws.proofs.Paths.{dimension-link, link-accepted, link-onward, link-own, sum-link}
use Rattle.link_laws.proofs.Tables.{table-same}
use Rattle.answer_laws.specs.Shown.{HasTablesOf}
use Rattle.answer_laws.proofs.MovedCodes.{small-moved}
use Rattle.answer_laws.proofs.SmallCodes.{IsSmall}

-- what holds of each code that a result may be
if-ok : (P : Code → Type 0) (result : Result Code MoveFault) → ((new : Code) → result ≡ Ok new → P new) → IfOk result P
if-ok P (Ok new) holds = holds new refl
if-ok P (Err fault) holds = tt

-- the diagram after some lines: each move keeps the link
pub link-after : (lines : List EditLine) (code : Code) (count : ℕ) → IsTrue (accepted code) → AreOneLink code (diagram_after lines code count)
link-after lines code count is =
    (EachOf-lines (AreOneLink code)
    (λ change at link.
    if-ok (AreOneLink code) (moved at change)
    (λ new made. link-onward code at new link (link-moved at new change (link-accepted code at link) made)))
    (take count lines) (opening_history code) (EachOf-opening (AreOneLink code) code (link-own code is))).diagram

pub tables-after : (lines : List EditLine) (code : Code) (count : ℕ) → IsTrue (accepted code)
    → HasTablesOf code (diagram_after lines code count)
tables-after lines code count is =
    let after = diagram_after lines code count in
    let link = link-after lines code count is in
    record {
      tables = λ field size. table-same field code after (dimension-link field code after (small_prime-inverses field size) link);
      sums = λ exponent. sum-link code after exponent link;
    }

pub accepted-after : (lines : List EditLine) (code : Code) (count : ℕ) → IsTrue (accepted code)
    → IsTrue (accepted (diagram_after lines code count))
accepted-after lines code count is = link-accepted code (diagram_after lines code count) (link-after lines code count is)

pub small-after : (lines : List EditLine) (code : Code) (count : ℕ) → IsSmall code → IsSmall (diagram_after lines code count)
small-after lines code count small =
    (EachOf-lines IsSmall
    (λ change at is. if-ok IsSmall (moved at change) (λ new made. small-moved at new change is.few made))
    (take count lines) (opening_history code) (EachOf-opening IsSmall code small)).diagram
