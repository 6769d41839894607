-- The events of a schedule that is read are of workers that there are.
use Rattle.std.proofs.Common.{◌≡◌, ℕ, ◌≤◌, ◌∙◌, ◌++◌, List, All, slice_index_or, ap, ap₂, sym, subst}
use Rattle.std.proofs.lemmas.List.{append_assoc}
use Rattle.std.proofs.lemmas.List.Elements.{All-map}
use Rattle.kh_types.specs.declared.limits.TheConstants.{WORKERS}
use Rattle.undo_stack.specs.Schedule.{HasWorker}
use Rattle.undo_stack.specs.declared.schedule.ScheduleLine.{ScheduleLine}
use Rattle.undo_stack.specs.declared.schedule.ScheduleLine.TheVariants as lines
use Rattle.commit_core.specs.States.{event_worker}
use Rattle.commit_core.specs.declared.event.Event.{Event}
use Rattle.kh_types.specs.Code.{Code}
use Rattle.kh_types.specs.Table.{Table, table, table_text}
use Rattle.commit_core.specs.declared.answer.Answer.{Answer}
use Rattle.commit_core.specs.Answering.{answers}
use Rattle.kh_runs.specs.Homology.{jones_line, homology_text}
use Rattle.kh_work.specs.Schedule.{answer_lines, event_of, events_of, schedule_text}

-- the worker of an event is one that there is
abbrev IsOfWorker : Event → Type 0
IsOfWorker event = (1 ≤ event_worker event) × (event_worker event ≤ WORKERS)

HasWorker-event : (line : ℕ × ScheduleLine) → HasWorker line → IsOfWorker (event_of line.1)
HasWorker-event (number, lines.Look worker block) has = has
HasWorker-event (number, lines.Commit worker) has = has
HasWorker-event (number, lines.Forget worker) has = has

pub events_of-workers : (script : List (ℕ × ScheduleLine)) (events : List Event) → events ≡ events_of script → All HasWorker script
    → All (λ event. (1 ≤ event_worker event) × (event_worker event ≤ WORKERS)) events
events_of-workers script events are all =
    subst (All IsOfWorker) (sym are)
    (All-map IsOfWorker (λ line. event_of line.1) script
    (λ k d below. HasWorker-event (slice_index_or script k d) (all k d below)))

-- the text of a run is that of its answers and its table, given what these are
pub run_text-is : (script : List (ℕ × ScheduleLine)) (answers found wanted : List Answer) (made homology : Table) (text : List ℕ)
    → answers ≡ found → found ≡ wanted → made ≡ homology → text ≡ answer_lines script answers ++ table_text made
    → text ≡ answer_lines script wanted ++ table_text homology
run_text-is script answers found wanted made homology text first second same is =
    is ∙ ap (λ xs. answer_lines script xs ++ table_text made) (first ∙ second) ∙ ap (λ t. answer_lines script wanted ++ table_text t) same

-- that of a schedule is the text of its run with the Jones line behind it
pub schedule_text-is : (field : ℕ) (code counted : Code) (script : List (ℕ × ScheduleLine)) (text line next : List ℕ) → counted ≡ code
    → text ≡ answer_lines script (answers field code WORKERS (events_of script)) ++ table_text (table field code)
    → line ≡ jones_line counted → next ≡ text ++ line → next ≡ schedule_text field code script
unfolding schedule_text homology_text
schedule_text-is field code counted script text line next same is_text is_line is_next =
    is_next
    ∙ ap₂ (λ (xs ys : List ℕ). xs ++ ys) is_text (is_line ∙ ap jones_line same)
    ∙ append_assoc (answer_lines script (answers field code WORKERS (events_of script))) (table_text (table field code)) (jones_line code)
