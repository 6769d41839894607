-- The undo machine: diagrams with a past and a future.
use Rattle.std.specs.Prelude.{◌-◌, List, [], ◌∷◌, ◌++◌, All, length, take, drop, slice_get, Option, option_map, Result, Ok, Err}
use Rattle.kh_types.specs.Code.{Code}
use Rattle.circular_buffer.specs.Buffer.{keep_last, last_item}
use Rattle.undo_stack.specs.declared.limits.TheConstants.{UNDO_DEPTH}

-- a diagram with those before it, the last at the end, and those that were undone, the last undone first
pub record History : Type 0 where
  pub past : List Code
  pub diagram : Code
  pub future : List Code

-- the history of these three
abbrev pub history_of : List Code → Code → List Code → History
history_of past diagram future = record { past = past; diagram = diagram; future = future }

-- the history at first: there is no past and no future
abbrev pub opening_history : Code → History
opening_history diagram = history_of [] diagram []

-- the history after a change: the diagram before is the last of the past, of which the last UNDO_DEPTH are kept, and the future is empty
abbrev pub changed : Code → History → History
changed diagram history = history_of (keep_last UNDO_DEPTH (history.past ++ history.diagram ∷ [])) diagram []

-- the history after a change, or the same where it is refused
abbrev pub after_change : {F : Type 0} → Result Code F → History → History
after_change (Ok diagram) history = changed diagram history
after_change (Err _) history = history

-- the history after an undo: the last of the past is the diagram, and the one before is the first of the future; without a
-- past nothing can be undone
abbrev pub undone : History → Option History
undone history =
    option_map (λ last. history_of (take (length history.past - 1) history.past) last (history.diagram ∷ history.future))
    (last_item history.past)

-- the history after a redo: the first of the future is the diagram, and the one before is the last of the past; without a
-- future nothing can be redone
abbrev pub redone : History → Option History
redone history =
    option_map (λ first. history_of (history.past ++ history.diagram ∷ []) first (drop 1 history.future)) (slice_get history.future 0)

-- all diagrams of a history
pub record EachOf (P : Code → Type 0) (history : History) : Type 0 where
  pub past : All P history.past
  pub diagram : P history.diagram
  pub future : All P history.future
