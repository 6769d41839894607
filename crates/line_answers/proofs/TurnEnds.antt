-- What turns make of a run.
use Rattle.std.proofs.Common.{◌≡◌, Bool, ◌&&◌, inl, inr, ℕ, ◌+◌, List, [], sym, subst, codes, Err}
use Rattle.kh_runs.specs.Replies.{Reply}
use Rattle.kh_runs.specs.Told.{Seen}
use Rattle.line_reader.specs.Advances.{IsSpent}
use Rattle.line_answers.specs.ListRuns.{IsListRun, end_status, line_stop, stop_status}
use Rattle.line_answers.specs.Turns.{IsLineAnswered, IsTurn}
use Rattle.line_answers.specs.declared.stop.ListStop.{ListStop}
use Rattle.line_answers.proofs.ListEnds.{IsListRun-done, IsListRun-ended, IsListRun-last, IsListRun-stopped, Progress-line}
use Rattle.line_answers.proofs.Progress.{Progress}

-- a turn more
pub Progress-turn : (Answers : ℕ → List ℕ → Reply → Type 0) (fields : List ℕ) (source_before source_between source_after sink_before sink_between sink_after : Seen)
    (buffered rest : List ℕ) (number : ℕ) (whole later : Bool)
    → Progress Answers fields source_before source_between sink_before sink_between buffered number whole
    → IsLineAnswered Answers fields number buffered rest source_between source_after sink_between sink_after (codes "\n") later
    → Progress Answers fields source_before source_after sink_before sink_after rest (number + 1) (whole && later)
Progress-turn Answers fields source_before source_between source_after sink_before sink_between sink_after buffered rest number whole later so_far turn =
    Progress-line Answers fields source_before source_between source_after sink_before sink_between sink_after buffered rest number whole later
    turn.found so_far turn.taken turn.answered turn.source_stayed turn.sink_stayed

-- the last turn
pub IsListRun-turned : (Answers : ℕ → List ℕ → Reply → Type 0) (fields : List ℕ) (source_before source_between source_after sink_before sink_between sink_after : Seen)
    (buffered rest : List ℕ) (number : ℕ) (whole later : Bool)
    → Progress Answers fields source_before source_between sink_before sink_between buffered number whole
    → IsLineAnswered Answers fields number buffered rest source_between source_after sink_between sink_after [] later
    → IsSpent rest source_after.bytes
    → IsListRun Answers fields source_before source_after sink_before sink_after (end_status (whole && later))
IsListRun-turned Answers fields source_before source_between source_after sink_before sink_between sink_after buffered rest number whole later so_far turn spent =
    IsListRun-done Answers fields source_before source_between source_after sink_before sink_between sink_after buffered rest number whole later
    turn.found so_far turn.taken spent turn.answered turn.source_stayed turn.sink_stayed

-- a turn that is not made whole
pub IsListRun-halted : (Answers : ℕ → List ℕ → Reply → Type 0) (fields : List ℕ) (source_before source_between source_after sink_before sink_between sink_after : Seen)
    (buffered rest : List ℕ) (number : ℕ) (whole : Bool) (stop : ListStop)
    → Progress Answers fields source_before source_between sink_before sink_between buffered number whole
    → IsTurn Answers fields number buffered rest source_between source_after sink_between sink_after (Err stop)
    → IsListRun Answers fields source_before source_after sink_before sink_after (stop_status stop)
IsListRun-halted Answers fields source_before source_between source_after sink_before sink_between sink_after buffered rest number whole stop so_far (inl (line, is, none)) =
    subst (λ s. IsListRun Answers fields source_before source_after sink_before sink_after (stop_status s)) (sym is)
    (subst (λ sink. IsListRun Answers fields source_before source_after sink_before sink (stop_status (line_stop line))) (sym none.unwritten)
    (IsListRun-stopped Answers fields source_before source_between source_after sink_before sink_between buffered rest number whole line so_far
    none.stopped none.rose none.stayed))
IsListRun-halted Answers fields source_before source_between source_after sink_before sink_between sink_after buffered rest number whole stop so_far (inr (inl (frame, is, turn))) =
    subst (λ s. IsListRun Answers fields source_before source_after sink_before sink_after (stop_status s)) (sym is)
    (IsListRun-ended Answers fields source_before source_between source_after sink_before sink_between sink_after buffered rest number whole
    turn.found frame so_far turn.taken turn.answered turn.rose turn.stayed turn.source_stayed)
IsListRun-halted Answers fields source_before source_between source_after sink_before sink_between sink_after buffered rest number whole stop so_far (inr (inr (frame, is, turn, spent))) =
    subst (λ s. IsListRun Answers fields source_before source_after sink_before sink_after (stop_status s)) (sym is)
    (IsListRun-last Answers fields source_before source_between source_after sink_before sink_between sink_after buffered rest number whole
    turn.found frame so_far turn.taken spent turn.answered turn.rose turn.stayed turn.source_stayed)
