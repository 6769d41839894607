-- The answers to events as a function of them: of a block only the length of its history counts, and of what a worker holds only
-- the block and the version.
use Rattle.std.specs.Prelude.{ℕ, ◌+◌, ◌-◌, ℤ, List, [], ◌∷◌, map, replicate, if◌then◌else◌, nat_eq, slice_index_or, slice_set, Option, None, Some}
use Rattle.std.specs.List.{find}
use Rattle.std.specs.Ordering.{int_eq}
use Rattle.kh_types.specs.Code.{Code}
use Rattle.kh_types.specs.History.{block}
use Rattle.history_laws.specs.RankSums.{rank_sum}
use Rattle.cube_signs.specs.Blocks.{block_degrees}
use Rattle.commit_core.specs.declared.event.Event.{Event}
use Rattle.commit_core.specs.declared.event.Event.TheVariants.{Look, Commit, Forget}
use Rattle.commit_core.specs.declared.answer.Answer.{Answer}
use Rattle.commit_core.specs.declared.answer.Answer.TheVariants.{Looked, Zero, Committed, Stale, Idle, Forgot, NoBlock}

-- a block by its quantum degree, with a version, a length of its history
pub record Count : Type 0 where
  pub block : ℤ
  pub version : ℕ

-- these two
abbrev pub count_of : ℤ → ℕ → Count
count_of j version = record { block = j; version = version }

-- the version of each block, ascending by degree, and for each worker the block that it holds, at the version at which it looked
pub record Counts : Type 0 where
  pub blocks : List Count
  pub workers : List (Option Count)

-- these two
abbrev pub counts_with : List Count → List (Option Count) → Counts
counts_with blocks workers = record { blocks = blocks; workers = workers }

-- at first all versions are 0, and no worker holds anything
abbrev pub opening_counts : Code → ℕ → Counts
opening_counts code workers = counts_with (map (λ j. count_of j 0) (block_degrees code)) (replicate workers None)

-- how many turns the block at j takes: the ranks of all its differentials together
abbrev pub turns : ℕ → Code → ℤ → ℕ
turns p code j = rank_sum p (block p code j)

-- the count of the block at a quantum degree, if there is one
abbrev pub count_at : Counts → ℤ → Option Count
count_at counts j = find (λ count. int_eq count.block j) counts.blocks

-- what a worker holds
abbrev pub count_held : Counts → ℕ → Option Count
count_held counts worker = slice_index_or counts.workers (worker - 1) None

-- the worker holds this from now on
abbrev pub with_count : Counts → ℕ → Option Count → Counts
with_count counts worker held = counts_with counts.blocks (slice_set counts.workers (worker - 1) held)

-- the version of the block at a quantum degree is one more from now on
abbrev pub version_raised : Counts → ℤ → Counts
version_raised counts j =
    counts_with (map (λ count. if int_eq count.block j then count_of count.block (count.version + 1) else count) counts.blocks) counts.workers

-- an answer, and the counts behind it
pub record Outcome : Type 0 where
  pub answer : Answer
  pub counts : Counts

-- these two
abbrev pub outcome_of : Answer → Counts → Outcome
outcome_of answer counts = record { answer = answer; counts = counts }

-- a worker looks at this block, if it is one
abbrev pub look_at : ℕ → Code → Counts → ℕ → Option Count → Outcome
look_at p code counts worker None = outcome_of NoBlock (with_count counts worker None)
look_at p code counts worker (Some count) =
    if nat_eq count.version (turns p code count.block) then outcome_of Zero (with_count counts worker None)
    else outcome_of (Looked count.version) (with_count counts worker (Some count))

-- a worker commits what it looked at to this block
abbrev pub commit_to : Counts → ℕ → Count → Option Count → Outcome
commit_to counts worker looked None = outcome_of Idle counts
commit_to counts worker looked (Some count) =
    if nat_eq looked.version count.version
    then outcome_of (Committed (count.version + 1)) (with_count (version_raised counts count.block) worker None)
    else outcome_of (Stale looked.version count.version) (with_count counts worker None)

-- a worker commits what it holds, if it holds anything
abbrev pub commit_held : Counts → ℕ → Option Count → Outcome
commit_held counts worker None = outcome_of Idle counts
commit_held counts worker (Some looked) = commit_to counts worker looked (count_at counts looked.block)

-- a worker forgets what it holds, if it holds anything
abbrev pub forget_held : Counts → ℕ → Option Count → Outcome
forget_held counts worker None = outcome_of Idle counts
forget_held counts worker (Some looked) = outcome_of Forgot (with_count counts worker None)

-- what an event comes to
abbrev pub outcome : ℕ → Code → Counts → Event → Outcome
outcome p code counts (Look worker j hint) = look_at p code counts worker (count_at counts j)
outcome p code counts (Commit worker) = commit_held counts worker (count_held counts worker)
outcome p code counts (Forget worker) = forget_held counts worker (count_held counts worker)

-- the answers to events, one after another
abbrev pub answers_from : ℕ → Code → Counts → List Event → List Answer
answers_from p code counts [] = []
answers_from p code counts (event ∷ events) =
    (outcome p code counts event).answer ∷ answers_from p code (outcome p code counts event).counts events

-- the answers to all events, over the field of p elements, with so many workers
unfoldable pub answers : ℕ → Code → ℕ → List Event → List Answer
answers p code workers events = answers_from p code (opening_counts code workers) events
