-- What the answers depend on of a state: the degree and the version of each block, and those of what each worker holds. The
-- counts of the opening state are the opening counts; what is looked up in the counts of a state is the count of what is looked
-- up in the state; and they change with it where a worker holds something else, or where a block has one pivot more. So each row
-- of the table of a sound state comes to the answer and the counts that the function of the counts says, by cases on the event
-- and the answer. For a look the function compares the length of the history with the turns that the block takes, for a commit
-- the two versions, and the row says how the test comes out.
use Rattle.std.proofs.Common.{◌≡◌, ℕ, ◌+◌, ◌-◌, ◌∙◌, List, [], ◌∷◌, ℤ, length, map, refl, sym, ap, ap₂, subst, Bool, true, false, cond, eq-eqb, ne_eqb, Option, None, Some, length-append}
use Rattle.std.specs.Prelude.{nat_eq}
use Rattle.std.specs.Option.{option_map}
use Rattle.std.specs.Ordering.{int_eq}
use Rattle.std.proofs.Math.ListN.{get_or-map}
use Rattle.std.proofs.lemmas.List.{map-set}
use Rattle.history_laws.specs.RankSums.{rank_sum}
use Rattle.kh_types.specs.Code.{Code}
use Rattle.kh_types.specs.Complex.{Pivot}
use Rattle.kh_types.specs.History.{block as cube_block}
use Rattle.cube_signs.specs.Blocks.{block_degrees}
use Rattle.shared_block.specs.BlockHistories.{BlockHistory, block_with}
use Rattle.shared_block.specs.Commits.{with_pivot}
use Rattle.commit_core.specs.States.{Holding, CoreState, block_at, held_by, holding_of, opening_state, with_commit, with_held}
use Rattle.commit_core.specs.Answering.{Count, Counts, commit_held, commit_to, count_at, count_held, count_of, counts_with, forget_held, with_count, look_at, opening_counts, outcome, outcome_of, version_raised, turns}
use Rattle.commit_core.specs.Rows.{Commits, Forgets, ComesTo, LooksAt, turns_of}
use Rattle.commit_core.specs.declared.event.Event.{Event}
use Rattle.commit_core.specs.declared.event.Event.TheVariants.{Look, Commit, Forget}
use Rattle.commit_core.specs.declared.answer.Answer.{Answer}
use Rattle.commit_core.specs.declared.answer.Answer.TheVariants.{Looked, Zero, Committed, Stale, Idle, Forgot, NoBlock}
use Rattle.commit_core.proofs.BlockChanges.{block_at-place, changed}
use Rattle.commit_core.proofs.Lists.{find-map, map-replicate}
use Rattle.commit_core.proofs.SoundRows.{IsSoundOf}

abbrev pub count_of_block : BlockHistory → Count
count_of_block held = count_of held.degree (length held.history)

abbrev pub count_of_held : Holding → Count
count_of_held held = count_of held.block held.copy.version

abbrev pub counted : CoreState → Counts
counted state = counts_with (map count_of_block state.blocks) (map (option_map count_of_held) state.workers)

-- at first

opening-blocks : (code : Code) (degrees : List ℤ)
    → map count_of_block (map (λ j. block_with code j []) degrees) ≡ map (λ j. count_of j 0) degrees
opening-blocks code [] = refl
opening-blocks code (j ∷ degrees) = ap (λ (counts : List Count). count_of j 0 ∷ counts) (opening-blocks code degrees)

pub counted-opening : (code : Code) (workers : ℕ) → counted (opening_state code workers) ≡ opening_counts code workers
counted-opening code workers =
    ap₂ counts_with (opening-blocks code (block_degrees code)) (map-replicate (option_map count_of_held) workers None)

-- what is read of it

pub count_at-counted : (state : CoreState) (j : ℤ) → count_at (counted state) j ≡ option_map count_of_block (block_at state j)
count_at-counted state j = find-map (λ count. int_eq count.block j) count_of_block state.blocks

pub count_held-counted : (state : CoreState) (worker : ℕ)
    → count_held (counted state) worker ≡ option_map count_of_held (held_by state worker)
count_held-counted state worker = get_or-map (option_map count_of_held) state.workers (worker - 1) None

-- how it changes

pub counted-with_held : (state : CoreState) (worker : ℕ) (held : Option Holding)
    → counted (with_held state worker held) ≡ with_count (counted state) worker (option_map count_of_held held)
counted-with_held state worker held =
    ap (counts_with (map count_of_block state.blocks)) (map-set (option_map count_of_held) state.workers (worker - 1) held)

abbrev raised_at : ℤ → Count → Count
raised_at j count = cond (int_eq count.block j) (count_of count.block (count.version + 1)) count

count-changed : (j : ℤ) (pivot : Pivot) (held : BlockHistory)
    → count_of_block (changed j pivot held) ≡ raised_at j (count_of_block held)
count-changed j pivot held = by_test (int_eq held.degree j)
  where
    by_test : (test : Bool)
        → count_of_block (cond test (with_pivot held pivot) held)
        ≡ cond test (count_of held.degree (length held.history + 1)) (count_of_block held)
    by_test true = ap (count_of held.degree) (length-append held.history (pivot ∷ []))
    by_test false = refl

counts-changed : (j : ℤ) (pivot : Pivot) (blocks : List BlockHistory)
    → map count_of_block (map (changed j pivot) blocks) ≡ map (raised_at j) (map count_of_block blocks)
counts-changed j pivot [] = refl
counts-changed j pivot (held ∷ blocks) =
    ap₂ (λ (x : Count) (xs : List Count). x ∷ xs) (count-changed j pivot held) (counts-changed j pivot blocks)

pub counted-with_commit : (state : CoreState) (j : ℤ) (pivot : Pivot) → counted (with_commit state j pivot) ≡ version_raised (counted state) j
counted-with_commit state j pivot =
    ap (λ (blocks : List Count). counts_with blocks (map (option_map count_of_held) state.workers)) (counts-changed j pivot state.blocks)

-- each row comes to what the function says

same_outcome : (p : ℕ) (answer : Answer) (state after : CoreState) (worker : ℕ) → after ≡ with_held state worker None
    → outcome_of answer (with_count (counted state) worker None) ≡ outcome_of answer (counted after)
same_outcome p answer state after worker is =
    ap (outcome_of answer) (sym (counted-with_held state worker None)) ∙ ap (λ (s : CoreState). outcome_of answer (counted s)) (sym is)

turns-block : (p : ℕ) (code : Code) (state : CoreState) (j : ℤ) (held : BlockHistory) → IsSoundOf p code state
    → block_at state j ≡ Some held → turns_of p held ≡ turns p code held.degree
turns-block p code state j held (sound, of_code) there =
    let at = block_at-place state j held there in
    let same : held.diagram ≡ code =
    subst (λ (x : BlockHistory). x.diagram ≡ state.diagram) (at.2 held) (sound.blocks.diagram at.0 held at.1) ∙ of_code in
    ap (λ (c : Code). rank_sum p (cube_block p c held.degree)) same

looks : (p : ℕ) (code : Code) (counts : Counts) (worker : ℕ) (count : Count) (test : Bool)
    → nat_eq count.version (turns p code count.block) ≡ test
    → look_at p code counts worker (Some count)
    ≡ cond test (outcome_of Zero (with_count counts worker None)) (outcome_of (Looked count.version) (with_count counts worker (Some count)))
looks p code counts worker count test is =
    ap
    (λ (b : Bool).
    cond b (outcome_of Zero (with_count counts worker None)) (outcome_of (Looked count.version) (with_count counts worker (Some count))))
    is

outcome-look : (p : ℕ) (code : Code) (before : CoreState) (worker : ℕ) (j : ℤ) (hint : ℕ) (answer : Answer) (after : CoreState)
    → IsSoundOf p code before → LooksAt p before worker j answer after
    → outcome p code (counted before) (Look worker j hint) ≡ outcome_of answer (counted after)
outcome-look p code before worker j hint NoBlock after sound (none, is) =
    ap (look_at p code (counted before) worker) (count_at-counted before j ∙ ap (option_map count_of_block) none)
    ∙ same_outcome p NoBlock before after worker is
outcome-look p code before worker j hint Zero after sound (held, there, all, is) =
    ap (look_at p code (counted before) worker) (count_at-counted before j ∙ ap (option_map count_of_block) there)
    ∙ looks p code (counted before) worker (count_of_block held) true
    (eq-eqb (length held.history) (turns p code held.degree) (all ∙ turns-block p code before j held sound there))
    ∙ same_outcome p Zero before after worker is
outcome-look p code before worker j hint (Looked version) after sound (held, there, more, now, (copy, is_copy, is)) =
    let count = count_of_block held in
    let same : count_of j copy.version ≡ count =
    ap₂ count_of (sym (block_at-place before j held there).3) is_copy.version in
    ap (look_at p code (counted before) worker) (count_at-counted before j ∙ ap (option_map count_of_block) there)
    ∙ looks p code (counted before) worker count false
    (ne_eqb (length held.history) (turns p code held.degree) (λ all. more (all ∙ sym (turns-block p code before j held sound there))))
    ∙ ap (λ (c : Count). outcome_of (Looked (length held.history)) (with_count (counted before) worker (Some c))) (sym same)
    ∙ ap₂ (λ (v : ℕ) (c : Counts). outcome_of (Looked v) c) (sym now)
    (sym (counted-with_held before worker (Some (holding_of j copy))) ∙ ap counted (sym is))
outcome-look p code before worker j hint (Committed version) after sound row = absurd row
outcome-look p code before worker j hint (Stale looked now) after sound row = absurd row
outcome-look p code before worker j hint Idle after sound row = absurd row
outcome-look p code before worker j hint Forgot after sound row = absurd row

commit-held : (before : CoreState) (worker : ℕ) (held : Holding) (block : BlockHistory) → held_by before worker ≡ Some held
    → block_at before held.block ≡ Some block
    → commit_held (counted before) worker (count_held (counted before) worker)
    ≡ commit_to (counted before) worker (count_of_held held) (Some (count_of_block block))
commit-held before worker held block holds there =
    ap (commit_held (counted before) worker) (count_held-counted before worker ∙ ap (option_map count_of_held) holds)
    ∙ ap (commit_to (counted before) worker (count_of_held held))
    (count_at-counted before held.block ∙ ap (option_map count_of_block) there)

commits : (counts : Counts) (worker : ℕ) (looked count : Count) (test : Bool) → nat_eq looked.version count.version ≡ test
    → commit_to counts worker looked (Some count)
    ≡ cond test (outcome_of (Committed (count.version + 1)) (with_count (version_raised counts count.block) worker None))
    (outcome_of (Stale looked.version count.version) (with_count counts worker None))
commits counts worker looked count test is =
    ap
    (λ (b : Bool).
    cond b (outcome_of (Committed (count.version + 1)) (with_count (version_raised counts count.block) worker None))
    (outcome_of (Stale looked.version count.version) (with_count counts worker None)))
    is

outcome-commit : (p : ℕ) (code : Code) (before : CoreState) (worker : ℕ) (answer : Answer) (after : CoreState)
    → Commits before worker answer after → outcome p code (counted before) (Commit worker) ≡ outcome_of answer (counted after)
outcome-commit p code before worker Idle after (none, is) =
    ap (commit_held (counted before) worker) (count_held-counted before worker ∙ ap (option_map count_of_held) none)
    ∙ ap (λ (s : CoreState). outcome_of Idle (counted s)) (sym is)
outcome-commit p code before worker (Stale looked now) after (held, block, holds, there, is_looked, is_now, other, is) =
    commit-held before worker held block holds there
    ∙ commits (counted before) worker (count_of_held held) (count_of_block block) false
    (ne_eqb held.copy.version (length block.history) (λ same. other (is_looked ∙ same ∙ sym is_now)))
    ∙ ap₂ (λ (v w : ℕ). outcome_of (Stale v w) (with_count (counted before) worker None)) (sym is_looked) (sym is_now)
    ∙ same_outcome p (Stale looked now) before after worker is
outcome-commit p code before worker (Committed version) after (held, block, holds, there, same, more, is) =
    let middle = with_commit before held.block held.copy.parts.pivot in
    commit-held before worker held block holds there
    ∙ commits (counted before) worker (count_of_held held) (count_of_block block) true
    (eq-eqb held.copy.version (length block.history) same)
    ∙ ap₂ (λ (v : ℕ) (c : Counts). outcome_of (Committed v) (with_count c worker None)) (sym more)
    (ap (version_raised (counted before)) (block_at-place before held.block block there).3
    ∙ sym (counted-with_commit before held.block held.copy.parts.pivot))
    ∙ same_outcome p (Committed version) middle after worker is
outcome-commit p code before worker NoBlock after row = absurd row
outcome-commit p code before worker Zero after row = absurd row
outcome-commit p code before worker (Looked version) after row = absurd row
outcome-commit p code before worker Forgot after row = absurd row

outcome-forget : (p : ℕ) (code : Code) (before : CoreState) (worker : ℕ) (answer : Answer) (after : CoreState)
    → Forgets before worker answer after → outcome p code (counted before) (Forget worker) ≡ outcome_of answer (counted after)
outcome-forget p code before worker Forgot after ((held, holds), is) =
    ap (forget_held (counted before) worker) (count_held-counted before worker ∙ ap (option_map count_of_held) holds)
    ∙ same_outcome p Forgot before after worker is
outcome-forget p code before worker Idle after (none, is) =
    ap (forget_held (counted before) worker) (count_held-counted before worker ∙ ap (option_map count_of_held) none)
    ∙ ap (λ (s : CoreState). outcome_of Idle (counted s)) (sym is)
outcome-forget p code before worker NoBlock after row = absurd row
outcome-forget p code before worker Zero after row = absurd row
outcome-forget p code before worker (Looked version) after row = absurd row
outcome-forget p code before worker (Stale looked now) after row = absurd row
outcome-forget p code before worker (Committed version) after row = absurd row

pub outcome-row : (p : ℕ) (code : Code) (before : CoreState) (event : Event) (answer : Answer) (after : CoreState) → IsSoundOf p code before
    → ComesTo p before event answer after → outcome p code (counted before) event ≡ outcome_of answer (counted after)
outcome-row p code before (Look worker j hint) answer after sound row =
    outcome-look p code before worker j hint answer after sound row
outcome-row p code before (Commit worker) answer after sound row = outcome-commit p code before worker answer after row
outcome-row p code before (Forget worker) answer after sound row = outcome-forget p code before worker answer after row
