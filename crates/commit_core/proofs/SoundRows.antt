-- Each row of the core's table keeps what a core keeps, and so does each run.
use Rattle.std.proofs.Common.{subst₂, get_or, length, take, ◌<◌, ◌+◌, ◌≡◌, ℕ, List, [], ◌∷◌, ◌++◌, ℤ, refl, sym, subst, None, Some}
use Rattle.std.proofs.lemmas.List.{take_more}
use Rattle.kh_types.specs.Code.{Code}
use Rattle.commit_core.specs.States.{IsSound, CoreState, holding_of, with_commit, with_held}
use Rattle.commit_core.specs.Rows.{Commits, Forgets, ComesTo, IsCoreRun, LooksAt}
use Rattle.commit_core.specs.declared.event.Event.{Event}
use Rattle.commit_core.specs.declared.event.Event.TheVariants.{Look, Commit, Forget}
use Rattle.commit_core.specs.declared.answer.Answer.{Answer}
use Rattle.commit_core.specs.declared.answer.Answer.TheVariants.{Looked, Zero, Committed, Stale, Idle, Forgot, NoBlock}
use Rattle.commit_core.proofs.Sound.{copy-held, held-copy, held_by-sound, sound-commit, sound-held}

-- it keeps this of this diagram
abbrev pub IsSoundOf : ℕ → Code → CoreState → Type 0
IsSoundOf p code state = IsSound p state × (state.diagram ≡ code)

sound-none : (p : ℕ) (code : Code) (state after : CoreState) (worker : ℕ) → IsSoundOf p code state → after ≡ with_held state worker None
    → IsSoundOf p code after
sound-none p code state after worker (sound, of_code) is =
    subst (IsSoundOf p code) (sym is) (sound-held p state worker None sound tt, of_code)

sound-look : (p : ℕ) (code : Code) (before : CoreState) (worker : ℕ) (j : ℤ) (answer : Answer) (after : CoreState) → IsSoundOf p code before
    → LooksAt p before worker j answer after → IsSoundOf p code after
sound-look p code before worker j NoBlock after sound row = sound-none p code before after worker sound row.1
sound-look p code before worker j Zero after sound row = sound-none p code before after worker sound row.3
sound-look p code before worker j (Looked version) after sound (held, there, more, now, (copy, is, is_after)) =
    let holds = held-copy p before j held copy there is in
    subst (IsSoundOf p code) (sym is_after) (sound-held p before worker (Some (holding_of j copy)) sound.0 holds, sound.1)
sound-look p code before worker j (Committed version) after sound row = absurd row
sound-look p code before worker j (Stale looked now) after sound row = absurd row
sound-look p code before worker j Idle after sound row = absurd row
sound-look p code before worker j Forgot after sound row = absurd row

sound-commits : (p : ℕ) (code : Code) (before : CoreState) (worker : ℕ) (answer : Answer) (after : CoreState) → IsSoundOf p code before
    → Commits before worker answer after → IsSoundOf p code after
sound-commits p code before worker Idle after sound row = subst (IsSoundOf p code) (sym row.1) sound
sound-commits p code before worker (Stale looked now) after sound (held, block, holds, there, is_looked, is_now, other, is_after) =
    sound-none p code before after worker sound is_after
sound-commits p code before worker (Committed version) after sound (held, block, holds, there, same, more, is_after) =
    let is = copy-held p before held block (held_by-sound p before worker held sound.0 holds) there same in
    sound-none p code (with_commit before held.block held.copy.parts.pivot) after worker
    (sound-commit p before held.block held.copy.parts.pivot block sound.0 there is.pivot, sound.1) is_after
sound-commits p code before worker NoBlock after sound row = absurd row
sound-commits p code before worker Zero after sound row = absurd row
sound-commits p code before worker (Looked version) after sound row = absurd row
sound-commits p code before worker Forgot after sound row = absurd row

sound-forgets : (p : ℕ) (code : Code) (before : CoreState) (worker : ℕ) (answer : Answer) (after : CoreState) → IsSoundOf p code before
    → Forgets before worker answer after → IsSoundOf p code after
sound-forgets p code before worker Forgot after sound row = sound-none p code before after worker sound row.1
sound-forgets p code before worker Idle after sound row = subst (IsSoundOf p code) (sym row.1) sound
sound-forgets p code before worker NoBlock after sound row = absurd row
sound-forgets p code before worker Zero after sound row = absurd row
sound-forgets p code before worker (Looked version) after sound row = absurd row
sound-forgets p code before worker (Stale looked now) after sound row = absurd row
sound-forgets p code before worker (Committed version) after sound row = absurd row

pub sound-row : (p : ℕ) (code : Code) (before : CoreState) (event : Event) (answer : Answer) (after : CoreState) → IsSoundOf p code before
    → ComesTo p before event answer after → IsSoundOf p code after
sound-row p code before (Look worker j hint) answer after sound row = sound-look p code before worker j answer after sound row
sound-row p code before (Commit worker) answer after sound row = sound-commits p code before worker answer after sound row
sound-row p code before (Forget worker) answer after sound row = sound-forgets p code before worker answer after sound row

pub sound-run : (p : ℕ) (code : Code) (before : CoreState) (events : List Event) (answers : List Answer) (after : CoreState)
    → IsSoundOf p code before → IsCoreRun p before events answers after → IsSoundOf p code after
sound-run p code before [] [] after sound run = subst (IsSoundOf p code) (sym run) sound
sound-run p code before [] (answer ∷ answers) after sound run = absurd run
sound-run p code before (event ∷ events) [] after sound run = absurd run
sound-run p code before (event ∷ events) (answer ∷ answers) after sound (middle, row, rest) =
    sound-run p code middle events answers after (sound-row p code before event answer middle sound row) rest

-- runs are put together

pub run-append : (p : ℕ) (before middle after : CoreState) (first second : List Event) (answers more : List Answer)
    → IsCoreRun p before first answers middle → IsCoreRun p middle second more after
    → IsCoreRun p before (first ++ second) (answers ++ more) after
run-append p before middle after [] second [] more run rest = subst (λ (state : CoreState). IsCoreRun p state second more after) run rest
run-append p before middle after [] second (answer ∷ answers) more run rest = absurd run
run-append p before middle after (event ∷ first) second [] more run rest = absurd run
run-append p before middle after (event ∷ first) second (answer ∷ answers) more (next, row, run) rest =
    (next, row, run-append p next middle after first second answers more run rest)

pub run-push : (p : ℕ) (before middle after : CoreState) (events : List Event) (answers : List Answer) (event : Event) (answer : Answer)
    → IsCoreRun p before events answers middle → ComesTo p middle event answer after
    → IsCoreRun p before (events ++ event ∷ []) (answers ++ answer ∷ []) after
run-push p before middle after events answers event answer run row =
    run-append p before middle after events (event ∷ []) answers (answer ∷ []) run (after, row, refl)

-- the run of the first events, and one more
pub run-more : (p : ℕ) (before middle after : CoreState) (events : List Event) (k : ℕ) (d : Event) (answers next : List Answer)
    (answer : Answer) → k < length events → IsCoreRun p before (take k events) answers middle
    → ComesTo p middle (get_or events k d) answer after → next ≡ answers ++ answer ∷ [] → IsCoreRun p before (take (k + 1) events) next after
run-more p before middle after events k d answers next answer below run row is_next =
    subst₂ (λ (es : List Event) (made : List Answer). IsCoreRun p before es made after) (sym (take_more events k d below)) (sym is_next)
    (run-push p before middle after (take k events) answers (get_or events k d) answer run row)
