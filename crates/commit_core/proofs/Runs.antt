-- Runs of the core: their answers are the function of the events, and their histories are legal.
use Rattle.std.proofs.Common.{subst, ◌≡◌, ℕ, ◌∙◌, List, [], ◌∷◌, refl, sym, ap, ap₂}
use Rattle.kh_types.specs.Code.{Code}
use Rattle.commit_core.specs.States.{CoreState, opening_state}
use Rattle.commit_core.specs.Rows.{IsCoreRun}
use Rattle.commit_core.specs.Answering.{Counts, Outcome, answers, answers_from}
use Rattle.commit_core.specs.declared.event.Event.{Event}
use Rattle.commit_core.specs.declared.answer.Answer.{Answer}
use Rattle.commit_core.proofs.Counted.{counted, counted-opening, outcome-row}
use Rattle.commit_core.proofs.Sound.{sound-opening}
use Rattle.commit_core.proofs.SoundRows.{IsSoundOf, sound-row, sound-run}

answers-run : (p : ℕ) (code : Code) (before : CoreState) (events : List Event) (made : List Answer) (after : CoreState)
    → IsSoundOf p code before → IsCoreRun p before events made after → made ≡ answers_from p code (counted before) events
answers-run p code before [] [] after sound run = refl
answers-run p code before [] (answer ∷ made) after sound run = absurd run
answers-run p code before (event ∷ events) [] after sound run = absurd run
answers-run p code before (event ∷ events) (answer ∷ made) after sound (middle, row, rest) =
    let is = outcome-row p code before event answer middle sound row in
    ap₂ (λ (x : Answer) (xs : List Answer). x ∷ xs) (sym (ap (λ (o : Outcome). o.answer) is))
    (answers-run p code middle events made after (sound-row p code before event answer middle sound row) rest
    ∙ ap (λ (o : Outcome). answers_from p code o.counts events) (sym is))

pub answers-opening : (p : ℕ) (code : Code) (workers : ℕ) (events : List Event) (made : List Answer) (after : CoreState)
    → IsCoreRun p (opening_state code workers) events made after → made ≡ answers p code workers events
unfolding answers
answers-opening p code workers events made after run =
    answers-run p code (opening_state code workers) events made after (sound-opening p code workers, refl) run
    ∙ ap (λ (counts : Counts). answers_from p code counts events) (counted-opening code workers)

pub sound-reached : (p : ℕ) (code : Code) (workers : ℕ) (events : List Event) (made : List Answer) (after : CoreState)
    → IsCoreRun p (opening_state code workers) events made after → IsSoundOf p code after
sound-reached p code workers events made after run =
    sound-run p code (opening_state code workers) events made after (sound-opening p code workers, refl) run

-- a run of a core that has just been made

pub answers-made : (p : ℕ) (code : Code) (workers : ℕ) (core : CoreState) (events : List Event) (made : List Answer) (after : CoreState)
    → core ≡ opening_state code workers → IsCoreRun p core events made after → made ≡ answers p code workers events
answers-made p code workers core events made after is run =
    answers-opening p code workers events made after (subst (λ (s : CoreState). IsCoreRun p s events made after) is run)

pub diagram-made : (p : ℕ) (code : Code) (workers : ℕ) (core : CoreState) (events : List Event) (made : List Answer) (after : CoreState)
    → core ≡ opening_state code workers → IsCoreRun p core events made after → after.diagram ≡ code
diagram-made p code workers core events made after is run =
    (sound-reached p code workers events made after (subst (λ (s : CoreState). IsCoreRun p s events made after) is run)).1
