-- There is an answer to each event.
use Rattle.std.proofs.Common.{◌≡◌, ℕ, suc, List, [], ◌∷◌, length, refl, ap}
use Rattle.kh_types.specs.Code.{Code}
use Rattle.commit_core.specs.Answering.{Counts, answers, answers_from, opening_counts, outcome}
use Rattle.commit_core.specs.declared.event.Event.{Event}

length-answers_from : (p : ℕ) (code : Code) (counts : Counts) (events : List Event)
    → length (answers_from p code counts events) ≡ length events
length-answers_from p code counts [] = refl
length-answers_from p code counts (event ∷ events) = ap suc (length-answers_from p code (outcome p code counts event).counts events)

pub length-answers : (p workers : ℕ) (code : Code) (events : List Event) → length (answers p code workers events) ≡ length events
unfolding answers
length-answers p workers code events = length-answers_from p code (opening_counts code workers) events
