-- Which replies answer what a source had left. Where its bytes are not known, a reply that is an answer whatever they are answers none of
-- them, and the line of a limit answers as many zeros as are too many.
use Rattle.std.proofs.Common.{◌≡◌, ℕ, ◌+◌, ◌<◌, List, [], length, refl, subst, arith, None, Some}
use Rattle.std.specs.Prelude.{replicate, IfSome}
use Rattle.std.proofs.lemmas.List.{length-replicate}
use Rattle.std.specs.declared.option.Option.{Option}
use Rattle.kh_runs.specs.Replies.{Reply}
use Rattle.kh_runs.specs.Runs.{AnswersSource, IsBlind}

-- a reply that is an answer whatever the bytes are
pub AnswersSource-blind : (Answers : List ℕ → Reply → Type 0) (left : Option (List ℕ)) (reply : Reply) → IsBlind Answers reply
    → AnswersSource Answers left reply
AnswersSource-blind Answers None reply blind = record { bytes = []; all = tt; answers = blind [] }
AnswersSource-blind Answers (Some bytes) reply blind = record { bytes = bytes; all = refl; answers = blind bytes }

-- the line of a limit answers all bytes that are more
pub AnswersSource-long : (Answers : List ℕ → Reply → Type 0) (left : Option (List ℕ)) (reply : Reply) (limit : ℕ)
    → IfSome left (λ all. limit < length all) → ((bytes : List ℕ) → limit < length bytes → Answers bytes reply)
    → AnswersSource Answers left reply
AnswersSource-long Answers None reply limit long answers =
    let many : List ℕ = replicate (limit + 1) 0 in
    let size : length many ≡ limit + 1 = length-replicate (limit + 1) 0 in
    record { bytes = many; all = tt; answers = answers many (omega (arith, size)) }
AnswersSource-long Answers (Some bytes) reply limit long answers = record { bytes = bytes; all = refl; answers = answers bytes long }

-- the answers of one request are answers of another
pub AnswersSource-other : (Answers Others : List ℕ → Reply → Type 0) (left : Option (List ℕ)) (reply : Reply)
    → ((bytes : List ℕ) → Answers bytes reply → Others bytes reply) → AnswersSource Answers left reply → AnswersSource Others left reply
AnswersSource-other Answers Others left reply next told =
    record { bytes = told.bytes; all = told.all; answers = next told.bytes told.answers }

-- where the bytes are known it answers them
pub AnswersSource-known : (Answers : List ℕ → Reply → Type 0) (left : Option (List ℕ)) (bytes : List ℕ) (reply : Reply) → left ≡ Some bytes
    → AnswersSource Answers left reply → Answers bytes reply
AnswersSource-known Answers left bytes reply is told =
    let same : told.bytes ≡ bytes = subst (λ (known : Option (List ℕ)). IfSome known (λ all. told.bytes ≡ all)) is told.all in
    subst (λ b. Answers b reply) same told.answers
