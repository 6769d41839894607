use Rattle.std.proofs.Common.{refl}
use Rattle.kh_work.proofs.AnswerLemmas.{IsAnswer-jones}
use Rattle.kh_runs.specs.Homology.{jones_line}
use Rattle.kh_work.proofs.laws.accepted_diagrams_are_answered_by_their_polynomial.Goals as goal

pub returns : goal.returns
unfolding jones_line
returns c = record { line = λ code. refl; answer = IsAnswer-jones }
