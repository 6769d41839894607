use Rattle.std.proofs.Common.{◌≡◌, true, ap, sym, ◌∙◌}
use Rattle.line_reader.specs.Lines.{Kept, has_code}
use Rattle.line_answers.proofs.list.answer_over.Goals as goal

-- the line is not blank
pub returns-then-has_code-clause-answered : goal.returns-then-has_code-clause-answered
returns-then-has_code-clause-answered g c = λ line is.
    let coded : has_code line ≡ true = sym (ap (λ (k : Kept). k.has_code) is) ∙ sym c.has_code.ensures ∙ c.if-has_code.true in
    rw coded (c.answer_over_each.ensures.answered line is)
