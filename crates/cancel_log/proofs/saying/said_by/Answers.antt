use Rattle.std.proofs.Common.{◌∙◌, ◌++◌, List, ℕ, ap, sym}
use Rattle.std.specs.Cmp.Lexicographic.{other_text}
use Rattle.cancel_log.proofs.LineTexts.{said-nothing}
use Rattle.cancel_log.proofs.saying.said_by.Goals as goal

pub returns : goal.returns
returns c =
    said-nothing c.args.line.now
    (λ same. other_text c.args.line.now c.as_slice.result.now (sym c.if-eq.false ∙ c.eq.ensures) (same ∙ sym c.as_slice.ensures))
    (λ rest is.
    c.behind.ensures.none c.in_default.is rest (is ∙ ap (λ (front : List ℕ). front ++ rest) (sym c.as_slice-2.ensures)))
    (λ rest is.
    c.behind-2.ensures.none c.in_default-behind.is rest
    (is ∙ ap (λ (front : List ℕ). front ++ rest) (sym c.as_slice-3.ensures)))
