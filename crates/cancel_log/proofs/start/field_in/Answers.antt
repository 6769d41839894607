use Rattle.std.proofs.Common.{◌∙◌, sym}
use Rattle.std.specs.Cmp.Lexicographic.{same_text}
use Rattle.cancel_log.proofs.StartLines.{prime-two, prime-three, prime-five, prime-seven}
use Rattle.cancel_log.proofs.start.field_in.Goals as goal

pub returns-then-eq : goal.returns-then-eq
returns-then-eq c =
    prime-two c.args.line.now (same_text c.args.line.now c.as_slice.result.now (sym c.if-eq.true ∙ c.eq.ensures) ∙ c.as_slice.ensures)

pub returns-then-eq-2 : goal.returns-then-eq-2
returns-then-eq-2 c =
    prime-three c.args.line.now (same_text c.args.line.now c.as_slice-else-eq.result.now (sym c.if-eq-2.true ∙ c.eq-else-eq.ensures) ∙ c.as_slice-else-eq.ensures)

pub returns-then-eq-3 : goal.returns-then-eq-3
returns-then-eq-3 c =
    prime-five c.args.line.now (same_text c.args.line.now c.as_slice-else-eq-2.result.now (sym c.if-eq-3.true ∙ c.eq-else-eq-2.ensures) ∙ c.as_slice-else-eq-2.ensures)

pub returns-then-eq-4 : goal.returns-then-eq-4
returns-then-eq-4 c =
    prime-seven c.args.line.now (same_text c.args.line.now c.as_slice-else-eq-3.result.now (sym c.if-eq-4.true ∙ c.eq-else-eq-3.ensures) ∙ c.as_slice-else-eq-3.ensures)
