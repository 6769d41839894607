use Rattle.kh_lex.proofs.SectionLoops.{IsCounted-line}
use Rattle.kh_lex.proofs.line.line_count.Goals as goal

-- one more line
pub loop-place-preserved : goal.loop-place-preserved
loop-place-preserved c =
    IsCounted-line c.args.text.now c.line_at.result.now c.loop-place.place c.loop-place.count c.loop-place-test.true
    c.line_at.ensures.line c.loop-place.invariant
