use Rattle.std.proofs.Common.{arith}
use Rattle.line_answers.proofs.HeldBytes.{IfOk-long, IfOk-short}
use Rattle.line_answers.proofs.frame.reply_to_line.Goals as goal

-- the line is too long
pub returns-then-bytes-gt-INPUT_BYTES : goal.returns-then-bytes-gt-INPUT_BYTES
returns-then-bytes-gt-INPUT_BYTES g c =
    IfOk-long c.too_many_bytes.result c.args.bytes.now (g.A.Answering.answers c.args.answering.now c.args.field)
    (omega (arith, c.if-bytes-gt-INPUT_BYTES.true)) c.too_many_bytes.ensures

-- it is answered
pub returns-else-bytes-gt-INPUT_BYTES : goal.returns-else-bytes-gt-INPUT_BYTES
returns-else-bytes-gt-INPUT_BYTES g c =
    IfOk-short c.reply.result c.args.bytes.now (g.A.Answering.answers c.args.answering.now c.args.field)
    (omega (arith, c.if-bytes-gt-INPUT_BYTES.false)) c.reply.ensures
