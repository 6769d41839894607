use Rattle.std.proofs.Common.{rules}
use Rattle.table_text.proofs.LineTexts.{IsFieldIn-two, IsFieldIn-three, IsFieldIn-five, IsFieldIn-seven}
use Rattle.table_text.proofs.lines.field_in.Goals as goal

pub returns-then-eq : goal.returns-then-eq
returns-then-eq c = IsFieldIn-two c.args.line.now (search rules)

pub returns-then-eq-2 : goal.returns-then-eq-2
returns-then-eq-2 c = IsFieldIn-three c.args.line.now (search rules)

pub returns-then-eq-3 : goal.returns-then-eq-3
returns-then-eq-3 c = IsFieldIn-five c.args.line.now (search rules)

pub returns-then-eq-4 : goal.returns-then-eq-4
returns-then-eq-4 c = IsFieldIn-seven c.args.line.now (search rules)
