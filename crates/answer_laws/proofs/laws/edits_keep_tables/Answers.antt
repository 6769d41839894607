use Rattle.answer_laws.proofs.EditAnswers.{one-edit, read-after}
use Rattle.answer_laws.proofs.EditedCodes.{link-after, tables-after}
use Rattle.answer_laws.proofs.laws.edits_keep_tables.Goals as goal

pub returns : goal.returns
returns c = record { answer = one-edit; link = link-after; shown = tables-after; read = read-after }
