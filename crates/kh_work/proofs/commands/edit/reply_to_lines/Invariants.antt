use Rattle.kh_work.proofs.EditLemmas.{IsEditSoFar}
use Rattle.kh_work.proofs.commands.edit.reply_to_lines.Given as goal

-- the lines before the place are done
abbrev pub invariant-lines : goal.invariant-lines
invariant-lines l = IsEditSoFar l.diagram l.script l.at l.editor l.text.items
