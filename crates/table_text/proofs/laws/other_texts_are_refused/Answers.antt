use Rattle.std.proofs.Common.{◌∙◌, sym}
use Rattle.std.proofs.lemmas.List.{append_cancel_left}
use Rattle.table_text.specs.Versions.{table_lines, version_line}
use Rattle.table_text.proofs.ReadingLemmas.{refused, not_both}
use Rattle.table_text.proofs.TableLines.{table_lines-injective}
use Rattle.table_text.proofs.VersionTexts.{table_text-lines}
use Rattle.table_text.proofs.laws.other_texts_are_refused.Goals as goal

pub returns-clause-one : goal.returns-clause-one
returns-clause-one c = λ table other is other_is same.
    table_lines-injective table other is other_is
    (append_cancel_left version_line (table_lines table) (table_lines other)
    (sym (table_text-lines table) ∙ same ∙ table_text-lines other))

pub returns-clause-refused : goal.returns-clause-refused
returns-clause-refused c = λ text. ((λ found. not_both text found.0 found.1), refused text)
