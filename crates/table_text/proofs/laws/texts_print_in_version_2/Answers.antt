use Rattle.table_text.proofs.VersionTexts.{read-printed, prints-second, prints-first}
use Rattle.table_text.proofs.laws.texts_print_in_version_2.Goals as goal

pub returns-clause-read : goal.returns-clause-read
returns-clause-read c = read-printed

pub returns-clause-second : goal.returns-clause-second
returns-clause-second c = prints-second

pub returns-clause-first : goal.returns-clause-first
returns-clause-first c = prints-first
