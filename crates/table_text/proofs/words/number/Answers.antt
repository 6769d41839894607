use Rattle.std.proofs.Common.{◌∙◌}
use Rattle.table_text.proofs.LineTexts.{number-written}
use Rattle.table_text.proofs.words.number.Goals as goal

pub returns : goal.returns
returns c number small is = c.signed_number_of.ensures.number ∙ number-written number c.args.word.now small is
