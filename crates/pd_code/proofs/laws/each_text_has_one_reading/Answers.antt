use Rattle.pd_code.proofs.ReadingLemmas.{IsPdReading-one, IsPdReading-reading_of, reading_of}
use Rattle.pd_code.proofs.laws.each_text_has_one_reading.Goals as goal

pub returns : goal.returns
returns c = record { some = λ text. (reading_of text, IsPdReading-reading_of text); one = IsPdReading-one }
