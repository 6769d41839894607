use Rattle.gauss_code.proofs.ReadingLemmas.{IsGaussReading-one, IsGaussReading-reading_of, reading_of}
use Rattle.gauss_code.proofs.laws.reading.each_text_has_one_reading.Goals as goal

pub returns : goal.returns
returns c = record { some = λ text. (reading_of text, IsGaussReading-reading_of text); one = IsGaussReading-one }
