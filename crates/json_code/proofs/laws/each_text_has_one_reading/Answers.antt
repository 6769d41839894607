use Rattle.json_code.proofs.Readings.{json_reading_of-sound, readings-one}
use Rattle.json_code.proofs.laws.each_text_has_one_reading.Goals as goal

pub returns : goal.returns
returns c = record { some = json_reading_of-sound; one = readings-one }
