use Rattle.json_code.proofs.Crossings.{number_in-whole_number, whole_number-number_in}
use Rattle.json_code.proofs.laws.as_u64_gives_whole_numbers.Goals as goal

pub returns : goal.returns
returns c = λ value n. (number_in-whole_number value n, whole_number-number_in value n)
