use Rattle.kh_inputs.proofs.ReadCodes.{four_slots-read}
use Rattle.kh_inputs.proofs.TextFaults.{few_crossings-read, few_loops-read}
use Rattle.kh_inputs.proofs.laws.codes_of_texts_are_small.Goals as goal

pub returns : goal.returns
returns c = record { slots = four_slots-read; crossings = few_crossings-read; loops = few_loops-read }
