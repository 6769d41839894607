use Rattle.tangle_maps.proofs.LawLemmas.{reduced-zero, reduced-number, number-told}
use Rattle.tangle_maps.proofs.laws.reduced_sums_tell_numbers.Goals as goal

pub returns : goal.returns
returns c = record { zero = reduced-zero; number = reduced-number; told = number-told }
