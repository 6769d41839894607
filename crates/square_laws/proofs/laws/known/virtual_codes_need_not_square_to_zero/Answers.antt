use Rattle.std.proofs.Common.{refl}
use Rattle.kh_types.specs.Acceptance.{first_fault}
use Rattle.square_laws.proofs.laws.known.virtual_codes_need_not_square_to_zero.Goals as goal

pub returns : goal.returns
unfolding first_fault
returns c = record { refused = refl; circles = refl; product = refl }
