use Rattle.std.proofs.Common.{refl}
use Rattle.kh_types.specs.Acceptance.{first_fault}
use Rattle.gauss_code.proofs.laws.directed.directed_codes_without_drawing.Goals as goal

-- each rule is tried by computing
pub returns : goal.returns
unfolding first_fault
returns c = record { unbroken = refl; refused = refl }
