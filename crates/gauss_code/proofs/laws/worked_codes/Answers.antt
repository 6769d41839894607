use Rattle.std.proofs.Common.{refl}
use Rattle.std.specs.Fmt.{digits}
use Rattle.gauss_code.proofs.laws.worked_codes.Goals as goal

-- each code is made and printed by computing
pub returns : goal.returns
unfolding digits
returns c = record {
  trefoil = refl;
  turned_labels = refl;
  printed = refl;
  printed_groups = refl;
  printed_empty = refl;
  printed_loop = refl;
}
