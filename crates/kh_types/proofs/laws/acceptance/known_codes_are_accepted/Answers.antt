use Rattle.std.proofs.Common.{refl}
use Rattle.kh_types.specs.Acceptance.{first_fault, accepted}
use Rattle.kh_types.proofs.laws.acceptance.known_codes_are_accepted.Goals as goal

pub returns : goal.returns
unfolding first_fault accepted
returns c = record {
  empty = refl;
  loop_alone = refl;
  curled = refl;
  hopf = refl;
  three = refl;
  four = refl;
  apart = refl;
  over = refl;
  many_loops = refl;
}
