use Rattle.std.proofs.Common.{refl}
use Rattle.surface_laws.proofs.Tables.{once, itself, two, both, two_ways}
use Rattle.surface_laws.proofs.worked.small_surfaces.Goals as goal

pub returns : goal.returns
returns c =
    record {
      sphere = λ h k. refl;
      dotted = λ h k. once h;
      hollow = λ h k. once k;
      both_kinds = λ h k. refl;
      twice_dotted = λ h k. itself h;
      twice_hollow = λ h k. itself k;
      torus = λ h k. two h k;
      cut_torus = λ h k. two_ways h k;
      double_torus = λ h k. both h k;
    }
