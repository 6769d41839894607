use Rattle.std.proofs.Common.{refl}
use Rattle.dotted_maps.proofs.FreeListed.{IsComposition-listed_with}
use Rattle.dotted_maps.proofs.laws.compositions_are_listed.Goals as goal

pub returns : goal.returns
returns c = record {
  listed = λ p h k points m n o first second placed pairing one two three.
      IsComposition-listed_with p h k points m n o first second
      record { placed = placed; pairing = pairing; first = one; second = two; third = three };
  plain = λ points m n o first second. refl;
}
