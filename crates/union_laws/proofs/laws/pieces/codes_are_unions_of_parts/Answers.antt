use Rattle.union_laws.proofs.CutCodes.{accepted-cut}
use Rattle.union_laws.proofs.CutNumbers.{cut_number, numbers-cut}
use Rattle.union_laws.proofs.CutSigns.{sign-cut}
use Rattle.union_laws.proofs.KeptPlaces.{reordered-kept}
use Rattle.union_laws.proofs.laws.pieces.codes_are_unions_of_parts.Goals as goal

pub returns : goal.returns
returns c =
    record {
      order = λ keep code. reordered-kept keep code.crossings;
      numbers = λ keep code loops others holds cut adds.
          (cut_number keep code loops others holds cut adds, numbers-cut keep code loops others holds cut adds);
      signs = λ keep code loops others crossing holds cut adds is. sign-cut keep code loops others holds cut adds crossing is;
      accepted = λ keep code loops others holds cut adds. accepted-cut keep code loops others holds cut adds;
    }
