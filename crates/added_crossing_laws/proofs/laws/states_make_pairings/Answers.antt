use Rattle.added_crossing_laws.proofs.StatePairings.{made}
use Rattle.added_crossing_laws.proofs.laws.states_make_pairings.Goals as goal

pub returns : goal.returns
returns c = record {
  paired = λ code state k twice within. (made code state k twice within).paired;
  circles = λ code state k x y twice within. (made code state k twice within).circles x y;
}
