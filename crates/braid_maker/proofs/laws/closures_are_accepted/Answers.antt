use Rattle.braid_maker.proofs.Accepted.{IsRenumbered-closure, closure-is_accepted, components-closure, generators-closure}
use Rattle.braid_maker.proofs.laws.closures_are_accepted.Goals as goal

pub returns : goal.returns
returns c = record {
  accepted = closure-is_accepted;
  components = λ strands letters are. components-closure strands letters are (IsRenumbered-closure strands letters);
  generators = λ strands letters are. generators-closure strands letters are (IsRenumbered-closure strands letters);
}
