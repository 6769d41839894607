use Rattle.code_passes.proofs.DirectedText.{IsDirected-crossings}
use Rattle.code_passes.proofs.laws.listed_components_are_directed.Goals as goal

pub returns : goal.returns
returns c = IsDirected-crossings
