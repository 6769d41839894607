use Rattle.dotted_maps.proofs.ComponentParts.{composed-parts, part-plain}
use Rattle.dotted_maps.proofs.laws.compositions_have_parts.Goals as goal

pub returns : goal.returns
returns c = record { parts = composed-parts; plain = part-plain }
