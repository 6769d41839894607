use Rattle.gluing_laws.proofs.Glued.{class_count-glued_parts}
use Rattle.gluing_laws.proofs.laws.glued_parts_differ_by_the_inner_ones.Goals as goal

pub returns : goal.returns
returns c = class_count-glued_parts
