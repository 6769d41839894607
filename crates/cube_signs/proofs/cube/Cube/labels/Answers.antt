use Rattle.std.proofs.Common.{ap}
use Rattle.cube_signs.specs.declared.shape.Shape.{Shape}
use Rattle.cube_signs.proofs.LabelLists.{labels-ascend}
use Rattle.cube_signs.proofs.NameLemmas.{labels-given, labels-none}
use Rattle.cube_signs.proofs.cube.Cube.labels.Goals as goal

pub first_labels-requires-clause-ascending : goal.first_labels-requires-clause-ascending
first_labels-requires-clause-ascending c =
    labels-ascend c.args.self.now c.in-Some.weight c.labels_with.result.now c.labels_with.ensures

pub returns-in-Some : goal.returns-in-Some
returns-in-Some c =
    labels-given c.args.self.now c.args.at.i c.args.at.j c.args.state c.in-Some.weight c.shape-shape.result.circles
    c.labels_with.result.now c.first_labels.result.now c.labels_with.ensures c.requires c.in-Some.ensures
    (ap (λ (s : Shape). s.circles) c.shape-shape.ensures.shape) c.first_labels.ensures

pub returns-in-None : goal.returns-in-None
returns-in-None c = labels-none c.args.self.now c.args.at.i c.args.at.j c.args.state c.in-None.ensures
