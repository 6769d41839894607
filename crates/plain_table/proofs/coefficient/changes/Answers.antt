use Rattle.std.proofs.Common.{◌≡◌, ◌∙◌}
use Rattle.kh_types.specs.Differential.{keeps_labels, changes_labels}
use Rattle.plain_table.proofs.LabelLemmas.{keeps_labels_same, changes_labels_same}
use Rattle.plain_table.proofs.coefficient.changes.Goals as goal

pub returns-then-keeps_labels : goal.returns-then-keeps_labels
returns-then-keeps_labels c =
    let keeps : c.keeps_labels.result ≡ keeps_labels c.args.diagram.now c.args.tail c.args.head c.args.crossing =
    c.keeps_labels.ensures ∙ keeps_labels_same c.args.crossing c.new-tail.ensures.diagram c.new-tail.ensures.generator c.new-head.ensures.generator in
    let changes : c.changes_labels.result ≡ changes_labels c.args.diagram.now c.args.tail c.args.head c.args.crossing =
    c.changes_labels.ensures ∙ changes_labels_same c.args.crossing c.new-tail.ensures.diagram c.new-tail.ensures.generator c.new-head.ensures.generator in
    rw (← keeps, c.if-keeps_labels.true) changes

pub returns-else-keeps_labels : goal.returns-else-keeps_labels
returns-else-keeps_labels c =
    let keeps : c.keeps_labels.result ≡ keeps_labels c.args.diagram.now c.args.tail c.args.head c.args.crossing =
    c.keeps_labels.ensures ∙ keeps_labels_same c.args.crossing c.new-tail.ensures.diagram c.new-tail.ensures.generator c.new-head.ensures.generator in
    rw (← keeps, c.if-keeps_labels.false)
