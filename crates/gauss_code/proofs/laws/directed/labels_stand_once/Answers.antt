use Rattle.std.proofs.lemmas.List.Elements.{All-from_recursion}
use Rattle.gauss_code.specs.Listings.{labels_of, crossing_count}
use Rattle.code_passes.proofs.LabelCounts.{Names, length-labels, labels-name, stands-once}
use Rattle.gauss_code.proofs.laws.directed.labels_stand_once.Goals as goal

pub returns-clause-even : goal.returns-clause-even
returns-clause-even c = λ body none. length-labels (labels_of body) none

pub returns-clause-once : goal.returns-clause-once
returns-clause-once c = λ body label none positive within. stands-once (labels_of body) label none (positive, within)

pub returns-clause-others : goal.returns-clause-others
returns-clause-others c = λ body none.
    All-from_recursion (Names (crossing_count body)) (labels_of body) (labels-name (labels_of body) none)
