use Rattle.std.proofs.Common.{◌∙◌}
use Rattle.tangle_scan.proofs.NewObjects.{parent-none, parent-some}
use Rattle.tangle_scan.proofs.adding.children.parent_at.Goals as goal

pub returns-in-None-clause-none : goal.returns-in-None-clause-none
returns-in-None-clause-none c =
    parent-none c.args.links.now.adding.now c.args.place c.args.links.now.successors.now c.index-links-place.result c.requires.place
    c.requires.links.1.successors c.index-links-place.is (c.index-links-place.is ∙ c.in-None.is)

pub returns-in-Some-clause-some : goal.returns-in-Some-clause-some
returns-in-Some-clause-some c = record {
  within = c.requires.place;
  successors = parent-some c.args.links.now.adding.now c.args.place c.args.links.now.successors.now c.index-links-place.result
      c.in-Some.successors c.requires.place c.requires.links.1.successors c.index-links-place.is
      (c.index-links-place.is ∙ c.in-Some.is);
}
