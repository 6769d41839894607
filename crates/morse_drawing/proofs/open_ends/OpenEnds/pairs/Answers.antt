use Rattle.std.proofs.Common.{◌∙◌, ap, sym, subst}
use Rattle.kh_types.specs.declared.limits.TheConstants.{CROSSINGS}
use Rattle.morse_drawing.specs.OpenEnds.{ArePaired, OpenEnds, pairs_before}
use Rattle.morse_drawing.proofs.open_ends.OpenEnds.pairs.Goals as goal

pub returns : goal.returns
returns c = c.found_pairs.ensures ∙ ap (λ (s : OpenEnds). pairs_before s.others 80) c.self.view_is

pub found_pairs-requires : goal.found_pairs-requires
found_pairs-requires c = subst (λ (s : OpenEnds). ArePaired CROSSINGS s.others) (sym c.self.view_is) c.requires
