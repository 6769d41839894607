use Rattle.orient_arcs.proofs.AlikeCrossings.{AreAlike-back, AreAlike-then, AreAlike-renamed, AreAlike-renumbered}
use Rattle.orient_arcs.proofs.laws.alike.renamed_crossings_are_alike.Goals as goal

pub returns-clause-back : goal.returns-clause-back
returns-clause-back c = AreAlike-back

pub returns-clause-then : goal.returns-clause-then
returns-clause-then c = AreAlike-then

pub returns-clause-renamed : goal.returns-clause-renamed
returns-clause-renamed c = AreAlike-renamed

pub returns-clause-renumbered : goal.returns-clause-renumbered
returns-clause-renumbered c = AreAlike-renumbered
