use Rattle.std.proofs.lemmas.Bool.Decides.{nat_tests}
use Rattle.std.proofs.Common.{arith}
use Rattle.std.proofs.lemmas.List.{length-map}
use Rattle.smallvec.proofs.SmallVecLemmas.{items-with_items}
use Rattle.cube_signs.proofs.ChosenLoops.{lines-more}
use Rattle.cube_signs.proofs.chosen.renumber_all.Goals as goal

pub columns-preserved : goal.columns-preserved
columns-preserved = grind (arith, nat_tests, lines-more, items-with_items, length-map)
