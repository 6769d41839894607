use Rattle.std.proofs.lemmas.Bool.Decides.{nat_tests}
use Rattle.std.proofs.Common.{arith}
use Rattle.std.proofs.lemmas.List.{map_push}
use Rattle.cube_signs.proofs.ChosenBlocks.{chosen-more, places-more}
use Rattle.cube_signs.proofs.GeneratorPlaces.{length-generators_at}
use Rattle.cube_signs.proofs.cube.Cube.all_chosen.Goals as goal

pub places_before-requires : goal.places_before-requires
places_before-requires = grind (arith, nat_tests, length-generators_at)

pub degrees-preserved : goal.degrees-preserved
degrees-preserved = grind (arith, nat_tests, chosen-more, map_push, places-more)
