use Rattle.std.proofs.Common.{length}
use Rattle.reduced_cube.specs.Reduced.{reduced_generators}
use Rattle.cube_signs.proofs.ListComplexes.{alive-list_complex, entry-list_complex}
use Rattle.reduced_cube.proofs.ReducedBlocks.{alive_count-finished, dimension_of-reduced, reduced-beyond}
use Rattle.reduced_cube.proofs.laws.reduced_blocks_have_all_generators.Goals as goal

pub returns-clause-places : goal.returns-clause-places
returns-clause-places c = λ p code mark j i.
    alive-list_complex p code (length code.crossings) (λ i. reduced_generators code mark i j) i (reduced-beyond code mark j)

pub returns-clause-entries : goal.returns-clause-entries
returns-clause-entries c = λ p code mark j i row column.
    entry-list_complex p code (length code.crossings) (λ i. reduced_generators code mark i j) i row column (reduced-beyond code mark j)

pub returns-clause-dimensions : goal.returns-clause-dimensions
returns-clause-dimensions c = dimension_of-reduced

pub returns-clause-finished : goal.returns-clause-finished
returns-clause-finished c = alive_count-finished
