use Rattle.std.proofs.Common.{map}
use Rattle.std.specs.Prelude.{slice_index}
use Rattle.std.specs.List.{range_with_len}
use Rattle.kh_types.specs.Generators.{generator_of}
use Rattle.sparse_block.proofs.WorkedLemmas.{names-made}
use Rattle.cube_tests.proofs.column_reductions.names.Goals as goal

pub returns : goal.returns
returns c =
    let sizes = c.args.sizes in
    names-made (map (generator_of 0) (range_with_len 0 (slice_index sizes 0))) (map (generator_of 1) (range_with_len 0 (slice_index sizes 1)))
    (map (generator_of 2) (range_with_len 0 (slice_index sizes 2))) (map (generator_of 3) (range_with_len 0 (slice_index sizes 3)))
    c.in_ok-first.first c.in_ok-second.second c.in_ok-third.third c.in_ok-fourth.fourth c.in_ok-vec.field-0.items
    c.in_ok-vec.ensures.items c.in_ok-first.ensures c.in_ok-second.ensures c.in_ok-third.ensures c.in_ok-fourth.ensures
