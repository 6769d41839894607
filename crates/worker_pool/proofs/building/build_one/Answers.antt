use Rattle.std.proofs.Common.{rules, ◌≡◌, subst, pos, [], IfOk, get_or, to_z, of_z, w16}
use Rattle.std.specs.Arc.{arc_value}
use Rattle.shared_block.specs.BlockHistories.{block_with}
use Rattle.worker_pool.proofs.SlotLemmas.{contains_at}
use Rattle.worker_pool.proofs.building.build_one.Goals as goal

pub of_cube-requires : goal.of_cube-requires
of_cube-requires g c = contains_at (arc_value c.args.cube.now) c.args.degrees.now c.args.place _ c.requires.degrees c.requires.place (search rules)

pub returns : goal.returns
returns g c =
    let j = get_or c.args.degrees.now c.args.place (pos 0) in
    let same : to_z w16 (of_z w16 j) ≡ j = search rules in
    subst (λ i. IfOk c.of_cube.result (λ held. held ≡ block_with (arc_value c.args.cube.now) i [])) same c.of_cube.ensures
