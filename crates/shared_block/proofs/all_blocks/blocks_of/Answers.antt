use Rattle.std.proofs.Common.{rules, ◌∙◌, ap, arith, to_z, of_z, w16}
use Rattle.cube_signs.specs.Blocks.{block_degrees}
use Rattle.shared_block.proofs.AllBlocks.{opened-all, opened-more}
use Rattle.shared_block.proofs.all_blocks.blocks_of.Goals as goal

pub degrees-preserved : goal.degrees-preserved
degrees-preserved g c =
    opened-more c.args.diagram.now c.in_ok-cube.cube c.in_ok-degrees.degrees.items c.degrees.k c.index.result.now
    (to_z w16 (of_z w16 c.index.result.now)) c.degrees.blocks.items c.push.new.self.items c.in_ok-of_cube.field-0
    c.degrees.invariant (omega (arith, c.degrees-test.true, c.len-k-end.ensures)) c.index.ensures (search rules)
    c.in_ok-cube.ensures c.in_ok-of_cube.ensures c.in_ok-push.ensures.items

pub returns : goal.returns
returns g c =
    opened-all c.args.diagram.now c.in_ok-degrees.degrees.items c.degrees.k c.degrees.blocks.items c.degrees.invariant
    (omega (arith, c.degrees-test.false, c.len-k-end.ensures)) (c.in_ok-degrees.ensures ∙ ap block_degrees c.in_ok-cube.ensures)
