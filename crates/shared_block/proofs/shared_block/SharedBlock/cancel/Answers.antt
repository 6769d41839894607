use Rattle.std.proofs.Common.{arith, vec_capacity}
use Rattle.shared_block.specs.BlockHistories.{block_with}
use Rattle.shared_block.proofs.CommitLemmas.{kept-pivot, pivot-inside, room-pivot}
use Rattle.shared_block.proofs.shared_block.SharedBlock.cancel.Goals as goal

pub push_reserved-requires : goal.push_reserved-requires
push_reserved-requires g c =
    let p = g.F.PrimeField.P in
    let inside = c.self.inside in
    let held = block_with inside.diagram inside.degree inside.history.items in
    let is_pivot =
    pivot-inside p held c.args.self.now inside.complex.complex c.args.pivot c.self.invariant.replayed c.self.view_is c.requires in
    omega (
      arith,
      room-pivot p held (vec_capacity inside.history) inside.complex.complex c.args.pivot c.element_laws.ensures.field c.self.invariant
          is_pivot,
      inside.history.ok,
    )

pub invariant_of-self-2 : goal.invariant_of-self-2
invariant_of-self-2 g c =
    let p = g.F.PrimeField.P in
    let inside = c.self.inside in
    let held = block_with inside.diagram inside.degree inside.history.items in
    kept-pivot p held (vec_capacity inside.history) inside.complex.complex c.args.pivot c.push_reserved.new.self.items
    (vec_capacity c.push_reserved.new.self) c.cancel_with.new.complex.complex
    c.element_laws.ensures.field c.self.invariant
    (pivot-inside p held c.args.self.now inside.complex.complex c.args.pivot c.self.invariant.replayed c.self.view_is c.requires)
    c.push_reserved.ensures.items c.push_reserved.ensures.capacity c.in_ok-cancel_with.ensures.ok
