use Rattle.std.proofs.Common.{rules, ◌≡◌, ℤ, to_z, of_z, w16}
use Rattle.commit_core.specs.States.{state_of}
use Rattle.commit_core.proofs.Places.{place-read}
use Rattle.commit_core.proofs.machine.Core.place_of.Goals as goal

pub returns : goal.returns
returns g c =
    let inside = c.self.inside in
    let kept : ℤ = to_z w16 (of_z w16 c.args.block) in
    let same : kept ≡ c.args.block = search rules in
    place-read (state_of inside.diagram inside.blocks.items inside.workers.items) c.args.self.now c.args.block kept
    c.deref.result.now c.place_of.result same c.self.view_is c.deref.ensures.value c.place_of.ensures
