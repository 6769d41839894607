use Rattle.std.proofs.Common.{rules, ◌≡◌, ℤ, subst, to_z, of_z, w16}
use Rattle.commit_core.specs.Parts.{IsBlockAt}
use Rattle.commit_core.specs.States.{state_of}
use Rattle.commit_core.proofs.Steps.{sight-block}
use Rattle.commit_core.proofs.machine.Core.sight.Goals as goal

pub returns-in_ok-look-in-Some : goal.returns-in_ok-look-in-Some
returns-in_ok-look-in-Some g c =
    let inside = c.self.inside in
    let kept : ℤ = to_z w16 (of_z w16 c.args.block) in
    let same : kept ≡ c.args.block = search rules in
    sight-block g.F.PrimeField.P (state_of inside.diagram inside.blocks.items inside.workers.items) c.args.self.now c.args.block
    c.in-Some.place c.index-found.result.now c.in_ok-look-in-Some.field-0 c.element_laws.ensures.field c.self.view_is
    (subst (λ (j : ℤ). IsBlockAt c.args.self.now j c.in-Some.place) same c.in-Some.ensures) c.index-found.ensures
    c.block_laws.ensures.code c.block_laws.ensures.legal c.in_ok-look-in-Some.ensures.none c.in_ok-look-in-Some.ensures.look
