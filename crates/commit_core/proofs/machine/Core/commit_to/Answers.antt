use Rattle.std.proofs.Common.{rules, ◌≡◌, ℤ, subst, to_z, of_z, w16}
use Rattle.commit_core.specs.Parts.{IsBlockAt}
use Rattle.commit_core.specs.States.{state_of}
use Rattle.commit_core.proofs.Steps.{commits-left, not-foreign, sound-left}
use Rattle.commit_core.proofs.machine.Core.commit_to.Goals as goal

pub told-requires : goal.told-requires
told-requires g c =
    let inside = c.self.inside in
    let kept : ℤ = to_z w16 (of_z w16 c.args.block) in
    let same : kept ≡ c.args.block = search rules in
    let at = subst (λ (j : ℤ). IsBlockAt c.args.self.now j c.in-Some.place) same c.in-Some.ensures in
    not-foreign g.F.PrimeField.P (state_of inside.diagram inside.blocks.items inside.workers.items) c.args.self.now c.args.block
    c.in-Some.place c.index_mut.result.now c.commit-answer.new.self c.args.patch c.self.invariant.0 c.self.view_is
    at c.index_mut.ensures.value c.requires c.commit-answer.result c.commit-answer.ensures.foreign

pub invariant_of-self : goal.invariant_of-self
invariant_of-self g c =
    let inside = c.self.inside in
    let kept : ℤ = to_z w16 (of_z w16 c.args.block) in
    let same : kept ≡ c.args.block = search rules in
    let at = subst (λ (j : ℤ). IsBlockAt c.args.self.now j c.in-Some.place) same c.in-Some.ensures in (
      sound-left g.F.PrimeField.P (state_of inside.diagram inside.blocks.items inside.workers.items) c.args.self.now c.args.block
          c.in-Some.place c.index_mut.result.now c.commit-answer.new.self c.args.patch c.self.invariant.0 c.self.view_is
          at c.index_mut.ensures.value c.requires c.commit-answer.result c.commit-answer.ensures.stale
          c.commit-answer.ensures.answer,
      c.self.invariant.1,
    )

pub returns : goal.returns
returns g c =
    let inside = c.self.inside in
    let kept : ℤ = to_z w16 (of_z w16 c.args.block) in
    let same : kept ≡ c.args.block = search rules in
    let at = subst (λ (j : ℤ). IsBlockAt c.args.self.now j c.in-Some.place) same c.in-Some.ensures in
    commits-left g.F.PrimeField.P (state_of inside.diagram inside.blocks.items inside.workers.items) c.args.self.now c.args.block
    c.in-Some.place c.index_mut.result.now c.commit-answer.new.self c.args.patch c.self.invariant.0 c.self.view_is
    at c.index_mut.ensures.value c.requires c.commit-answer.result c.told.result c.commit-answer.ensures.stale
    c.commit-answer.ensures.answer c.told.ensures
