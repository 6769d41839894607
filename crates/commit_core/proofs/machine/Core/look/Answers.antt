use Rattle.std.proofs.Common.{rules, ◌≡◌, ℤ, to_z, of_z, w16}
use Rattle.commit_core.proofs.Steps.{looked-row}
use Rattle.commit_core.proofs.machine.Core.look.Goals as goal

pub returns-in-Some-Some-clause-row : goal.returns-in-Some-Some-clause-row
returns-in-Some-Some-clause-row g c =
    let kept : ℤ = to_z w16 (of_z w16 c.args.block) in
    let same : kept ≡ c.args.block = search rules in
    looked-row g.F.PrimeField.P c.args.self.now c.hold.new.self c.hold-in-Some-Some.new.self c.args.worker c.args.block kept
    c.in_ok-sight.field-0 c.in-Some-Some.field-0 c.in-Some-Some.look c.version-version.result same c.hold.ensures
    c.in_ok-sight.ensures c.in-Some-Some.is c.in-Some-Some.field-0-is c.version-version.ensures c.hold-in-Some-Some.ensures
