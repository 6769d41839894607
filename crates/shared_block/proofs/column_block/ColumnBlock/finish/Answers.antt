use Rattle.std.proofs.Common.{subst}
use Rattle.std.specs.Option.{IfSome}
use Rattle.std.specs.Prelude.{Option}
use Rattle.shared_block.specs.ColumnBlocks.{IsLookAt}
use Rattle.shared_block.specs.declared.column_look.ColumnLook.{ColumnLook}
use Rattle.shared_block.proofs.CommitLemmas.{turn-later, turn-smaller}
use Rattle.shared_block.proofs.column_block.ColumnBlock.finish.Goals as goal

pub turns-smaller : goal.turns-smaller
turns-smaller g c =
    let p = g.F.PrimeField.P in
    let seen = subst (λ (seen : Option ColumnLook). IfSome seen (IsLookAt p c.turns.block)) c.in-Some.is c.in_ok-look.ensures.look in
    turn-smaller p c.turns.block c.take_fitting.new.self _ c.element_laws.ensures.field c.column_block_laws.ensures.code
    c.column_block_laws.ensures.legal seen.pivot c.take_fitting.ensures

pub turns-preserved : goal.turns-preserved
turns-preserved g c =
    turn-later c.args.self c.turns.block c.take_fitting.new.self _ c.turns.invariant c.take_fitting.ensures
