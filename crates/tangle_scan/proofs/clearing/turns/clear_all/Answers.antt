use Rattle.std.proofs.Common.{ℕ, List, slice_index, subst, arith}
use Rattle.std.proofs.lemmas.List.{get_or_default, take_all}
use Rattle.tangle_scan.specs.Clearings.{HasCleared}
use Rattle.tangle_scan.proofs.Turns.{cleared-more, cleared-start}
use Rattle.tangle_scan.proofs.clearing.turns.clear_all.Goals as goal

pub clear_at-requires : goal.clear_at-requires
clear_at-requires g c = record { turn_is = c.requires.turn_is; columns_are = c.columns.invariant.columns_are }

pub columns-init : goal.columns-init
columns-init g c =
    record {
      cleared = cleared-start g.F.PrimeField.P c.args.turn.now c.args.columns.now.items;
      columns_are = c.requires.columns_are;
    }

pub columns-preserved : goal.columns-preserved
columns-preserved g c =
    let named = c.args.named.now in
    let k = c.columns.place-index in
    record {
      cleared = cleared-more g.F.PrimeField.P c.args.turn.now named k (slice_index named k) c.args.columns.now.items
          c.columns.columns.items c.clear_at.new.columns.items c.columns-test.true
          (get_or_default named k 0 (slice_index named k) c.columns-test.true) c.columns.invariant.cleared
          c.in_ok-clear_at.ensures.step;
      columns_are = c.in_ok-clear_at.ensures.columns_are;
    }

pub returns : goal.returns
returns g c =
    subst
    (λ (named : List ℕ).
    HasCleared g.F.PrimeField.P c.args.turn.now named c.args.columns.now.items c.columns.columns.items c.columns.rows.items)
    (take_all c.columns.place-index c.args.named.now (omega (arith, c.columns-test.false))) c.columns.invariant
