use Rattle.std.proofs.Common.{◌≡◌, ◌+◌, ℤ, List, sym, subst, subst₂, arith, take, to_z, of_z, w16}
use Rattle.std.proofs.lemmas.Int.{ints}
use Rattle.std.proofs.lemmas.List.{take_all}
use Rattle.sparse_block.specs.Changes.{PlacedLine, placed}
use Rattle.sparse_block.specs.Entries.{AreEntries}
use Rattle.sparse_block.specs.Least.{FindsLeast}
use Rattle.cancel_step.specs.Foreign.{ShowsIn}
use Rattle.cancel_step.specs.Sides.{IsOtherOn}
use Rattle.cancel_step.proofs.ForeignLemmas.{finds-more}
use Rattle.cancel_step.proofs.comparing.in_lines.Goals as goal

pub lines-preserved : goal.lines-preserved
lines-preserved g c =
    let Shows = IsOtherOn c.args.side c.args.complex.now.complex (to_z w16 (of_z w16 c.args.degree)) in
    let line : PlacedLine = placed c.at-place.result.0 c.at-place.result.1.now in
    subst (FindsLeast (ShowsIn Shows (take (c.lines.k + 1) c.args.lines.now))) (sym c.lesser-least.ensures)
    (finds-more Shows c.args.lines.now c.lines.k line line c.lines.least c.in_line.result
    (omega (arith, c.lines-test.true, c.len-k-end.ensures)) c.at-place.ensures c.lines.invariant c.in_line.ensures)

pub returns : goal.returns
returns g c =
    let complex = c.args.complex.now.complex in
    let same : to_z w16 (of_z w16 c.args.degree) ≡ c.args.degree = omega (arith, ints, c.ranges.degree) in
    let whole = take_all c.lines.k c.args.lines.now (omega (arith, c.lines-test.false, c.lines.auto.k-end)) in
    subst₂ (λ (i : ℤ) (lines : List PlacedLine). FindsLeast (ShowsIn (IsOtherOn c.args.side complex i) lines) c.lines.least) same whole
    c.lines.invariant

pub in_line-requires : goal.in_line-requires
in_line-requires g c =
    let lines = c.args.lines.now in
    let k = c.lines.k in
    let line : PlacedLine = placed c.at-place.result.0 c.at-place.result.1.now in (
      c.requires.0,
      c.requires.1,
      subst (λ (line : PlacedLine). AreEntries c.requires.0 c.requires.1 line.entries) (sym c.at-place.ensures)
          (c.requires.2 k line (omega (arith, c.lines-test.true, c.len-k-end.ensures))),
    )
