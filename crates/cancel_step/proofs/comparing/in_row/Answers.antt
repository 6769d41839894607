use Rattle.std.proofs.Common.{◌≡◌, ℕ, ◌∙◌, ℤ, sym, subst, refl, arith, None, to_z, of_z, w16}
use Rattle.std.specs.Prelude.{Option}
use Rattle.std.proofs.lemmas.Int.{ints}
use Rattle.sparse_block.specs.Changes.{PlacedLine, placed}
use Rattle.sparse_block.specs.Complexes.{place_count}
use Rattle.sparse_block.specs.Entries.{AreEntries}
use Rattle.sparse_block.proofs.ReadingLemmas.{row-entries}
use Rattle.sparse_block.specs.Least.{FindsLeast}
use Rattle.cancel_step.specs.Foreign.{IsOtherRowAt}
use Rattle.cancel_step.proofs.ForeignLemmas.{row-alike, row-unlike}
use Rattle.cancel_step.proofs.comparing.in_row.Goals as goal

pub returns-then-are_same : goal.returns-then-are_same
returns-then-are_same g c =
    let complex = c.args.complex.now.complex in
    let i = to_z w16 (of_z w16 c.args.degree) in
    let same : i ≡ c.args.degree = omega (arith, ints, c.ranges.degree) in
    let line : PlacedLine = placed c.args.place c.args.entries.now in
    let none : Option ℕ = None in
    subst (λ (i : ℤ). FindsLeast (IsOtherRowAt complex i line) none) same
    (row-alike complex i line (c.are_same.ensures.0 c.if-are_same.true ∙ c.row_at-row.ensures))

pub first_difference-requires-clause-right : goal.first_difference-requires-clause-right
first_difference-requires-clause-right g c =
    let complex = c.args.complex.now.complex in
    let p = g.F.PrimeField.P in
    let i = to_z w16 (of_z w16 c.args.degree) in (
      p,
      place_count complex i,
      subst (AreEntries p (place_count complex i)) (sym c.row_at-row.ensures)
          (row-entries p complex i c.args.place c.complex_laws.ensures.complex),
    )

pub returns : goal.returns
returns g c =
    let complex = c.args.complex.now.complex in
    let i = to_z w16 (of_z w16 c.args.degree) in
    let same : i ≡ c.args.degree = omega (arith, ints, c.ranges.degree) in
    let line : PlacedLine = placed c.args.place c.args.entries.now in
    let found = c.first_difference.result in
    subst (λ (i : ℤ). FindsLeast (IsOtherRowAt complex i line) found) same
    (row-unlike complex i line c.args.entries.now c.row_at-row.result.now found refl c.row_at-row.ensures
    c.first_difference.ensures)
