use Rattle.std.proofs.Common.{◌≡◌, List, pos, neg_ℤ, subst₂}
use Rattle.std.specs.Prelude.{slice_index, IfOk}
use Rattle.kh_types.specs.Generators.{Generator}
use Rattle.sparse_block.specs.Entries.{Entry}
use Rattle.sparse_block.specs.Complexes.{sparse_complex}
use Rattle.sparse_block.specs.Inside.{lists_in, lines_in}
use Rattle.sparse_block.proofs.WorkedLemmas.{worked-build}
use Rattle.cube_tests.proofs.sparse_complexes.worked_at_once.Goals as goal

pub build-requires-clause-counts : goal.build-requires-clause-counts
build-requires-clause-counts g c =
    let can =
    worked-build g.F.PrimeField.P (slice_index c.args.last 0) (slice_index c.args.last 1) (slice_index c.args.last 2)
    (lists_in c.in_ok-names.names.items) (lines_in c.in_ok-columns.columns.items) c.in_ok-names.ensures c.in_ok-columns.ensures
    c.requires.entries c.requires.squares in
    can.counts

pub build-requires-clause-sizes : goal.build-requires-clause-sizes
build-requires-clause-sizes g c =
    let can =
    worked-build g.F.PrimeField.P (slice_index c.args.last 0) (slice_index c.args.last 1) (slice_index c.args.last 2)
    (lists_in c.in_ok-names.names.items) (lines_in c.in_ok-columns.columns.items) c.in_ok-names.ensures c.in_ok-columns.ensures
    c.requires.entries c.requires.squares in
    can.sizes

pub build-requires-clause-entries : goal.build-requires-clause-entries
build-requires-clause-entries g c =
    let can =
    worked-build g.F.PrimeField.P (slice_index c.args.last 0) (slice_index c.args.last 1) (slice_index c.args.last 2)
    (lists_in c.in_ok-names.names.items) (lines_in c.in_ok-columns.columns.items) c.in_ok-names.ensures c.in_ok-columns.ensures
    c.requires.entries c.requires.squares in
    can.entries

pub build-requires-clause-squares : goal.build-requires-clause-squares
build-requires-clause-squares g c =
    let can =
    worked-build g.F.PrimeField.P (slice_index c.args.last 0) (slice_index c.args.last 1) (slice_index c.args.last 2)
    (lists_in c.in_ok-names.names.items) (lines_in c.in_ok-columns.columns.items) c.in_ok-names.ensures c.in_ok-columns.ensures
    c.requires.entries c.requires.squares in
    can.squares

pub returns : goal.returns
returns g c =
    subst₂
    (λ (names : List (List Generator)) (columns : List (List (List Entry))).
    IfOk c.build.result (λ made. made ≡ sparse_complex (neg_ℤ (pos 1)) names columns))
    c.in_ok-names.ensures c.in_ok-columns.ensures c.build.ensures
