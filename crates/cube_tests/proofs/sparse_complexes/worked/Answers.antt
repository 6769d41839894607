use Rattle.std.proofs.Common.{◌≡◌, List, pos, neg_ℤ, subst, subst₂}
use Rattle.std.specs.Prelude.{slice_index, IfOk}
use Rattle.kh_types.specs.Generators.{Generator}
use Rattle.sparse_block.specs.Entries.{Entry}
use Rattle.sparse_block.specs.Complexes.{NamedComplex, sparse_complex}
use Rattle.sparse_block.specs.Inside.{lists_in, lines_in}
use Rattle.sparse_block.proofs.WorkedLemmas.{worked-build}
use Rattle.cube_tests.proofs.sparse_complexes.worked.Goals as goal

pub new-requires-clause-counts : goal.new-requires-clause-counts
new-requires-clause-counts g c =
    let can =
    worked-build g.F.PrimeField.P (slice_index c.args.last 0) (slice_index c.args.last 1) (slice_index c.args.last 2)
    (lists_in c.in_ok-names.names.items) (lines_in c.in_ok-columns.columns.items) c.in_ok-names.ensures c.in_ok-columns.ensures
    c.requires.entries c.requires.squares in
    can.counts

pub new-requires-clause-sizes : goal.new-requires-clause-sizes
new-requires-clause-sizes g c =
    let can =
    worked-build g.F.PrimeField.P (slice_index c.args.last 0) (slice_index c.args.last 1) (slice_index c.args.last 2)
    (lists_in c.in_ok-names.names.items) (lines_in c.in_ok-columns.columns.items) c.in_ok-names.ensures c.in_ok-columns.ensures
    c.requires.entries c.requires.squares in
    can.sizes

pub new-requires-clause-entries : goal.new-requires-clause-entries
new-requires-clause-entries g c =
    let can =
    worked-build g.F.PrimeField.P (slice_index c.args.last 0) (slice_index c.args.last 1) (slice_index c.args.last 2)
    (lists_in c.in_ok-names.names.items) (lines_in c.in_ok-columns.columns.items) c.in_ok-names.ensures c.in_ok-columns.ensures
    c.requires.entries c.requires.squares in
    can.entries

pub new-requires-clause-squares : goal.new-requires-clause-squares
new-requires-clause-squares g c =
    let can =
    worked-build g.F.PrimeField.P (slice_index c.args.last 0) (slice_index c.args.last 1) (slice_index c.args.last 2)
    (lists_in c.in_ok-names.names.items) (lines_in c.in_ok-columns.columns.items) c.in_ok-names.ensures c.in_ok-columns.ensures
    c.requires.entries c.requires.squares in
    can.squares

pub returns : goal.returns
returns g c =
    subst₂
    (λ (names : List (List Generator)) (columns : List (List (List Entry))).
    IfOk c.build.result (λ made. made ≡ sparse_complex (neg_ℤ (pos 1)) names columns))
    c.in_ok-names.ensures c.in_ok-columns.ensures
    (subst (λ (complex : NamedComplex). IfOk c.build.result (λ made. made ≡ complex)) c.new.ensures c.build.ensures)
