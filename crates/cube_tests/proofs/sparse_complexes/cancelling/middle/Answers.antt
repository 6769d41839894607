use Rattle.std.proofs.Common.{◌≡◌, List, pos, neg_ℤ, subst, subst₂}
use Rattle.std.specs.Prelude.{IfOk}
use Rattle.kh_types.specs.Generators.{Generator}
use Rattle.sparse_block.specs.Entries.{Entry}
use Rattle.sparse_block.specs.Complexes.{NamedComplex, sparse_complex}
use Rattle.sparse_block.specs.Inside.{lists_in, lines_in}
use Rattle.sparse_block.proofs.WorkedLemmas.{middle-build}
use Rattle.cube_tests.proofs.sparse_complexes.cancelling.middle.Goals as goal

pub new-requires-clause-counts : goal.new-requires-clause-counts
new-requires-clause-counts c =
    let can =
    middle-build (lists_in c.in_ok-names.names.items) (lines_in c.in_ok-columns.columns.items) c.in_ok-names.ensures
    c.in_ok-columns.ensures in
    can.counts

pub new-requires-clause-sizes : goal.new-requires-clause-sizes
new-requires-clause-sizes c =
    let can =
    middle-build (lists_in c.in_ok-names.names.items) (lines_in c.in_ok-columns.columns.items) c.in_ok-names.ensures
    c.in_ok-columns.ensures in
    can.sizes

pub new-requires-clause-entries : goal.new-requires-clause-entries
new-requires-clause-entries c =
    let can =
    middle-build (lists_in c.in_ok-names.names.items) (lines_in c.in_ok-columns.columns.items) c.in_ok-names.ensures
    c.in_ok-columns.ensures in
    can.entries

pub new-requires-clause-squares : goal.new-requires-clause-squares
new-requires-clause-squares c =
    let can =
    middle-build (lists_in c.in_ok-names.names.items) (lines_in c.in_ok-columns.columns.items) c.in_ok-names.ensures
    c.in_ok-columns.ensures in
    can.squares

pub returns : goal.returns
returns c =
    subst₂
    (λ (names : List (List Generator)) (columns : List (List (List Entry))).
    IfOk c.build.result (λ made. made ≡ sparse_complex (neg_ℤ (pos 1)) names columns))
    c.in_ok-names.ensures c.in_ok-columns.ensures
    (subst (λ (complex : NamedComplex). IfOk c.build.result (λ made. made ≡ complex)) c.new.ensures c.build.ensures)
