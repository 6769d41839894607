use Rattle.sparse_block.specs.Inside.{lines_in, lists_in}
use Rattle.cube_tests.proofs.SquareLemmas.{square-build}
use Rattle.cube_tests.proofs.cancellations.built.Goals as goal

pub new-requires-clause-counts : goal.new-requires-clause-counts
new-requires-clause-counts c =
    let can =
    square-build c.args.x c.args.y (lists_in c.in_ok-names.names.items) (lines_in c.in_ok-columns.columns.items)
    c.in_ok-names.ensures c.in_ok-columns.ensures c.requires.entries c.requires.squares in
    can.counts

pub new-requires-clause-sizes : goal.new-requires-clause-sizes
new-requires-clause-sizes c =
    let can =
    square-build c.args.x c.args.y (lists_in c.in_ok-names.names.items) (lines_in c.in_ok-columns.columns.items)
    c.in_ok-names.ensures c.in_ok-columns.ensures c.requires.entries c.requires.squares in
    can.sizes

pub new-requires-clause-entries : goal.new-requires-clause-entries
new-requires-clause-entries c =
    let can =
    square-build c.args.x c.args.y (lists_in c.in_ok-names.names.items) (lines_in c.in_ok-columns.columns.items)
    c.in_ok-names.ensures c.in_ok-columns.ensures c.requires.entries c.requires.squares in
    can.entries

pub new-requires-clause-squares : goal.new-requires-clause-squares
new-requires-clause-squares c =
    let can =
    square-build c.args.x c.args.y (lists_in c.in_ok-names.names.items) (lines_in c.in_ok-columns.columns.items)
    c.in_ok-names.ensures c.in_ok-columns.ensures c.requires.entries c.requires.squares in
    can.squares
