use Rattle.std.proofs.Common.{◌≡◌, ◌∙◌, ◌^◌, map}
use Rattle.std.specs.Global.{Vec}
use Rattle.std.proofs.lemmas.Result.{IfOk-weaker}
use Rattle.smallvec.specs.SmallVec.{SmallVec}
use Rattle.sparse_block.specs.Entries.{Entry, entries_of}
use Rattle.sparse_block.specs.Complexes.{all_alive, degree_from_lists, matrix_from}
use Rattle.sparse_block.specs.Inside.{lists_in, lines_in, entries_in, row_entries}
use Rattle.sparse_block.proofs.BuildLemmas.{rows-of_height, lines-of_degree, count-of_degree, entries-of_degree}
use Rattle.sparse_block.proofs.building.degree_rows.Goals as goal

pub rows_of-requires-clause-count : goal.rows_of-requires-clause-count
rows_of-requires-clause-count c =
    count-of_degree c.args.names.now c.args.columns.now c.args.k c.index-columns-k.result c.deref.result.now c.requires.sizes
    c.requires.degree c.index-columns-k.is c.deref.ensures.value (2 ^ 29) c.requires.counts

pub rows_of-requires-clause-entries : goal.rows_of-requires-clause-entries
rows_of-requires-clause-entries c = (
  c.requires.entries.0,
  entries-of_degree c.args.names.now c.args.columns.now c.args.k c.index-columns-k.result c.deref.result.now c.requires.sizes
      c.requires.degree c.index-columns-k.is c.deref.ensures.value c.requires.entries.0 c.name_count-height.result
      c.name_count-height.ensures c.requires.entries.1,
)

pub returns : goal.returns
returns c =
    let names = c.args.names.now in
    let columns = c.args.columns.now in
    let k = c.args.k in
    let height = c.name_count-height.result in
    let lines = c.deref.result.now in
    IfOk-weaker c.rows_of.result
    (λ (made : Vec (SmallVec Entry)). entries_in made.items ≡ map entries_of (matrix_from height (entries_in lines)))
    (λ (made : Vec (SmallVec Entry)).
    entries_in made.items ≡ row_entries (degree_from_lists (all_alive (lists_in names)) (lines_in columns) k))
    (λ made is.
    is ∙ rows-of_height (lists_in names) (lines_in columns) k height (entries_in lines) c.name_count-height.ensures
    (lines-of_degree names columns k c.index-columns-k.result lines c.requires.sizes c.requires.degree c.index-columns-k.is
    c.deref.ensures.value))
    c.rows_of.ensures
