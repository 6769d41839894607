-- The rows of a table stand block by block.
use Rattle.std.proofs.Common.{◌≡◌, ℕ, ◌+◌, ◌<◌, ◌≤◌, ◌∙◌, List, [], ◌++◌, ℤ, length, take, get_or, refl, sym, ap, arith, Bool, true, false, ◌&&◌}
use Rattle.std.specs.Prelude.{All}
use Rattle.std.specs.List.{filter, flat_map}
use Rattle.std.specs.Ordering.{int_eq}
use Rattle.std.proofs.lemmas.List.{get_or-map, length-map}
use Rattle.kh_types.specs.Code.{Code}
use Rattle.kh_types.specs.Generators.{generators, generators_at, has_degrees, homological_degree, quantum_degree}
use Rattle.kh_types.specs.Table.{Row, dimension, from_minus, rows_at, rows_within, table}
use Rattle.homology_tables.proofs.BlockTables as tables
use Rattle.cube_signs.specs.Blocks.{block_degrees, has_block}
use Rattle.shared_block.specs.BlockHistories.{BlockHistory}
use Rattle.shared_block.specs.AllBlocks.{degrees_of_blocks}
use Rattle.kh_types.proofs.FilteredLists.{filter-unless_any}

generators_at-no_block : (code : Code) (i j : ℤ) → has_block code j ≡ false → generators_at code i j ≡ []
generators_at-no_block code i j none =
    filter-unless_any (λ g. int_eq (quantum_degree code g) j) (has_degrees code i j) (generators code)
    (λ g fails. second_fails (int_eq (homological_degree code g) i) (int_eq (quantum_degree code g) j) fails) none
  where
    second_fails : (a b : Bool) → b ≡ false → (a && b) ≡ false
    second_fails true b fails = fails
    second_fails false b fails = refl

dimension-no_block : (p : ℕ) (code : Code) (i j : ℤ) → has_block code j ≡ false → dimension p code i j ≡ 0
dimension-no_block p code i j none = omega (arith, ap length (generators_at-no_block code i j none))

-- a quantum degree without generators has no rows
pub rows_at-no_block : (p : ℕ) (code : Code) (j : ℤ) → has_block code j ≡ false → rows_at p code j ≡ []
rows_at-no_block p code j none =
    tables.rows-none (length code.crossings) (dimension p code) (has_block code) (dimension-no_block p code) j none

pub rows-blocks : (p : ℕ) (code : Code) (most : ℕ)
    → rows_within most p code ≡ flat_map (rows_at p code) (filter (has_block code) (from_minus most))
rows-blocks p code most = tables.rows-blocks (length code.crossings) (dimension p code) (has_block code) (dimension-no_block p code) most

-- the rows of one block more; a degree that is read from memory and kept there is the same
pub rows-more : (p : ℕ) (code made_of : Code) (degrees : List ℤ) (k : ℕ) (read kept : ℤ) (made next : List Row)
    → made ≡ flat_map (rows_at p code) (take k degrees) → k < length degrees → read ≡ get_or degrees k read → kept ≡ read
    → made_of ≡ code → next ≡ made ++ rows_at p made_of kept → next ≡ flat_map (rows_at p code) (take (k + 1) degrees)
rows-more p code made_of degrees k read kept made next is_made below is_read is_kept is_code is_next =
    tables.rows-more (rows_at p code) degrees k read kept made next is_made below is_read is_kept
    (is_next ∙ ap (λ (code : Code). made ++ rows_at p code kept) is_code)

-- the same of a list of blocks

pub rows-block_more : (p : ℕ) (code : Code) (blocks : List BlockHistory) (k : ℕ) (held : BlockHistory) (made next : List Row)
    → All (λ block. block.diagram ≡ code) blocks → made ≡ flat_map (rows_at p code) (take k (degrees_of_blocks blocks))
    → k < length blocks → held ≡ get_or blocks k held → next ≡ made ++ rows_at p held.diagram held.degree
    → next ≡ flat_map (rows_at p code) (take (k + 1) (degrees_of_blocks blocks))
rows-block_more p code blocks k held made next are is_made below is_held is_next =
    let degree : BlockHistory → ℤ = λ block. block.degree in
    let of_code : held.diagram ≡ code = ap (λ (block : BlockHistory). block.diagram) is_held ∙ are k held below in
    rows-more p code held.diagram (degrees_of_blocks blocks) k held.degree held.degree made next is_made
    (omega (arith, below, length-map blocks degree)) (ap degree is_held ∙ sym (get_or-map degree blocks k held held.degree below)) refl
    of_code is_next

pub rows-block_all : (p : ℕ) (code : Code) (blocks : List BlockHistory) (k : ℕ) (made : List Row)
    → made ≡ flat_map (rows_at p code) (take k (degrees_of_blocks blocks)) → length blocks ≤ k → degrees_of_blocks blocks ≡ block_degrees code
    → made ≡ flat_map (rows_at p code) (block_degrees code)
rows-block_all p code blocks k made is_made all is_degrees =
    let degree : BlockHistory → ℤ = λ block. block.degree in
    tables.rows-all (rows_at p code) (degrees_of_blocks blocks) (block_degrees code) k made is_made (omega (arith, all, length-map blocks degree)) is_degrees

-- the table of these rows

pub table-all : (p field : ℕ) (code : Code) (rows : List Row) → field ≡ p
    → rows ≡ flat_map (rows_at p code) (block_degrees code) → tables.table_with field rows ≡ table p code
unfolding block_degrees
table-all p field code rows is_field is_rows =
    tables.table-whole (length code.crossings) (dimension p code) (has_block code) (dimension-no_block p code) p field rows is_field
    is_rows
