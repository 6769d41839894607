-- What is written is short enough to be read again.
use Rattle.std.proofs.Common.{◌≡◌, ℕ, ◌+◌, ◌*◌, ◌≤◌, ◌∙◌, List, [], ◌∷◌, ◌++◌, length, map, take_all, ap, ap₂, arith, ℤ, IsTrue, codes}
use Rattle.std.specs.Prelude.{All}
use Rattle.std.specs.Fmt.{decimal, signed_decimal}
use Rattle.std.specs.List.{AllByRecursion}
use Rattle.std.proofs.lemmas.List.{length-append, length-map}
use Rattle.std.proofs.lemmas.List.Elements.{recursion_from_All}
use Rattle.std.proofs.lemmas.List.Sums.{sum_by-cons}
use Rattle.std.proofs.lemmas.Grind.{flat_map-append}
use Rattle.kh_types.specs.Acceptance.{accepted}
use Rattle.kh_types.specs.Code.{Code}
use Rattle.kh_types.specs.Complex.{Pivot}
use Rattle.kh_types.specs.Table.{Row, from_minus, table, table_text}
use Rattle.kh_types.specs.declared.limits.TheConstants.{CROSSINGS, EXPONENT, INPUT_BYTES, LOOPS}
use Rattle.kh_lex.specs.Lines.{with_feed}
use Rattle.pd_code.specs.Printing.{pd_text}
use Rattle.prime_field.specs.Residues.{IsField, IsSmallPrime}
use Rattle.circle_smoothing.specs.GeneratorCounts.{generator_count}
use Rattle.circle_smoothing.specs.declared.limits.TheConstants.{GENERATORS}
use Rattle.cube_signs.specs.Blocks.{block_degrees, has_block}
use Rattle.shared_block.specs.AllBlocks.{AreBlocksOf}
use Rattle.shared_block.specs.BlockHistories.{BlockHistory, HasLegalHistory}
use Rattle.cancel_log.specs.LogBlocks.{IsShortBlock, block_lines, lines_of_blocks}
use Rattle.cancel_log.specs.LogLines.{IsShortDegree, IsShortPivot, block_line, cancel_line, field_line, log_line}
use Rattle.cancel_log.specs.LogTexts.{log_text, start_lines, text_of_lines}
use Rattle.cancel_log.specs.declared.limits.TheConstants.{LOG_BYTES}
use Rattle.cancel_log.proofs.HistorySizes.{pivot_count, pivots-generators}
use Rattle.cancel_log.proofs.PrintedDiagrams.{short-diagram}
use Rattle.cancel_log.proofs.ShortBlocks.{filter-le}
use Rattle.cancel_log.proofs.StartLines.{small-prime}
use Rattle.cancel_log.proofs.TableSizes.{append-le, degree-le, place-le, table_text-le}
use Rattle.cancel_log.proofs.WrittenLogs.{IsWritten, short-blocks}
use Rattle.square_laws.proofs.BlockDegrees.{length-from_minus}

-- lines

-- the line of a pivot has 27 bytes at most
cancel_line-le : (pivot : Pivot) → IsShortPivot pivot → length (cancel_line pivot) ≤ 27
cancel_line-le pivot short =
    omega (
      arith,
      degree-le pivot.degree short.degree,
      place-le pivot.column short.column,
      place-le pivot.row short.row,
      length-append (signed_decimal pivot.degree) (codes " " ++ (decimal pivot.column ++ (codes " " ++ decimal pivot.row))),
      length-append (decimal pivot.column) (codes " " ++ decimal pivot.row),
    )

-- the line of a block has ten bytes at most
block_line-le : (j : ℤ) → IsShortDegree j → length (block_line j) ≤ 10
block_line-le j short = omega (arith, degree-le j short)

-- a line comes with a line feed before other lines
line-le : (line : List ℕ) (lines : List (List ℕ)) (m n : ℕ) → length line ≤ m → length (text_of_lines lines) ≤ n
    → length (text_of_lines (line ∷ lines)) ≤ m + 1 + n
line-le line lines m n one others =
    append-le (with_feed line) (text_of_lines lines) (m + 1) n (append-le line (codes "\n") m 1 one (omega arith)) others

-- some lines and then others
lines-append : (lines others : List (List ℕ))
    → length (text_of_lines (lines ++ others)) ≡ length (text_of_lines lines) + length (text_of_lines others)
lines-append lines others =
    ap length (flat_map-append with_feed lines others) ∙ length-append (text_of_lines lines) (text_of_lines others)

-- the lines of blocks

-- the lines of a history: 28 bytes for each pivot at most
history-le : (history : List Pivot) → AllByRecursion IsShortPivot history
    → length (text_of_lines (map cancel_line history)) ≤ 28 * length history
history-le [] short = omega arith
history-le (pivot ∷ history) (one, short) =
    omega (
      arith,
      line-le (cancel_line pivot) (map cancel_line history) 27 (28 * length history) (cancel_line-le pivot one) (history-le history short),
    )

-- the lines of blocks: eleven bytes more for each block at most
blocks-le : (blocks : List BlockHistory) → AllByRecursion IsShortBlock blocks
    → length (text_of_lines (lines_of_blocks blocks)) ≤ 11 * length blocks + 28 * pivot_count blocks
blocks-le [] short = omega arith
blocks-le (held ∷ blocks) (one, short) =
    omega (
      arith,
      lines-append (block_lines held) (lines_of_blocks blocks),
      line-le (block_line held.degree) (map cancel_line held.history) 10 (28 * length held.history) (block_line-le held.degree one.degree)
          (history-le held.history (recursion_from_All IsShortPivot held.history one.history)),
      blocks-le blocks short,
      sum_by-cons (λ (b : BlockHistory). length b.history) held blocks,
    )

-- there are no more quantum degrees of blocks than there are integers up to the greatest
block_degrees-le : (code : Code) → length (block_degrees code) ≤ 2 * EXPONENT + 1
unfolding block_degrees
block_degrees-le code = omega (arith, filter-le (has_block code) (from_minus EXPONENT), length-from_minus EXPONENT)

-- and so no more blocks
length-blocks-le : (code : Code) (blocks : List BlockHistory) → AreBlocksOf code blocks → length blocks ≤ 2 * EXPONENT + 1
length-blocks-le code blocks are =
    omega (
      arith,
      block_degrees-le code,
      length-map blocks (λ (b : BlockHistory). b.degree),
      ap (λ (js : List ℤ). length js) are.degrees,
    )

-- the lines before them

-- the first three lines
start-le : (p : ℕ) (code : Code) → IsSmallPrime p → IsTrue (accepted code) → length code.crossings ≤ CROSSINGS → code.loops ≤ LOOPS
    → length (text_of_lines (start_lines p code)) ≤ INPUT_BYTES + 21
start-le p code prime is few loops =
    let field = append-le (codes "field ") (decimal p) 6 7 (omega arith) (place-le p (omega (arith, small-prime p prime))) in
    omega (
      arith,
      line-le log_line (pd_text code ∷ field_line p ∷ []) 5 (INPUT_BYTES + 15) (omega arith)
          (line-le (pd_text code) (field_line p ∷ []) INPUT_BYTES 14 (short-diagram code is few loops).0
          (line-le (field_line p) [] 13 0 field (omega arith))),
    )

-- the whole text

-- the log of blocks with legal histories has no more bytes than a log may have
pub few-of_blocks : (p : ℕ) (code : Code) (blocks : List BlockHistory) (text : List ℕ) → IsSmallPrime p → IsField p
    → IsTrue (accepted code) → length code.crossings ≤ CROSSINGS → code.loops ≤ LOOPS → generator_count code ≤ GENERATORS
    → AreBlocksOf code blocks → All (HasLegalHistory p) blocks → text ≡ log_text p code blocks → length text ≤ LOG_BYTES
few-of_blocks p code blocks text prime field is few loops size are legal same =
    let short = short-blocks p code blocks field is few size are legal in
    omega (
      arith,
      size,
      ap length same,
      length-append (text_of_lines (start_lines p code ++ lines_of_blocks blocks)) (table_text (table p code)),
      lines-append (start_lines p code) (lines_of_blocks blocks),
      start-le p code prime is few loops,
      blocks-le blocks (recursion_from_All IsShortBlock blocks short),
      length-blocks-le code blocks are,
      pivots-generators p code blocks field is are legal,
      table_text-le p code (omega (arith, small-prime p prime)) is few size,
    )

-- so has a log that is written block by block
pub few-all : (p : ℕ) (code : Code) (degrees : List ℤ) (k : ℕ) (text next lines : List ℕ) (rows : List Row) → IsSmallPrime p
    → IsField p → IsTrue (accepted code) → length code.crossings ≤ CROSSINGS → code.loops ≤ LOOPS
    → generator_count code ≤ GENERATORS → IsWritten p code degrees k text rows → length degrees ≤ k → degrees ≡ block_degrees code
    → lines ≡ table_text (table p code) → next ≡ text ++ lines → length next ≤ LOG_BYTES
few-all p code degrees k text next lines rows prime field is few loops size so_far all are is_lines is_next =
    few-of_blocks p code so_far.blocks next prime field is few loops size
    (record { diagram = so_far.diagram; degrees = so_far.degrees_are ∙ take_all k degrees all ∙ are }) so_far.legal
    (is_next ∙ ap₂ (λ (xs ys : List ℕ). xs ++ ys) so_far.text_is is_lines)
