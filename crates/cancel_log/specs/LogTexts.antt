-- The text of a log that is written.
use Rattle.std.specs.Prelude.{ℕ, List, [], ◌∷◌, ◌++◌}
use Rattle.std.specs.List.{flat_map}
use Rattle.kh_types.specs.Code.{Code}
use Rattle.kh_types.specs.Table.{table, table_text}
use Rattle.kh_lex.specs.Lines.{with_feed}
use Rattle.pd_code.specs.Printing.{pd_text}
use Rattle.shared_block.specs.BlockHistories.{BlockHistory}
use Rattle.cancel_log.specs.LogBlocks.{lines_of_blocks}
use Rattle.cancel_log.specs.LogLines.{field_line, log_line}

-- the lines before the first block: `log 1`, the diagram in print, and the field
abbrev pub start_lines : ℕ → Code → List (List ℕ)
start_lines p code = log_line ∷ pd_text code ∷ field_line p ∷ []

-- lines as a text, with a line feed behind each
abbrev pub text_of_lines : List (List ℕ) → List ℕ
text_of_lines lines = flat_map with_feed lines

-- the text of a log with these blocks: the lines before them, theirs, and the text of the table
abbrev pub log_text : ℕ → Code → List BlockHistory → List ℕ
log_text p code blocks = text_of_lines (start_lines p code ++ lines_of_blocks blocks) ++ table_text (table p code)
