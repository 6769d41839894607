-- Lines whose entries stand in one list.
use Rattle.std.specs.Prelude.{◌≤◌, List, length, map, slice_range, All}
use Rattle.sparse_block.specs.Entries.{Entry}
use Rattle.sparse_block.specs.Changes.{PlacedLine, placed}
use Rattle.cancel_step.specs.declared.copied_lines.Span.{Span}

-- the line whose entries stand between the two indices of a span
abbrev pub line_in : List Entry → Span → PlacedLine
line_in entries span = placed span.place (slice_range entries span.start span.end)

-- the lines of these spans
abbrev pub spanned_lines : List Span → List Entry → List PlacedLine
spanned_lines spans entries = map (line_in entries) spans

-- each of the spans stands within the list of entries
abbrev pub AreSpans : List Span → List Entry → Type 0
AreSpans spans entries = All (λ span. (span.start ≤ span.end) × (span.end ≤ length entries)) spans
