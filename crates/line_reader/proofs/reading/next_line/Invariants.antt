use Rattle.std.proofs.Common.{◌≡◌, ℕ, List, length}
use Rattle.kh_lex.specs.Lines.{HasNoLineFeed}
use Rattle.line_reader.specs.Advances.{IsAdvanced}
use Rattle.line_reader.specs.Lines.{kept}
use Rattle.line_reader.proofs.LineReads.{IsPartRead}
use Rattle.line_reader.proofs.reading.next_line.Given as goal

-- as many bytes as turns were taken, none of them is a line feed, and the line has what is kept of them
abbrev pub invariant-bytes : goal.invariant-bytes
invariant-bytes g l = record {
  part : (part : List ℕ) × HasNoLineFeed part × (l.line ≡ kept part) × (length part ≡ l.counter)
      × IsAdvanced l.fn.buffered l.buffered (g.S.Source.left l.fn.source) (g.S.Source.left l.source) part
      × IsPartRead g.S.Source.left g.S.Source.reads l.fn.buffered l.buffered l.fn.source l.source part;
  stayed : g.S.Source.faults l.source ≡ g.S.Source.faults l.fn.source;
}
