-- How bytes are taken of a source through a buffer.
use Rattle.std.specs.Prelude.{◌≡◌, ℕ, ◌+◌, ◌-◌, ◌^◌, ◌≤◌, List, [], ◌∷◌, ◌++◌, length, codes, Option, None, Some}
use Rattle.std.specs.Io.KnownBytes.{Consumes, IsAtEnd}
use Rattle.kh_io.specs.declared.limits.TheConstants.{READ_BYTES}
use Rattle.kh_lex.specs.Lines.{HasNoLineFeed}
use Rattle.line_reader.specs.Lines.{Kept, kept}
use Rattle.line_reader.specs.declared.reading.LineStop.{LineStop}
use Rattle.line_reader.specs.declared.reading.NextLine.{NextLine}
use Rattle.line_reader.specs.declared.reading.NextLine.TheVariants.{Ended, Last}
use Rattle.line_reader.specs.declared.reading.LineStop.TheVariants.{Fault, Limit}

-- these bytes were taken of a source through a buffer: what was buffered before, and what the source then gave, are these bytes, and what
-- is buffered now
pub record IsAdvanced (before after : List ℕ) (left_before left_after : Option (List ℕ)) (bytes : List ℕ) : Type 0 where
  pub given : List ℕ
  pub consumed : Consumes left_before left_after given
  pub same : before ++ given ≡ bytes ++ after

-- nothing is left of a source, and nothing is buffered
abbrev pub IsSpent : List ℕ → Option (List ℕ) → Type 0
IsSpent after left_after = IsAtEnd left_after × (after ≡ [])

-- the first of some bytes was taken, or there was none
abbrev pub IsTakenFrom : List ℕ → List ℕ → Option ℕ → Type 0
IsTakenFrom before after (Some byte) = before ≡ byte ∷ after
IsTakenFrom before after None = (before ≡ []) × (after ≡ [])

-- the next byte was taken, or there was none
abbrev pub IsNextByte : List ℕ → List ℕ → Option (List ℕ) → Option (List ℕ) → Option ℕ → Type 0
IsNextByte before after left_before left_after (Some byte) = IsAdvanced before after left_before left_after (byte ∷ [])
IsNextByte before after left_before left_after None =
    IsAdvanced before after left_before left_after [] × IsSpent after left_after

-- a source was read for a line no further than to its line feed: up to the last read there was none, neither buffered nor given, and what
-- stays buffered is of that read. Each read but the last gave a byte or more
pub record IsReadForLine (before after : List ℕ) (left_before left_after : Option (List ℕ)) (reads_before reads_after : ℕ) : Type 0 where
  pub earlier : List ℕ
  pub last : List ℕ
  pub consumed : Consumes left_before left_after (earlier ++ last)
  pub none : HasNoLineFeed (before ++ earlier)
  pub rest : (taken : List ℕ) × (last ≡ taken ++ after)
  pub size : length last ≤ READ_BYTES
  pub reads : reads_after ≤ reads_before + (length earlier + 1)

-- bytes without a line feed, of which this is kept, were taken, and some behind them
pub record IsLineTaken (before after : List ℕ) (left_before left_after : Option (List ℕ)) (behind : List ℕ) (found : Kept) : Type 0 where
  pub line : List ℕ
  pub kept_of : found ≡ kept line
  pub whole : HasNoLineFeed line
  pub taken : IsAdvanced before after left_before left_after (line ++ behind)

-- a line was taken with the line feed that ends it; or what follows the last line feed, at the end of the source
abbrev pub IsNextLine : List ℕ → List ℕ → Option (List ℕ) → Option (List ℕ) → NextLine → Type 0
IsNextLine before after left_before left_after (Ended found) = IsLineTaken before after left_before left_after (codes "\n") found
IsNextLine before after left_before left_after (Last found) =
    IsLineTaken before after left_before left_after [] found × IsSpent after left_after

-- there is no next line: a part of one was taken; where reading failed nothing is buffered, and at the limit the part is as long as that
pub record IsStopped (before after : List ℕ) (left_before left_after : Option (List ℕ)) (stop : LineStop) : Type 0 where
  pub part : List ℕ
  pub whole : HasNoLineFeed part
  pub taken : IsAdvanced before after left_before left_after part
  pub emptied : stop ≡ Fault → after ≡ []
  pub long : stop ≡ Limit → 2 ^ 64 - 1 ≤ length part
