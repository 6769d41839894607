-- The verdict on a whole log, from those on its parts.
-- One list of lines cuts a text, so that the text comes to what these lines come to (`verdict-text`, `verdict-lines`). They begin as
-- a log and go on, or fail at the start. What comes behind is compared with the printed table, whose first line closes the blocks
-- and is taken before (`table-taken`).
use Rattle.std.proofs.Common.{◌≡◌, ◌≢◌, ℕ, suc, ◌+◌, ◌≤◌, ◌∙◌, List, [], ◌∷◌, ◌++◌, length, Bor, inl, inr, refl, sym, ap, subst, arith}
use Rattle.std.specs.Prelude.{IfOk, IfSome, Option, None, Some, Result, Ok, Err}
use Rattle.std.specs.Fmt.{decimal}
use Rattle.std.specs.List.{flat_map}
use Rattle.kh_types.specs.Code.{Code}
use Rattle.kh_types.specs.Table.{Table, row_text, table, table_text}
use Rattle.kh_lex.specs.Lines.{lines_of}
use Rattle.kh_lex.proofs.LineCuts.{CutsLines-lines_of, lines_of-CutsLines}
use Rattle.circle_smoothing.specs.GeneratorCounts.{generator_count}
use Rattle.circle_smoothing.specs.declared.limits.TheConstants.{GENERATORS}
use Rattle.cancel_log.specs.LinesLeft.{AreFew, DifferAt, LinesLeft, TakesLine, lines_left}
use Rattle.cancel_log.specs.LogBlocks.{lines_of_blocks}
use Rattle.cancel_log.specs.LogLines.{close_line, table_lines_of}
use Rattle.cancel_log.specs.Standings.{HasProved}
use Rattle.cancel_log.specs.Verdicts.{BeginsAsLog, DifferFirst, FailsAtStart, IsLog, IsLogOf, IsVerdict, IsVerdictBehind, IsVerdictOn}
use Rattle.cancel_log.specs.declared.cause.LogCause.TheVariants as causes
use Rattle.cancel_log.specs.declared.limits.TheConstants.{LOG_BYTES}
use Rattle.cancel_log.specs.declared.stop.LogStop.{LogStop}
use Rattle.cancel_log.specs.declared.stop.LogStop.TheVariants.{Line, SizeLimit, NoMemory}
use Rattle.cancel_log.proofs.LinesTaken.{length-lines_of-le}

-- by the lines that a text is cut in

-- a text is a log where its lines are
pub log-text : (p : ℕ) (code : Code) (text : List ℕ) → IsLogOf p code (lines_of text) → IsLog p code text
log-text p code text log = record { lines = lines_of text; cut = CutsLines-lines_of text; log = log }

-- and only there
log-lines : (p : ℕ) (code : Code) (text : List ℕ) → IsLog p code text → IsLogOf p code (lines_of text)
log-lines p code text is = subst (IsLogOf p code) (lines_of-CutsLines text is.lines is.cut) is.log

-- it comes to what its lines do
pub verdict-text : (text : List ℕ) (verdict : Result Table LogStop) → IsVerdictOn (lines_of text) verdict → IsVerdict text verdict
verdict-text text verdict reached = record { lines = lines_of text; cut = CutsLines-lines_of text; reached = reached }

-- and to nothing else
pub verdict-lines : (text : List ℕ) (verdict : Result Table LogStop) → IsVerdict text verdict → IsVerdictOn (lines_of text) verdict
verdict-lines text verdict is =
    subst (λ (lines : List (List ℕ)). IsVerdictOn lines verdict) (lines_of-CutsLines text is.lines is.cut) is.reached

-- the whole from its parts

pub verdict-start : (text : List ℕ) (stop : LogStop) → FailsAtStart (lines_of text) (Err stop) → IsVerdict text (Err stop)
verdict-start text stop fails = verdict-text text (Err stop) (inl fails)

pub verdict-behind : (text : List ℕ) (code : Code) (p : ℕ) (others : List (List ℕ)) (verdict : Result Table LogStop)
    → BeginsAsLog (lines_of text) code p others → IsVerdictBehind p code others verdict → IsVerdict text verdict
verdict-behind text code p others verdict begins behind =
    verdict-text text verdict (inr (record { code = code; p = p; others = others; begins = begins; behind = behind }))

pub verdict-table : (text : List ℕ) (homology : Table) → IsVerdict text (Ok homology)
    → (p : ℕ) × (code : Code) × IsLog p code text × (homology ≡ table p code)
verdict-table text homology is = go (verdict-lines text (Ok homology) is)
  where
    go : IsVerdictOn (lines_of text) (Ok homology) → (p : ℕ) × (code : Code) × IsLog p code text × (homology ≡ table p code)
    go (inl fails) = absurd fails
    go (inr goes) = (
      goes.p,
      goes.code,
      log-text goes.p goes.code text (record { others = goes.others; begins = goes.begins; prove = goes.behind.0 }),
      goes.behind.1,
    )

-- the table of what comes behind the start
pub verdict-log : (text : List ℕ) (code : Code) (p : ℕ) (others : List (List ℕ)) (verdict : Result Table LogStop)
    → BeginsAsLog (lines_of text) code p others → (verdict ≢ Err NoMemory → IsVerdictBehind p code others verdict)
    → IfOk verdict (λ homology. (p : ℕ) × (code : Code) × IsLog p code text × (homology ≡ table p code))
verdict-log text code p others (Ok homology) begins behind =
    verdict-table text homology (verdict-behind text code p others (Ok homology) begins (behind (λ is. absurd (cc))))
verdict-log text code p others (Err stop) begins behind = tt

pub few-first : (text : List ℕ) → length text ≤ LOG_BYTES → AreFew (lines_left 1 0 text)
few-first text few = omega (arith, few, length-lines_of-le text)

pub few-fourth : (first last : LinesLeft) (code : Code) (p : ℕ) → AreFew first → BeginsAsLog first.rest code p last.rest
    → last.number ≡ first.number + 3 → AreFew last
few-fourth first last code p few begins number = omega (arith, few, number, ap length begins.parts)

pub ruleset verdicts = (verdict-start, verdict-behind, verdict-table, few-first, few-fourth)

-- behind the start

pub behind-large : (p : ℕ) (code : Code) (others : List (List ℕ)) (generators : ℕ) → generators ≡ generator_count code
    → (generator_count code ≤ GENERATORS → ⊥) → IsVerdictBehind p code others (Err (SizeLimit generators))
behind-large p code others generators same above = (same, omega (arith, same, above))

-- the first line of a table
pub table-first : (homology : Table) → (more : List (List ℕ)) × (table_lines_of homology ≡ close_line ∷ more)
table-first homology = (lines_of (field_and_rows homology), refl)
  where
    field_and_rows : Table → List ℕ
    field_and_rows homology = 102 ∷ 105 ∷ 101 ∷ 108 ∷ 100 ∷ 32 ∷ (decimal homology.field ++ (10 ∷ [] ++ flat_map row_text homology.rows))

-- the other lines, once the first is taken
pub table-taken : (homology : Table) (text line : List ℕ) (wanted : LinesLeft) → text ≡ table_text homology
    → TakesLine (lines_left 1 0 text) line wanted → table_lines_of homology ≡ close_line ∷ wanted.rest
table-taken homology text line wanted is takes =
    let first = table-first homology in
    let both : close_line ∷ first.0 ≡ line ∷ wanted.rest = sym first.1 ∙ ap lines_of (sym is) ∙ takes.rest in
    let same : first.0 ≡ wanted.rest = cc in
    first.1 ∙ ap (λ (ls : List (List ℕ)). close_line ∷ ls) same

pub table-some : (homology : Table) (text : List ℕ) → text ≡ table_text homology → lines_of text ≢ []
table-some homology text is none =
    let so : close_line ∷ (table-first homology).0 ≡ [] = sym (table-first homology).1 ∙ ap lines_of (sym is) ∙ none in absurd (cc)

pub table-behind : (homology : Table) (text read : List ℕ) (start wanted : LinesLeft) (found : Option (Bor (List ℕ)))
    → text ≡ table_text homology → read ≡ text → start ≡ lines_left 1 0 read
    → IfSome found (λ line. TakesLine start line.now wanted) → (found ≡ None → (start.rest ≡ []) × (wanted ≡ start))
    → table_lines_of homology ≡ close_line ∷ wanted.rest
table-behind homology text read start wanted (Some line) is same first some none =
    table-taken homology read line.now wanted (same ∙ is)
    (subst (λ (left : LinesLeft). TakesLine left line.now wanted) first some)
table-behind homology text read start wanted None is same first some none =
    absurd (table-some homology read (same ∙ is) (sym (ap (λ (left : LinesLeft). left.rest) first) ∙ (none refl).0))

-- the table is that of the log
pub behind-ok : (p : ℕ) (code : Code) (others : List (List ℕ)) (left wanted : LinesLeft) (homology : Table) → generator_count code ≤ GENERATORS
    → HasProved p code others left → homology ≡ table p code → table_lines_of homology ≡ close_line ∷ wanted.rest
    → left.rest ≡ wanted.rest → IsVerdictBehind p code others (Ok homology)
behind-ok p code others left wanted homology within has same lines alike = (
  record {
    within = within;
    blocks = has.blocks;
    proved = has.proved;
    parts = has.parts
        ∙ ap (λ (ls : List (List ℕ)). lines_of_blocks has.blocks ++ ls)
        (ap (λ (ls : List (List ℕ)). close_line ∷ ls) alike ∙ sym lines ∙ ap table_lines_of same);
  },
  same,
)

-- a line of the table is another
pub behind-table : (p : ℕ) (code : Code) (others : List (List ℕ)) (left wanted : LinesLeft) (homology : Table) (number line : ℕ)
    → generator_count code ≤ GENERATORS → HasProved p code others left → homology ≡ table p code
    → table_lines_of homology ≡ close_line ∷ wanted.rest → DifferAt left wanted number → line ≡ number
    → IsVerdictBehind p code others (Err (Line line causes.Table))
behind-table p code others left wanted homology number line within has same lines (place, numbered, first) is =
    let wanted_lines : table_lines_of (table p code) ≡ close_line ∷ wanted.rest = ap table_lines_of (sym same) ∙ lines in
    record {
      blocks = has.blocks;
      later = left.rest;
      tell = record { within = within; stand = has.proved.stand; parts = has.parts };
      proved = has.proved;
      place = suc place;
      first = subst (λ (ls : List (List ℕ)). DifferFirst (close_line ∷ left.rest) ls (suc place)) (sym wanted_lines)
          (record { before = ap (λ (ls : List (List ℕ)). close_line ∷ ls) first.before; differ = first.differ });
      numbered = omega (arith, is, numbered, has.numbered);
    }

pub ruleset behinds = (behind-large, table-taken, table-some, behind-ok, behind-table)

-- a log of a diagram is verified
pub log-verified : (p : ℕ) (code : Code) (text : List ℕ) → IsLog p code text → IsVerdict text (Ok (table p code))
log-verified p code text is =
    let log = log-lines p code text is in
    verdict-text text (Ok (table p code))
    (inr (record { code = code; p = p; others = log.others; begins = log.begins; behind = (log.prove, refl) }))
