-- The verdicts on texts whose lines are given with what they say.
use Rattle.std.proofs.Common.{◌≡◌, ℕ, ◌+◌, ◌∙◌, Bool, false, cond, List, [], ◌∷◌, inl, refl, sym, ap, subst, arith, codes}
use Rattle.std.specs.Prelude.{None, Some, Result, Ok, Err, nat_lt}
use Rattle.kh_types.specs.Acceptance.{accepted, first_fault}
use Rattle.kh_types.specs.Code.{Code}
use Rattle.kh_types.specs.Table.{Table, table}
use Rattle.kh_types.specs.WorkedCodes.{curl, one_loop}
use Rattle.kh_lex.specs.Lines.{lines_of}
use Rattle.prime_field.specs.Residues.{IsSmallPrime}
use Rattle.pd_code.proofs.ReadingLemmas.{IsPdReading-reading_of}
use Rattle.circle_smoothing.specs.GeneratorCounts.{generator_count}
use Rattle.circle_smoothing.specs.declared.limits.TheConstants.{GENERATORS}
use Rattle.cancel_log.specs.LogLines.{Says, field_line, log_line, table_lines_of}
use Rattle.cancel_log.specs.Standings.{Standing, is_close, standing_first, step}
use Rattle.cancel_log.specs.Verdicts.{DifferFirst, IsVerdict, IsVerdictBehind, NamesDiagram}
use Rattle.cancel_log.specs.declared.cause.LogCause.{LogCause}
use Rattle.cancel_log.specs.declared.cause.LogCause.TheVariants as causes
use Rattle.cancel_log.specs.declared.line.LogLine.{LogLine}
use Rattle.cancel_log.specs.declared.stop.LogStop.{LogStop}
use Rattle.cancel_log.specs.declared.stop.LogStop.TheVariants.{Line, SizeLimit}
use Rattle.cancel_log.proofs.FirstDifferences.{compared}
use Rattle.cancel_log.proofs.LineSays.{Says-one, Says-some}
use Rattle.cancel_log.proofs.StandingWalks.{Halt, halt_at, said_of, walk, walked}
use Rattle.cancel_log.proofs.WholeLogs.{verdict-behind}
use Rattle.cancel_log.proofs.VerdictsBehind.{IsVerdictBehind-verdict_behind, compared-other, compared-same, halted, number_left, verdict_behind}

-- lines say these things, as far as they are given
abbrev pub Say : List (List ℕ) → List LogLine → Type 0
Say [] saids = Unit {0}
Say (line ∷ lines) [] = Unit {0}
Say (line ∷ lines) (said ∷ saids) = Says line said × Say lines saids

-- where the walk over lines halts, which say these things
abbrev pub walk_by : ℕ → Code → Standing → List (List ℕ) → List LogLine → Halt
walk_by p code standing [] saids = walk p code standing []
walk_by p code standing (line ∷ later) [] = walk p code standing (line ∷ later)
walk_by p code standing (line ∷ later) (said ∷ saids) =
    walked (line ∷ later) said (step p code standing said) (λ next. walk_by p code next later saids)

-- where the rest of the walk is one, so is the walk
walked-rest : (left : List (List ℕ)) (said : LogLine) (r : Result Standing LogCause) (behind other : Standing → Halt)
    → ((next : Standing) → behind next ≡ other next) → walked left said r behind ≡ walked left said r other
walked-rest left said (Err cause) behind other same = refl
walked-rest left said (Ok next) behind other same = ap (λ (halt : Halt). cond (is_close said) (halt_at left None) halt) (same next)

-- they say these things, and it halts there
walk-by : (p : ℕ) (code : Code) (standing : Standing) (lines : List (List ℕ)) (saids : List LogLine) → Say lines saids
    → walk p code standing lines ≡ walk_by p code standing lines saids
walk-by p code standing [] saids say = refl
walk-by p code standing (line ∷ later) [] say = refl
walk-by p code standing (line ∷ later) (said ∷ saids) (says, say) =
    let same : said_of line ≡ said = Says-one line (said_of line) said (Says-some line).1 says in
    ap (λ (s : LogLine). walked (line ∷ later) s (step p code standing s) (λ next. walk p code next later)) same
    ∙ walked-rest (line ∷ later) said (step p code standing said) (λ next. walk p code next later)
    (λ next. walk_by p code next later saids) (λ next. walk-by p code next later saids say)

-- by whether the diagram is too large, the verdict on lines where the walk halts so
abbrev sized : ℕ → Code → List (List ℕ) → Halt → Bool → Result Table LogStop
sized p code others halt large = cond large (Err (SizeLimit (generator_count code))) (halted p code others halt)

-- the verdict on lines that say these things, where the walk halts so
verdict-by : (p : ℕ) (code : Code) (others : List (List ℕ)) (saids : List LogLine) (halt : Halt) → Say others saids
    → nat_lt GENERATORS (generator_count code) ≡ false → walk_by p code standing_first others saids ≡ halt
    → verdict_behind p code others ≡ halted p code others halt
verdict-by p code others saids halt say small halts =
    ap (sized p code others (walk p code standing_first others)) small
    ∙ ap (halted p code others) (walk-by p code standing_first others saids say ∙ halts)

-- the verdict on a text that begins as a log is that on its other lines
goes-on : (text named : List ℕ) (p : ℕ) (code : Code) (others : List (List ℕ)) (verdict : Result Table LogStop)
    → NamesDiagram named code → IsSmallPrime p → lines_of text ≡ log_line ∷ named ∷ field_line p ∷ others
    → verdict_behind p code others ≡ verdict → IsVerdict text verdict
goes-on text named p code others verdict names prime parts is =
    verdict-behind text code p others verdict (record { text = named; diagram = names; field = prime; parts = parts })
    (subst (IsVerdictBehind p code others) is (IsVerdictBehind-verdict_behind p code others))

-- the first three lines of a log, of a diagram that is small
pub record Starts (named : List ℕ) (p : ℕ) (code : Code) : Type 0 where
  pub names : NamesDiagram named code
  pub prime : IsSmallPrime p
  pub small : nat_lt GENERATORS (generator_count code) ≡ false

-- those of a loop, over two elements
pub loop-starts : Starts (codes "PD[Loop[1]]") 2 one_loop
unfolding accepted first_fault
loop-starts = record {
  names = record { few = omega arith; reads = IsPdReading-reading_of (codes "PD[Loop[1]]"); accepted = refl };
  prime = inl refl;
  small = refl;
}

-- those of a curl, over two elements
pub curl-starts : Starts (codes "PD[X[1,1,2,2]]") 2 curl
unfolding accepted first_fault
curl-starts = record {
  names = record { few = omega arith; reads = IsPdReading-reading_of (codes "PD[X[1,1,2,2]]"); accepted = refl };
  prime = inl refl;
  small = refl;
}

-- a log whose walk halts at a wrong line, or at its end
pub wrong-by : {text named : List ℕ} {p : ℕ} {code : Code} (others : List (List ℕ)) (saids : List LogLine) (left : List (List ℕ))
    (cause : LogCause) → Starts named p code → lines_of text ≡ log_line ∷ named ∷ field_line p ∷ others → Say others saids
    → walk_by p code standing_first others saids ≡ halt_at left (Some cause)
    → IsVerdict text (Err (Line (number_left others left) cause))
wrong-by {text = text} {named = named} {p = p} {code = code} others saids left cause starts parts say halts =
    goes-on text named p code others (Err (Line (number_left others left) cause)) starts.names starts.prime parts
    (verdict-by p code others saids (halt_at left (Some cause)) say starts.small halts)

-- a log whose walk halts at the closing line, and whose lines from there on are not those of the table
pub other-by : {text named : List ℕ} {p : ℕ} {code : Code} (others : List (List ℕ)) (saids : List LogLine) (left : List (List ℕ))
    (place : ℕ) → Starts named p code → lines_of text ≡ log_line ∷ named ∷ field_line p ∷ others → Say others saids
    → walk_by p code standing_first others saids ≡ halt_at left None → DifferFirst left (table_lines_of (table p code)) place
    → IsVerdict text (Err (Line (number_left others left + place) causes.Table))
other-by {text = text} {named = named} {p = p} {code = code} others saids left place starts parts say halts first =
    let lines = table_lines_of (table p code) in
    let number = number_left others left in
    goes-on text named p code others (Err (Line (number + place) causes.Table)) starts.names starts.prime parts
    (verdict-by p code others saids (halt_at left None) say starts.small halts
    ∙ sym (compared-other p code number place left (compared left lines) first))

-- a log whose walk halts at the closing line, and whose lines from there on are those of the table
pub table-by : {text named : List ℕ} {p : ℕ} {code : Code} (others : List (List ℕ)) (saids : List LogLine) (left : List (List ℕ))
    → Starts named p code → lines_of text ≡ log_line ∷ named ∷ field_line p ∷ others → Say others saids
    → walk_by p code standing_first others saids ≡ halt_at left None → left ≡ table_lines_of (table p code)
    → IsVerdict text (Ok (table p code))
table-by {text = text} {named = named} {p = p} {code = code} others saids left starts parts say halts same =
    let lines = table_lines_of (table p code) in
    goes-on text named p code others (Ok (table p code)) starts.names starts.prime parts
    (verdict-by p code others saids (halt_at left None) say starts.small halts
    ∙ sym (compared-same p code (number_left others left) left (compared left lines) same))
