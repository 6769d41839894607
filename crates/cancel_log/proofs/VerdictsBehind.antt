-- The lines from the fourth on have exactly one verdict.
-- `verdict_behind` computes it: it walks over the lines, and where the walk closes it compares what is left with the table. It is a
-- verdict, by induction on the walk, which stands behind blocks at each line (`walk-verdict`). Each verdict is this one: it tells
-- of blocks that stand, the walk gets behind these (`told-one`), and there it halts as the verdict says.
use Rattle.std.proofs.Common.{◌≡◌, ℕ, ◌+◌, ◌-◌, ◌≤◌, ◌∙◌, Bool, true, false, cond, List, [], ◌∷◌, ◌++◌, length, inl, inr, refl, sym, ap, subst, arith}
use Rattle.std.specs.Prelude.{All, Option, None, Some, Result, Ok, Err, nat_lt, slice_get}
use Rattle.std.proofs.lemmas.Bool.{le-ltb, lt-ltb, ltb-false, ltb-true}
use Rattle.std.proofs.lemmas.List.{append_assoc, length-append}
use Rattle.kh_types.specs.Code.{Code}
use Rattle.kh_types.specs.Table.{Table, table}
use Rattle.circle_smoothing.specs.GeneratorCounts.{generator_count}
use Rattle.circle_smoothing.specs.declared.limits.TheConstants.{GENERATORS}
use Rattle.shared_block.specs.AllBlocks.{IsFinished, degrees_of_blocks}
use Rattle.shared_block.specs.BlockHistories.{BlockHistory}
use Rattle.cancel_log.specs.LogBlocks.{IsWrong, lines_of_blocks}
use Rattle.cancel_log.specs.LogLines.{Says, close_line, table_lines_of}
use Rattle.cancel_log.specs.Standings.{Standing, standing_first, step}
use Rattle.cancel_log.specs.Verdicts.{AreProved, DifferFirst, EndEarly, HaveWrongLine, HaveWrongTable, IsVerdictBehind, ProveTable, TellOf, number_behind}
use Rattle.cancel_log.specs.declared.cause.LogCause.{LogCause}
use Rattle.cancel_log.specs.declared.cause.LogCause.TheVariants as causes
use Rattle.cancel_log.specs.declared.line.LogLine.{LogLine}
use Rattle.cancel_log.specs.declared.line.LogLine.TheVariants.{Cancel, Begin, Close, Other}
use Rattle.cancel_log.specs.declared.stop.LogStop.{LogStop}
use Rattle.cancel_log.specs.declared.stop.LogStop.TheVariants.{Line, SizeLimit, NoMemory}
use Rattle.cancel_log.proofs.FirstDifferences.{Compared, DifferFirst-one, compared}
use Rattle.cancel_log.proofs.LineSays.{Says-some}
use Rattle.cancel_log.proofs.ReplayedLines.{wrong-behind}
use Rattle.cancel_log.proofs.StandingSteps.{ComesTo, GoesOnWith, IsAt, IsAt-first, Stand-at, all_blocks, step-comes}
use Rattle.cancel_log.proofs.StandingWalks.{Halt, halt_at, said_of, walk, walk-closes, walk-wrong, walked, walks-Stand}
use Rattle.cancel_log.proofs.WholeLogs.{table-first}
use Rattle.cancel_log.proofs.WrongSteps.{proved-closes, wrong-steps}

-- the number of the first line that is left of the lines from the fourth on
abbrev pub number_left : List (List ℕ) → List (List ℕ) → ℕ
number_left others left = 4 + (length others - length left)

-- the verdict where lines from the closing one on, which has a number, are those of the table, or other ones
abbrev pub compared_verdict : (p : ℕ) (code : Code) (number : ℕ) (left : List (List ℕ)) → Compared left (table_lines_of (table p code))
    → Result Table LogStop
compared_verdict p code number left (inl same) = Ok (table p code)
compared_verdict p code number left (inr (place, first)) = Err (Line (number + place) causes.Table)

-- the verdict where the walk over the lines halts
abbrev halt_verdict : ℕ → Code → List (List ℕ) → List (List ℕ) → Option LogCause → Result Table LogStop
halt_verdict p code others left (Some cause) = Err (Line (number_left others left) cause)
halt_verdict p code others left None =
    compared_verdict p code (number_left others left) left (compared left (table_lines_of (table p code)))

-- with its two parts as one
abbrev pub halted : ℕ → Code → List (List ℕ) → Halt → Result Table LogStop
halted p code others halt = halt_verdict p code others halt.left halt.fault

-- the verdict on the lines from the fourth on
abbrev pub verdict_behind : ℕ → Code → List (List ℕ) → Result Table LogStop
verdict_behind p code others =
    cond (nat_lt GENERATORS (generator_count code)) (Err (SizeLimit (generator_count code)))
    (halted p code others (walk p code standing_first others))

-- the number of the line behind those of blocks
number-left : (others left : List (List ℕ)) (blocks : List BlockHistory) → others ≡ lines_of_blocks blocks ++ left
    → number_left others left ≡ number_behind blocks
number-left others left blocks parts = omega (arith, ap length parts, length-append (lines_of_blocks blocks) left)

-- it is a verdict

-- behind blocks that prove the table
table-verdict : (p : ℕ) (code : Code) (others left later : List (List ℕ)) (blocks : List BlockHistory)
    (found : Compared left (table_lines_of (table p code))) → generator_count code ≤ GENERATORS → AreProved p code blocks
    → others ≡ lines_of_blocks blocks ++ left → left ≡ close_line ∷ later
    → IsVerdictBehind p code others (compared_verdict p code (number_left others left) left found)
table-verdict p code others left later blocks (inl same) within proved parts is = (
  record {
    within = within;
    blocks = blocks;
    proved = proved;
    parts = parts ∙ ap (λ (ls : List (List ℕ)). lines_of_blocks blocks ++ ls) same;
  },
  refl,
)
table-verdict p code others left later blocks (inr (place, first)) within proved parts is = record {
  blocks = blocks;
  later = later;
  tell = record {
    within = within;
    stand = proved.stand;
    parts = parts ∙ ap (λ (ls : List (List ℕ)). lines_of_blocks blocks ++ ls) is;
  };
  proved = proved;
  place = place;
  first = subst (λ (ls : List (List ℕ)). DifferFirst ls (table_lines_of (table p code)) place) is first;
  numbered = ap (λ (n : ℕ). n + place) (number-left others left blocks parts);
}

-- behind a line that goes on
more-parts : (p : ℕ) (code : Code) (others later : List (List ℕ)) (blocks : List BlockHistory) (line : List ℕ) (next : Standing)
    (goes : GoesOnWith p code blocks line next) → others ≡ lines_of_blocks blocks ++ line ∷ later
    → others ≡ lines_of_blocks (all_blocks goes.before next.current) ++ later
more-parts p code others later blocks line next goes parts =
    parts
    ∙ sym (append_assoc (lines_of_blocks blocks) (line ∷ []) later)
    ∙ ap (λ (ls : List (List ℕ)). ls ++ later) (sym goes.lines)

-- what a line behind blocks that stand comes to, where what comes behind it has its verdict
line-verdict : (p : ℕ) (code : Code) (others later : List (List ℕ)) (before : List BlockHistory) (standing : Standing) (line : List ℕ)
    (said : LogLine) (r : Result Standing LogCause) → generator_count code ≤ GENERATORS → IsAt p code before standing → Says line said
    → ComesTo p code (all_blocks before standing.current) line said r
    → others ≡ lines_of_blocks (all_blocks before standing.current) ++ line ∷ later
    → ((front : List BlockHistory) (next : Standing) → IsAt p code front next
    → others ≡ lines_of_blocks (all_blocks front next.current) ++ later
    → IsVerdictBehind p code others (halted p code others (walk p code next later)))
    → IsVerdictBehind p code others (halted p code others (walked (line ∷ later) said r (λ next. walk p code next later)))
line-verdict p code others later before standing line said (Err cause) within at says wrong parts rest =
    let blocks = all_blocks before standing.current in
    wrong-behind p code others (number_left others (line ∷ later)) cause blocks said wrong (record {
      blocks = blocks;
      line = line;
      later = later;
      tell = record { within = within; stand = Stand-at p code before standing at; parts = parts };
      said = said;
      says = says;
      wrong = wrong;
      numbered = number-left others (line ∷ later) blocks parts;
    })
line-verdict p code others later before standing line (Cancel pivot) (Ok next) within at says goes parts rest =
    rest goes.before next goes.at (more-parts p code others later (all_blocks before standing.current) line next goes parts)
line-verdict p code others later before standing line (Begin j) (Ok next) within at says goes parts rest =
    rest goes.before next goes.at (more-parts p code others later (all_blocks before standing.current) line next goes parts)
line-verdict p code others later before standing line Close (Ok next) within at says closes parts rest =
    table-verdict p code others (line ∷ later) later (all_blocks before standing.current)
    (compared (line ∷ later) (table_lines_of (table p code))) within closes.proved parts
    (ap (λ (l : List ℕ). l ∷ later) says)
line-verdict p code others later before standing line Other (Ok next) within at says comes parts rest = absurd comes

-- where the reading stands behind blocks
walk-verdict : (p : ℕ) (code : Code) (others left : List (List ℕ)) (before : List BlockHistory) (standing : Standing)
    → generator_count code ≤ GENERATORS → IsAt p code before standing
    → others ≡ lines_of_blocks (all_blocks before standing.current) ++ left
    → IsVerdictBehind p code others (halted p code others (walk p code standing left))
walk-verdict p code others [] before standing within at parts =
    let blocks = all_blocks before standing.current in
    inl (record {
      blocks = blocks;
      tell = record { within = within; stand = Stand-at p code before standing at; parts = parts };
      numbered = number-left others [] blocks parts;
    })
walk-verdict p code others (line ∷ later) before standing within at parts =
    let said = said_of line in
    let says = (Says-some line).1 in
    line-verdict p code others later before standing line said (step p code standing said) within at says
    (step-comes p code before standing.begun standing.current standing.rows line said at says) parts
    (λ front next is behind. walk-verdict p code others later front next within is behind)

-- by whether the diagram is too large
sized-verdict : (p : ℕ) (code : Code) (others : List (List ℕ)) (large : Bool) → nat_lt GENERATORS (generator_count code) ≡ large
    → IsVerdictBehind p code others
    (cond large (Err (SizeLimit (generator_count code))) (halted p code others (walk p code standing_first others)))
sized-verdict p code others true is = (refl, ltb-true GENERATORS (generator_count code) is)
sized-verdict p code others false is =
    walk-verdict p code others others [] standing_first (ltb-false GENERATORS (generator_count code) is) (IsAt-first p code) refl

-- on the lines from the fourth on
pub IsVerdictBehind-verdict_behind : (p : ℕ) (code : Code) (others : List (List ℕ))
    → IsVerdictBehind p code others (verdict_behind p code others)
IsVerdictBehind-verdict_behind p code others = sized-verdict p code others (nat_lt GENERATORS (generator_count code)) refl

-- and each verdict is this one

-- the verdict by the size of the diagram
large-one : (p : ℕ) (code : Code) (others : List (List ℕ)) (large : Bool) → nat_lt GENERATORS (generator_count code) ≡ large
    → verdict_behind p code others
    ≡ cond large (Err (SizeLimit (generator_count code))) (halted p code others (walk p code standing_first others))
large-one p code others large is =
    ap (λ (b : Bool). cond b (Err (SizeLimit (generator_count code))) (halted p code others (walk p code standing_first others))) is

-- lines that tell of blocks are walked to behind them
told-one : (p : ℕ) (code : Code) (others : List (List ℕ)) (blocks : List BlockHistory) (later : List (List ℕ))
    (tell : TellOf p code others blocks later)
    → verdict_behind p code others ≡ halted p code others (walk p code (walks-Stand p code blocks tell.stand).next later)
told-one p code others blocks later tell =
    large-one p code others false (le-ltb GENERATORS (generator_count code) tell.within)
    ∙ ap (λ (ls : List (List ℕ)). halted p code others (walk p code standing_first ls)) tell.parts
    ∙ ap (halted p code others) ((walks-Stand p code blocks tell.stand).walks later)

-- where a line is wrong
wrong-one : (p : ℕ) (code : Code) (others : List (List ℕ)) (number : ℕ) (cause : LogCause) → HaveWrongLine p code others number cause
    → Err (Line number cause) ≡ verdict_behind p code others
wrong-one p code others number cause have =
    let on = walks-Stand p code have.blocks have.tell.stand in
    let left = have.line ∷ have.later in
    let does = wrong-steps p code on.before on.next.begun on.next.current on.next.rows have.said cause on.at
    (subst (λ (bs : List BlockHistory). IsWrong p code bs have.said cause) (sym on.all) have.wrong) in
    ap (λ (n : ℕ). Err (Line n cause)) (have.numbered ∙ sym (number-left others left have.blocks have.tell.parts))
    ∙ sym (ap (halted p code others) (walk-wrong p code on.next have.line have.later have.said cause have.says does))
    ∙ sym (told-one p code others have.blocks left have.tell)

-- behind blocks that prove the table the lines are compared with those of the table
closed-one : (p : ℕ) (code : Code) (others left later : List (List ℕ)) (blocks : List BlockHistory) → AreProved p code blocks
    → TellOf p code others blocks left → left ≡ close_line ∷ later
    → verdict_behind p code others
    ≡ compared_verdict p code (number_behind blocks) left (compared left (table_lines_of (table p code)))
closed-one p code others left later blocks proved tell is =
    let on = walks-Stand p code blocks tell.stand in
    let closes = proved-closes p code on.before on.next.begun on.next.current on.next.rows on.at
    (subst (All (IsFinished p)) (sym on.all) proved.zero) (ap degrees_of_blocks on.all ∙ proved.degrees) in
    let halts : walk p code on.next left ≡ halt_at left None =
    ap (walk p code on.next) is
    ∙ walk-closes p code on.next closes.0 close_line later Close refl closes.1 refl
    ∙ ap (λ (ls : List (List ℕ)). halt_at ls None) (sym is) in
    told-one p code others blocks left tell
    ∙ ap (halted p code others) halts
    ∙ ap (λ (n : ℕ). compared_verdict p code n left (compared left (table_lines_of (table p code))))
    (number-left others left blocks tell.parts)

-- with those of the table itself
pub compared-same : (p : ℕ) (code : Code) (number : ℕ) (left : List (List ℕ)) (found : Compared left (table_lines_of (table p code)))
    → left ≡ table_lines_of (table p code) → Ok (table p code) ≡ compared_verdict p code number left found
compared-same p code number left (inl same) is = refl
compared-same p code number left (inr (place, first)) is =
    absurd (first.differ (ap (λ (ls : List (List ℕ)). slice_get ls place) is))

-- with others
pub compared-other : (p : ℕ) (code : Code) (number place : ℕ) (left : List (List ℕ)) (found : Compared left (table_lines_of (table p code)))
    → DifferFirst left (table_lines_of (table p code)) place
    → Err (Line (number + place) causes.Table) ≡ compared_verdict p code number left found
compared-other p code number place left (inl same) first =
    absurd (first.differ (ap (λ (ls : List (List ℕ)). slice_get ls place) same))
compared-other p code number place left (inr (other, also)) first =
    ap (λ (n : ℕ). Err (Line (number + n) causes.Table))
    (DifferFirst-one left (table_lines_of (table p code)) place other first also)

-- where the lines are not those of the table
table-one : (p : ℕ) (code : Code) (others : List (List ℕ)) (number : ℕ) → HaveWrongTable p code others number
    → Err (Line number causes.Table) ≡ verdict_behind p code others
table-one p code others number have =
    let left = close_line ∷ have.later in
    ap (λ (n : ℕ). Err (Line n causes.Table)) have.numbered
    ∙ compared-other p code (number_behind have.blocks) have.place left (compared left (table_lines_of (table p code))) have.first
    ∙ sym (closed-one p code others left have.later have.blocks have.proved have.tell refl)

-- where they prove the table
proved-one : (p : ℕ) (code : Code) (others : List (List ℕ)) → ProveTable p code others → Ok (table p code) ≡ verdict_behind p code others
proved-one p code others prove =
    let left = table_lines_of (table p code) in
    let first = table-first (table p code) in
    compared-same p code (number_behind prove.blocks) left (compared left left) refl
    ∙ sym (closed-one p code others left first.0 prove.blocks prove.proved
    (record { within = prove.within; stand = prove.proved.stand; parts = prove.parts }) first.1)

-- where they end early
early-one : (p : ℕ) (code : Code) (others : List (List ℕ)) (number : ℕ) → EndEarly p code others number
    → Err (Line number causes.Text) ≡ verdict_behind p code others
early-one p code others number early =
    ap (λ (n : ℕ). Err (Line n causes.Text)) (early.numbered ∙ sym (number-left others [] early.blocks early.tell.parts))
    ∙ sym (told-one p code others early.blocks [] early.tell)

-- each verdict on the lines from the fourth on
pub IsVerdictBehind-one : (p : ℕ) (code : Code) (others : List (List ℕ)) (verdict : Result Table LogStop)
    → IsVerdictBehind p code others verdict → verdict ≡ verdict_behind p code others
IsVerdictBehind-one p code others (Ok homology) (prove, same) = ap Ok same ∙ proved-one p code others prove
IsVerdictBehind-one p code others (Err (SizeLimit generators)) (same, above) =
    ap (λ (n : ℕ). Err (SizeLimit n)) same
    ∙ sym (large-one p code others true (lt-ltb GENERATORS (generator_count code) (omega (arith, same, above))))
IsVerdictBehind-one p code others (Err (Line number causes.Text)) (inl early) = early-one p code others number early
IsVerdictBehind-one p code others (Err (Line number causes.Text)) (inr have) = wrong-one p code others number causes.Text have
IsVerdictBehind-one p code others (Err (Line number causes.Table)) have = table-one p code others number have
IsVerdictBehind-one p code others (Err (Line number cause)) have = wrong-one p code others number cause have
IsVerdictBehind-one p code others (Err NoMemory) none = absurd none
