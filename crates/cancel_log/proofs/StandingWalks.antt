-- Where a walk over the lines of blocks halts: behind blocks that stand it goes on.
-- `walk` steps over lines until one is wrong or closes. A line of a block that can come next does neither: that of its degree passes
-- the test of the next block, and those of its history cancel entries (`walk-block`). So, by induction on the blocks, a walk over
-- the lines of blocks that stand gets behind all of them, and the reading stands there (`walks-Stand`).
use Rattle.std.proofs.Common.{◌≡◌, ℕ, ◌+◌, ◌-◌, ◌∙◌, Bool, true, false, cond, List, [], ◌∷◌, ◌++◌, length, map, take, ℤ, refl, sym, ap, subst, arith}
use Rattle.std.specs.Prelude.{All, Option, None, Some, Result, Ok, Err}
use Rattle.std.specs.List.{AllByRecursion}
use Rattle.std.proofs.lemmas.List.{append-nil, append_assoc}
use Rattle.std.proofs.lemmas.List.Elements.{recursion_from_All}
use mathlib.Core.List.{IsPrefix}
use Rattle.kh_types.specs.Code.{Code}
use Rattle.kh_types.specs.Complex.{Complex, Pivot}
use Rattle.kh_types.specs.History.{IsLegal, block, replay}
use Rattle.kh_types.specs.Table.{Row}
use Rattle.cube_signs.specs.Blocks.{block_degrees}
use Rattle.sparse_block.proofs.HistoryLemmas.{replay-push}
use Rattle.shared_block.specs.AllBlocks.{IsFinished, degrees_of_blocks}
use Rattle.shared_block.specs.BlockHistories.{BlockHistory, block_with}
use Rattle.shared_block.proofs.PivotTests.{passes-IsPivot}
use Rattle.cancel_log.specs.LogBlocks.{IsNextDegree, Stand, block_lines, lines_of_blocks}
use Rattle.cancel_log.specs.LogLines.{IsShortPivot, Says, block_line, cancel_line}
use Rattle.cancel_log.specs.Standings.{Standing, is_close, is_closed, is_next, rows_and, standing_first, step}
use Rattle.cancel_log.specs.declared.cause.LogCause.{LogCause}
use Rattle.cancel_log.specs.declared.cause.LogCause.TheVariants.{Block, Entry, Open, Text}
use Rattle.cancel_log.specs.declared.line.LogLine.{LogLine}
use Rattle.cancel_log.specs.declared.line.LogLine.TheVariants.{Cancel, Begin}
use Rattle.cancel_log.proofs.LineSays.{Says-one, Says-some}
use Rattle.cancel_log.proofs.StandingSteps.{IsAt, IsAt-block, IsAt-first, IsSound, all_blocks, degrees-push, passes-next, standing_with, step_by}

-- where a walk halts: the lines that are left, and what is wrong with the first of them or that there is none, unless it closes
pub record Halt : Type 0 where
  pub left : List (List ℕ)
  pub fault : Option LogCause

-- these two
abbrev pub halt_at : List (List ℕ) → Option LogCause → Halt
halt_at left fault = record { left = left; fault = fault }

-- what a line says
abbrev pub said_of : List ℕ → LogLine
said_of line = (Says-some line).0

-- where the walk halts that meets a line, by what the line says and does
abbrev pub walked : List (List ℕ) → LogLine → Result Standing LogCause → (Standing → Halt) → Halt
walked left said (Err cause) behind = halt_at left (Some cause)
walked left said (Ok next) behind = cond (is_close said) (halt_at left None) (behind next)

-- where the walk over lines halts
abbrev pub walk : ℕ → Code → Standing → List (List ℕ) → Halt
walk p code standing [] = halt_at [] (Some Text)
walk p code standing (line ∷ later) =
    walked (line ∷ later) (said_of line) (step p code standing (said_of line)) (λ next. walk p code next later)

-- one line

-- the walk meets a line that says this and does that
walk-said : (p : ℕ) (code : Code) (standing : Standing) (line : List ℕ) (later : List (List ℕ)) (said : LogLine)
    (r : Result Standing LogCause) → Says line said → step p code standing said ≡ r
    → walk p code standing (line ∷ later) ≡ walked (line ∷ later) said r (λ next. walk p code next later)
walk-said p code standing line later said r says does =
    let same : said_of line ≡ said = Says-one line (said_of line) said (Says-some line).1 says in
    ap (λ (s : LogLine). walked (line ∷ later) s (step p code standing s) (λ next. walk p code next later)) same
    ∙ ap (λ (d : Result Standing LogCause). walked (line ∷ later) said d (λ next. walk p code next later)) does

-- the line goes on
pub walk-on : (p : ℕ) (code : Code) (standing next : Standing) (line : List ℕ) (later : List (List ℕ)) (said : LogLine)
    → Says line said → step p code standing said ≡ Ok next → is_close said ≡ false
    → walk p code standing (line ∷ later) ≡ walk p code next later
walk-on p code standing next line later said says does other =
    walk-said p code standing line later said (Ok next) says does
    ∙ ap (λ (closes : Bool). cond closes (halt_at (line ∷ later) None) (walk p code next later)) other

-- the line is wrong
pub walk-wrong : (p : ℕ) (code : Code) (standing : Standing) (line : List ℕ) (later : List (List ℕ)) (said : LogLine) (cause : LogCause)
    → Says line said → step p code standing said ≡ Err cause
    → walk p code standing (line ∷ later) ≡ halt_at (line ∷ later) (Some cause)
walk-wrong p code standing line later said cause says does = walk-said p code standing line later said (Err cause) says does

-- the line closes
pub walk-closes : (p : ℕ) (code : Code) (standing next : Standing) (line : List ℕ) (later : List (List ℕ)) (said : LogLine)
    → Says line said → step p code standing said ≡ Ok next → is_close said ≡ true
    → walk p code standing (line ∷ later) ≡ halt_at (line ∷ later) None
walk-closes p code standing next line later said says does closes =
    walk-said p code standing line later said (Ok next) says does
    ∙ ap (λ (closes : Bool). cond closes (halt_at (line ∷ later) None) (walk p code next later)) closes

-- the lines of one block

-- the lines of a history, in a block where the front of it is cancelled
walk-pivots : (p : ℕ) (code : Code) (begun : ℕ) (rows : List Row) (diagram : Code) (j : ℤ) (front history : List Pivot)
    (later : List (List ℕ)) → IsLegal p (replay p (block p diagram j) front) history → AllByRecursion IsShortPivot history
    → walk p code (standing_with begun (Some (block_with diagram j front)) rows) (map cancel_line history ++ later)
    ≡ walk p code (standing_with begun (Some (block_with diagram j (front ++ history))) rows) later
walk-pivots p code begun rows diagram j front [] later legal short =
    ap (λ (ps : List Pivot). walk p code (standing_with begun (Some (block_with diagram j ps)) rows) later) (sym (append-nil front))
walk-pivots p code begun rows diagram j front (pivot ∷ history) later legal short =
    let complex = replay p (block p diagram j) front in
    let standing = standing_with begun (Some (block_with diagram j front)) rows in
    let next = standing_with begun (Some (block_with diagram j (front ++ pivot ∷ []))) rows in
    let does : step p code standing (Cancel pivot) ≡ Ok next =
    ap (λ (passes : Bool). step_by passes next Entry) (passes-IsPivot complex pivot legal.0) in
    walk-on p code standing next (cancel_line pivot) (map cancel_line history ++ later) (Cancel pivot) (refl, short.0) does refl
    ∙ walk-pivots p code begun rows diagram j (front ++ pivot ∷ []) history later
    (subst (λ (c : Complex). IsLegal p c history) (sym (replay-push p (block p diagram j) front pivot)) legal.1) short.1
    ∙ ap (λ (ps : List Pivot). walk p code (standing_with begun (Some (block_with diagram j ps)) rows) later)
    (append_assoc front (pivot ∷ []) history)

-- the lines of a block that begins where the last is closed
walk-block : (p : ℕ) (code : Code) (begun : ℕ) (current : Option BlockHistory) (rows : List Row) (held : BlockHistory)
    (later : List (List ℕ)) → is_closed p current ≡ true → is_next code begun held.degree ≡ true → IsSound p code held
    → walk p code (standing_with begun current rows) (block_lines held ++ later)
    ≡ walk p code (standing_with (begun + 1) (Some held) (rows_and p rows current)) later
walk-block p code begun current rows held later closed passes sound =
    let standing = standing_with begun current rows in
    let after = rows_and p rows current in
    let next = standing_with (begun + 1) (Some (block_with code held.degree [])) after in
    let does : step p code standing (Begin held.degree) ≡ Ok next =
    ap (λ (zero : Bool). cond zero (step_by (is_next code begun held.degree) next Block) (Err Open)) closed
    ∙ ap (λ (is : Bool). step_by is next Block) passes in
    let legal : IsLegal p (block p code held.degree) held.history =
    subst (λ (c : Code). IsLegal p (block p c held.degree) held.history) sound.diagram sound.legal in
    walk-on p code standing next (block_line held.degree) (map cancel_line held.history ++ later) (Begin held.degree)
    (refl, sound.short.degree) does refl
    ∙ walk-pivots p code (begun + 1) after code held.degree [] held.history later legal
    (recursion_from_All IsShortPivot held.history sound.short.history)
    ∙ ap (λ (c : Code). walk p code (standing_with (begun + 1) (Some (block_with c held.degree held.history)) after) later)
    (sym sound.diagram)

-- the lines of blocks

-- those of the first
walk-first : (p : ℕ) (code : Code) (begun : ℕ) (current : Option BlockHistory) (rows : List Row) (held : BlockHistory)
    (further : List BlockHistory) (later : List (List ℕ)) → is_closed p current ≡ true → is_next code begun held.degree ≡ true
    → IsSound p code held
    → walk p code (standing_with begun current rows) (lines_of_blocks (held ∷ further) ++ later)
    ≡ walk p code (standing_with (begun + 1) (Some held) (rows_and p rows current)) (lines_of_blocks further ++ later)
walk-first p code begun current rows held further later closed passes sound =
    ap (walk p code (standing_with begun current rows)) (append_assoc (block_lines held) (lines_of_blocks further) later)
    ∙ walk-block p code begun current rows held (lines_of_blocks further ++ later) closed passes sound

-- blocks can come behind the last: all before the last of them are cancelled to zero
abbrev Follow : ℕ → Code → Option BlockHistory → List BlockHistory → Type 0
Follow p code current [] = Unit {0}
Follow p code current (held ∷ blocks) = (is_closed p current ≡ true) × IsSound p code held × Follow p code (Some held) blocks

-- a walk over the lines of further blocks stands behind all
pub record WalksOn (p : ℕ) (code : Code) (standing : Standing) (further blocks : List BlockHistory) : Type 0 where
  pub before : List BlockHistory
  pub next : Standing
  pub at : IsAt p code before next
  pub all : all_blocks before next.current ≡ blocks
  pub walks : (later : List (List ℕ)) → walk p code standing (lines_of_blocks further ++ later) ≡ walk p code next later

-- with those of a block before them
walks-before : (p : ℕ) (code : Code) (begun : ℕ) (current : Option BlockHistory) (rows : List Row) (held : BlockHistory)
    (further blocks : List BlockHistory) → is_closed p current ≡ true → is_next code begun held.degree ≡ true → IsSound p code held
    → WalksOn p code (standing_with (begun + 1) (Some held) (rows_and p rows current)) further blocks
    → WalksOn p code (standing_with begun current rows) (held ∷ further) blocks
walks-before p code begun current rows held further blocks closed passes sound rest = record {
  before = rest.before;
  next = rest.next;
  at = rest.at;
  all = rest.all;
  walks = λ later. walk-first p code begun current rows held further later closed passes sound ∙ rest.walks later;
}

-- blocks that can come behind those where the reading stands
walk-blocks : (p : ℕ) (code : Code) (before : List BlockHistory) (begun : ℕ) (current : Option BlockHistory) (rows : List Row)
    (further : List BlockHistory) → IsAt p code before (standing_with begun current rows) → Follow p code current further
    → IsPrefix (degrees_of_blocks (all_blocks before current) ++ degrees_of_blocks further) (block_degrees code)
    → WalksOn p code (standing_with begun current rows) further (all_blocks before current ++ further)
walk-blocks p code before begun current rows [] at follow (more, degrees) = record {
  before = before;
  next = standing_with begun current rows;
  at = at;
  all = sym (append-nil (all_blocks before current));
  walks = λ later. refl;
}
walk-blocks p code before begun current rows (held ∷ further) at (closed, sound, follow) (more, degrees) =
    let blocks = all_blocks before current in
    let firsts = degrees_of_blocks blocks in
    let others = degrees_of_blocks further in
    let next : IsNextDegree code blocks held.degree = (
      others ++ more,
      append_assoc firsts (held.degree ∷ []) (others ++ more) ∙ sym (append_assoc firsts (held.degree ∷ others) more) ∙ degrees,
    ) in
    let same : degrees_of_blocks (blocks ++ held ∷ []) ++ others ≡ firsts ++ held.degree ∷ others =
    ap (λ (js : List ℤ). js ++ others) (degrees-push blocks held) ∙ append_assoc firsts (held.degree ∷ []) others in
    let passes = passes-next p code before begun current rows held.degree at next in
    let rest = walk-blocks p code blocks (begun + 1) (Some held) (rows_and p rows current) further
    (IsAt-block p code before begun current rows held at closed sound next) follow
    (more, ap (λ (js : List ℤ). js ++ more) same ∙ degrees) in
    walks-before p code begun current rows held further (blocks ++ held ∷ further) closed passes sound
    (subst (WalksOn p code (standing_with (begun + 1) (Some held) (rows_and p rows current)) further)
    (append_assoc blocks (held ∷ []) further) rest)

-- blocks that stand

-- blocks behind one, if all but the last of these are cancelled to zero
follow-more : (p : ℕ) (code : Code) (held : BlockHistory) (blocks : List BlockHistory) → AllByRecursion (IsSound p code) blocks
    → AllByRecursion (IsFinished p) (take (length blocks) (held ∷ blocks)) → Follow p code (Some held) blocks
follow-more p code held [] sound closed = tt
follow-more p code held (next ∷ blocks) sound closed = (closed.0, sound.0, follow-more p code next blocks sound.1 closed.1)

-- all of them
follow-Stand : (p : ℕ) (code : Code) (blocks : List BlockHistory) → Stand p code blocks → Follow p code None blocks
follow-Stand p code [] stand = tt
follow-Stand p code (held ∷ blocks) stand =
    let sound = recursion_from_All (IsSound p code) (held ∷ blocks)
    (λ k d below. record { diagram = stand.diagram k d below; short = stand.short k d below; legal = stand.legal k d below }) in
    let size : length (held ∷ blocks) - 1 ≡ length blocks = omega arith in
    let closed = recursion_from_All (IsFinished p) (take (length blocks) (held ∷ blocks))
    (subst (λ (n : ℕ). All (IsFinished p) (take n (held ∷ blocks))) size stand.earlier) in
    (refl, sound.0, follow-more p code held blocks sound.1 closed)

-- a walk over the lines of blocks that stand gets behind them
pub walks-Stand : (p : ℕ) (code : Code) (blocks : List BlockHistory) → Stand p code blocks → WalksOn p code standing_first blocks blocks
walks-Stand p code blocks stand =
    walk-blocks p code [] 0 None [] blocks (IsAt-first p code) (follow-Stand p code blocks stand) stand.degrees
