-- What a line does, in the words of blocks that stand: it goes on with them, or it is wrong behind them.
-- `IsAt` ties where the reading stands to the blocks that were read: all before the last are cancelled to zero, their rows are
-- there, and the degrees of all are the first of the diagram's. Each kind of line has a test, which passes exactly where the line
-- can follow the blocks. Where it passes, `IsAt` holds of the blocks with this line, or they prove the table; where it fails, the
-- line is wrong behind them (`step-comes`).
use Rattle.std.proofs.Common.{◌≡◌, ◌≢◌, ℕ, ◌+◌, ◌-◌, ◌<◌, ◌∙◌, Bool, true, false, cond, List, [], ◌∷◌, ◌++◌, length, map, take, get_or, ℤ, pos, refl, sym, ap, ap₂, subst, arith}
use Rattle.std.specs.Prelude.{All, IfSome, Option, None, Some, Result, Ok, Err, nat_lt}
use Rattle.std.specs.List.{flat_map}
use Rattle.std.specs.Ordering.{int_eq}
use Rattle.std.proofs.Math.Seq.{get_or-append_seam, take-append_seam}
use Rattle.std.proofs.lemmas.Bool.{and_from, and_parts, eq-eqb, eqb-true, lt-ltb, ltb-true}
use Rattle.std.proofs.lemmas.Bool.Decides.{Decides-int_eq}
use Rattle.std.proofs.lemmas.Grind.{flat_map-append}
use Rattle.std.proofs.lemmas.List.{append-nil, append_assoc, length-append, length-map, map_push}
use Rattle.std.proofs.lemmas.List.Elements.{All-nil, All-pop, All-push}
use mathlib.Core.List.{IsPrefix}
use Rattle.kh_types.specs.Code.{Code}
use Rattle.kh_types.specs.Complex.{IsPivot, Pivot, is_zero}
use Rattle.kh_types.specs.History.{block}
use Rattle.kh_types.specs.Table.{Row, rows_at}
use Rattle.kh_types.proofs.Prefixes.{prefix_whole}
use Rattle.cube_signs.specs.Blocks.{block_degrees}
use Rattle.sparse_block.proofs.HistoryLemmas.{legal-push}
use Rattle.shared_block.specs.AllBlocks.{IsFinished, degrees_of_blocks}
use Rattle.shared_block.specs.BlockHistories.{BlockHistory, HasLegalHistory, block_with, complex_of}
use Rattle.shared_block.specs.Commits.{is_pivot, with_pivot}
use Rattle.shared_block.proofs.PivotTests.{IsPivot-passes, passes-IsPivot}
use Rattle.cancel_log.specs.LogBlocks.{IsNextDegree, IsShortBlock, IsWrong, Stand, block_lines, earlier_blocks, lines_of_blocks}
use Rattle.cancel_log.specs.LogLines.{IsShortDegree, IsShortPivot, Says, block_line, cancel_line}
use Rattle.cancel_log.specs.Standings.{Does, Standing, is_closed, is_last, is_next, rows_and, standing_first, step}
use Rattle.cancel_log.specs.Verdicts.{AreProved}
use Rattle.cancel_log.specs.declared.cause.LogCause.{LogCause}
use Rattle.cancel_log.specs.declared.cause.LogCause.TheVariants.{Text, Block, Entry, Open}
use Rattle.cancel_log.specs.declared.line.LogLine.{LogLine}
use Rattle.cancel_log.specs.declared.line.LogLine.TheVariants.{Cancel, Begin, Close, Other}

-- the blocks before the last with the last, if one has begun
abbrev pub all_blocks : List BlockHistory → Option BlockHistory → List BlockHistory
all_blocks before None = before
all_blocks before (Some held) = before ++ held ∷ []

-- a block of the diagram with a legal history and short numbers
pub record IsSound (p : ℕ) (code : Code) (held : BlockHistory) : Type 0 where
  pub diagram : held.diagram ≡ code
  pub short : IsShortBlock held
  pub legal : HasLegalHistory p held

-- where the reading stands: the blocks before the last are cancelled to zero, and their rows are there
pub record IsAt (p : ℕ) (code : Code) (before : List BlockHistory) (standing : Standing) : Type 0 where
  pub earlier : All (IsSound p code) before
  pub last : IfSome standing.current (IsSound p code)
  pub closed : All (IsFinished p) before
  pub begun : standing.begun ≡ length (all_blocks before standing.current)
  pub none : standing.current ≡ None → before ≡ []
  pub degrees : IsPrefix (degrees_of_blocks (all_blocks before standing.current)) (block_degrees code)
  pub rows : standing.rows ≡ flat_map (rows_at p code) (degrees_of_blocks before)

abbrev pub standing_with : ℕ → Option BlockHistory → List Row → Standing
standing_with begun current rows = record { begun = begun; current = current; rows = rows }

-- what a line does by a test: it goes on, or it fails for a cause
abbrev pub step_by : Bool → Standing → LogCause → Result Standing LogCause
step_by passes next cause = cond passes (Ok next) (Err cause)

-- before the first block
pub IsAt-first : (p : ℕ) (code : Code) → IsAt p code [] standing_first
IsAt-first p code = record {
  earlier = All-nil (IsSound p code);
  last = tt;
  closed = All-nil (IsFinished p);
  begun = refl;
  none = λ none. refl;
  degrees = (block_degrees code, refl);
  rows = refl;
}

-- such blocks stand

earlier-push : (before : List BlockHistory) (held : BlockHistory) → earlier_blocks (before ++ held ∷ []) ≡ before
earlier-push before held =
    let size : length (before ++ held ∷ []) - 1 ≡ length before = omega (arith, length-append before (held ∷ [])) in
    ap (λ (n : ℕ). take n (before ++ held ∷ [])) size ∙ take-append_seam before (held ∷ [])

sound-all : (p : ℕ) (code : Code) (before : List BlockHistory) (current : Option BlockHistory) → All (IsSound p code) before
    → IfSome current (IsSound p code) → All (IsSound p code) (all_blocks before current)
sound-all p code before None earlier last = earlier
sound-all p code before (Some held) earlier last = All-push (IsSound p code) before held earlier last

earlier-all : (p : ℕ) (before : List BlockHistory) (current : Option BlockHistory) → All (IsFinished p) before
    → (current ≡ None → before ≡ []) → All (IsFinished p) (earlier_blocks (all_blocks before current))
earlier-all p before None closed none =
    subst (λ (bs : List BlockHistory). All (IsFinished p) (earlier_blocks bs)) (sym (none refl)) (All-nil (IsFinished p))
earlier-all p before (Some held) closed none = subst (All (IsFinished p)) (sym (earlier-push before held)) closed

pub Stand-at : (p : ℕ) (code : Code) (before : List BlockHistory) (standing : Standing) → IsAt p code before standing
    → Stand p code (all_blocks before standing.current)
Stand-at p code before standing at =
    let sound = sound-all p code before standing.current at.earlier at.last in
    record {
      diagram = λ k d below. (sound k d below).diagram;
      degrees = at.degrees;
      short = λ k d below. (sound k d below).short;
      legal = λ k d below. (sound k d below).legal;
      earlier = earlier-all p before standing.current at.closed at.none;
    }

-- lines and degrees of one block more

pub lines-push : (before : List BlockHistory) (held : BlockHistory)
    → lines_of_blocks (before ++ held ∷ []) ≡ lines_of_blocks before ++ block_lines held
lines-push before held =
    flat_map-append block_lines before (held ∷ []) ∙ ap (λ (ls : List (List ℕ)). lines_of_blocks before ++ ls) (append-nil (block_lines held))

pub degrees-push : (before : List BlockHistory) (held : BlockHistory)
    → degrees_of_blocks (before ++ held ∷ []) ≡ degrees_of_blocks before ++ held.degree ∷ []
degrees-push before held = map_push (λ (b : BlockHistory). b.degree) before held

pub length-degrees : (blocks : List BlockHistory) → length (degrees_of_blocks blocks) ≡ length blocks
length-degrees blocks = length-map blocks (λ (b : BlockHistory). b.degree)

-- a prefix goes on with the element that stands next

prefix-next : (xs ys : List ℤ) (j : ℤ) → IsPrefix xs ys → length xs < length ys → get_or ys (length xs) (pos 0) ≡ j
    → IsPrefix (xs ++ j ∷ []) ys
prefix-next xs ys j ([], is) below next = absurd (omega (arith, below, ap length is, length-append xs []))
prefix-next xs ys j (y ∷ rest, is) below next =
    let same : y ≡ j =
    sym (get_or-append_seam xs y rest (pos 0)) ∙ ap (λ (zs : List ℤ). get_or zs (length xs) (pos 0)) is ∙ next in
    (rest, append_assoc xs (j ∷ []) rest ∙ ap (λ (z : ℤ). xs ++ z ∷ rest) (sym same) ∙ is)

next-prefix : (xs ys : List ℤ) (j : ℤ) → IsPrefix (xs ++ j ∷ []) ys
    → (length xs < length ys) × (get_or ys (length xs) (pos 0) ≡ j)
next-prefix xs ys j (rest, is) =
    let whole : xs ++ j ∷ rest ≡ ys = sym (append_assoc xs (j ∷ []) rest) ∙ is in (
      omega (arith, ap length whole, length-append xs (j ∷ rest)),
      ap (λ (zs : List ℤ). get_or zs (length xs) (pos 0)) (sym whole) ∙ get_or-append_seam xs j rest (pos 0),
    )

-- what a line comes to: it goes on with the blocks, it proves the table, or it is wrong

pub record GoesOnWith (p : ℕ) (code : Code) (blocks : List BlockHistory) (line : List ℕ) (next : Standing) : Type 0 where
  pub before : List BlockHistory
  pub at : IsAt p code before next
  pub lines : lines_of_blocks (all_blocks before next.current) ≡ lines_of_blocks blocks ++ line ∷ []

pub record ClosesWith (p : ℕ) (code : Code) (blocks : List BlockHistory) (next : Standing) : Type 0 where
  pub proved : AreProved p code blocks
  pub rows : next.rows ≡ flat_map (rows_at p code) (block_degrees code)

abbrev pub After : ℕ → Code → List BlockHistory → List ℕ → LogLine → Standing → Type 0
After p code blocks line (Cancel pivot) next = GoesOnWith p code blocks line next
After p code blocks line (Begin j) next = GoesOnWith p code blocks line next
After p code blocks line Close next = ClosesWith p code blocks next
After p code blocks line Other next = ⊥

abbrev pub ComesTo : ℕ → Code → List BlockHistory → List ℕ → LogLine → Result Standing LogCause → Type 0
ComesTo p code blocks line said (Ok next) = After p code blocks line said next
ComesTo p code blocks line said (Err cause) = IsWrong p code blocks said cause

-- the last block of two lists
last-same : (xs ys : List BlockHistory) (x y : BlockHistory) → xs ++ x ∷ [] ≡ ys ++ y ∷ [] → x ≡ y
last-same [] [] x y is = cc
last-same [] (z ∷ zs) x y is = absurd (omega (arith, ap length is, length-append zs (y ∷ [])))
last-same (z ∷ zs) [] x y is = absurd (omega (arith, ap length is, length-append zs (x ∷ [])))
last-same (z ∷ zs) (w ∷ ws) x y is = last-same zs ws x y (cc)

pub not_empty : (before : List BlockHistory) (held : BlockHistory) → before ++ held ∷ [] ≢ []
not_empty before held none = omega (arith, ap length none, length-append before (held ∷ []))

-- a line that cancels
cancel-comes : (p : ℕ) (code : Code) (before : List BlockHistory) (begun : ℕ) (held : BlockHistory) (rows : List Row) (line : List ℕ)
    (pivot : Pivot) (passes : Bool) → IsAt p code before (standing_with begun (Some held) rows) → line ≡ cancel_line pivot
    → IsShortPivot pivot → is_pivot (complex_of p held) pivot ≡ passes
    → ComesTo p code (before ++ held ∷ []) line (Cancel pivot)
    (cond passes (Ok (standing_with begun (Some (with_pivot held pivot)) rows)) (Err Entry))
cancel-comes p code before begun held rows line pivot true at is short passes =
    let next = with_pivot held pivot in
    let same : degrees_of_blocks (before ++ held ∷ []) ≡ degrees_of_blocks (before ++ next ∷ []) =
    degrees-push before held ∙ sym (degrees-push before next) in
    let more : block_lines next ≡ block_lines held ++ line ∷ [] =
    ap (λ (ls : List (List ℕ)). block_line held.degree ∷ ls)
    (map_push cancel_line held.history pivot ∙ ap (λ (l : List ℕ). map cancel_line held.history ++ l ∷ []) (sym is)) in
    record {
      before = before;
      at = record {
        earlier = at.earlier;
        last = record {
          diagram = at.last.diagram;
          short = record {
            degree = at.last.short.degree;
            history = All-push IsShortPivot held.history pivot at.last.short.history short;
          };
          legal = legal-push p (block p held.diagram held.degree) held.history pivot at.last.legal
              (IsPivot-passes (complex_of p held) pivot passes);
        };
        closed = at.closed;
        begun = omega (arith, at.begun, length-append before (held ∷ []), length-append before (next ∷ []));
        none = λ none. absurd (cc);
        degrees = subst (λ (js : List ℤ). IsPrefix js (block_degrees code)) same at.degrees;
        rows = at.rows;
      };
      lines = lines-push before next ∙ ap (λ (ls : List (List ℕ)). lines_of_blocks before ++ ls) more
          ∙ sym (append_assoc (lines_of_blocks before) (block_lines held) (line ∷ []))
          ∙ ap (λ (ls : List (List ℕ)). ls ++ line ∷ []) (sym (lines-push before held));
    }
cancel-comes p code before begun held rows line pivot false at is short fails = (
  not_empty before held,
  λ last.
      let same : held ≡ last.last = last-same before last.before held last.last last.parts in
      let entry = subst (λ (b : BlockHistory). IsPivot (complex_of p b) pivot) (sym same) last.entry in
      absurd (cc (fails, passes-IsPivot (complex_of p held) pivot entry)),
)

-- whether the last block is closed

pub closed-all : (p : ℕ) (before : List BlockHistory) (current : Option BlockHistory) → All (IsFinished p) before
    → is_closed p current ≡ true → All (IsFinished p) (all_blocks before current)
closed-all p before None closed is = closed
closed-all p before (Some held) closed is = All-push (IsFinished p) before held closed is

pub open-all : (p : ℕ) (before : List BlockHistory) (current : Option BlockHistory) → is_closed p current ≡ false
    → All (IsFinished p) (all_blocks before current) → ⊥
open-all p before None is all = absurd (cc)
open-all p before (Some held) is all =
    absurd (cc (is, (All-pop (IsFinished p) (before ++ held ∷ []) before (Some held) refl all).1))

rows-all_blocks : (p : ℕ) (code : Code) (before : List BlockHistory) (current : Option BlockHistory) (rows : List Row)
    → IfSome current (IsSound p code) → rows ≡ flat_map (rows_at p code) (degrees_of_blocks before)
    → rows_and p rows current ≡ flat_map (rows_at p code) (degrees_of_blocks (all_blocks before current))
rows-all_blocks p code before None rows last is = is
rows-all_blocks p code before (Some held) rows last is =
    let at = rows_at p code in
    ap₂ (λ (xs : List Row) (c : Code). xs ++ rows_at p c held.degree) is last.diagram
    ∙ ap (λ (ys : List Row). flat_map at (degrees_of_blocks before) ++ ys) (sym (append-nil (at held.degree)))
    ∙ sym (flat_map-append at (degrees_of_blocks before) (held.degree ∷ []))
    ∙ ap (flat_map at) (sym (degrees-push before held))

-- a line that begins a block

-- the reading stands in a block that begins behind the others, whatever its history is
pub IsAt-block : (p : ℕ) (code : Code) (before : List BlockHistory) (begun : ℕ) (current : Option BlockHistory) (rows : List Row)
    (held : BlockHistory) → IsAt p code before (standing_with begun current rows) → is_closed p current ≡ true
    → IsSound p code held → IsNextDegree code (all_blocks before current) held.degree
    → IsAt p code (all_blocks before current) (standing_with (begun + 1) (Some held) (rows_and p rows current))
IsAt-block p code before begun current rows held at closed sound next =
    let blocks = all_blocks before current in
    record {
      earlier = sound-all p code before current at.earlier at.last;
      last = sound;
      closed = closed-all p before current at.closed closed;
      begun = omega (arith, at.begun, length-append blocks (held ∷ []));
      none = λ none. absurd (cc);
      degrees = subst (λ (js : List ℤ). IsPrefix js (block_degrees code)) (sym (degrees-push blocks held)) next;
      rows = rows-all_blocks p code before current rows at.last at.rows;
    }

-- the test of the next block passes exactly at the next degree

-- it passes, so that the degree is the next
pub next-passes : (p : ℕ) (code : Code) (before : List BlockHistory) (begun : ℕ) (current : Option BlockHistory) (rows : List Row) (j : ℤ)
    → IsAt p code before (standing_with begun current rows) → is_next code begun j ≡ true
    → IsNextDegree code (all_blocks before current) j
next-passes p code before begun current rows j at passes =
    let blocks = all_blocks before current in
    let tests = and_parts (nat_lt begun (length (block_degrees code))) (int_eq (get_or (block_degrees code) begun (pos 0)) j) passes in
    let within = ltb-true begun (length (block_degrees code)) tests.0 in
    let read = (Decides-int_eq (get_or (block_degrees code) begun (pos 0)) j).0 tests.1 in
    let count : begun ≡ length (degrees_of_blocks blocks) = at.begun ∙ sym (length-degrees blocks) in
    prefix-next (degrees_of_blocks blocks) (block_degrees code) j at.degrees (omega (arith, within, count))
    (ap (λ (n : ℕ). get_or (block_degrees code) n (pos 0)) (sym count) ∙ read)

-- the degree is the next, so that it passes
pub passes-next : (p : ℕ) (code : Code) (before : List BlockHistory) (begun : ℕ) (current : Option BlockHistory) (rows : List Row) (j : ℤ)
    → IsAt p code before (standing_with begun current rows) → IsNextDegree code (all_blocks before current) j
    → is_next code begun j ≡ true
passes-next p code before begun current rows j at next =
    let blocks = all_blocks before current in
    let count : begun ≡ length (degrees_of_blocks blocks) = at.begun ∙ sym (length-degrees blocks) in
    let tests = next-prefix (degrees_of_blocks blocks) (block_degrees code) j next in
    let read : get_or (block_degrees code) begun (pos 0) ≡ j =
    ap (λ (n : ℕ). get_or (block_degrees code) n (pos 0)) count ∙ tests.1 in
    and_from (nat_lt begun (length (block_degrees code))) (int_eq (get_or (block_degrees code) begun (pos 0)) j)
    (lt-ltb begun (length (block_degrees code)) (omega (arith, tests.0, count)))
    ((Decides-int_eq (get_or (block_degrees code) begun (pos 0)) j).1 read)

-- where the last block is closed
next-comes : (p : ℕ) (code : Code) (before : List BlockHistory) (begun : ℕ) (current : Option BlockHistory) (rows : List Row)
    (line : List ℕ) (j : ℤ) (next : Bool) → IsAt p code before (standing_with begun current rows) → line ≡ block_line j
    → IsShortDegree j → is_closed p current ≡ true → is_next code begun j ≡ next
    → ComesTo p code (all_blocks before current) line (Begin j)
    (cond next (Ok (standing_with (begun + 1) (Some (block_with code j [])) (rows_and p rows current))) (Err Block))
next-comes p code before begun current rows line j true at is short closed passes =
    let blocks = all_blocks before current in
    let fresh = block_with code j [] in
    record {
      before = blocks;
      at = IsAt-block p code before begun current rows fresh at closed
          (record { diagram = refl; short = record { degree = short; history = All-nil IsShortPivot }; legal = tt })
          (next-passes p code before begun current rows j at passes);
      lines = lines-push blocks fresh ∙ ap (λ (l : List ℕ). lines_of_blocks blocks ++ l ∷ []) (sym is);
    }
next-comes p code before begun current rows line j false at is short closed fails = (
  closed-all p before current at.closed closed,
  λ next. absurd (cc (fails, passes-next p code before begun current rows j at next)),
)

begin-comes : (p : ℕ) (code : Code) (before : List BlockHistory) (begun : ℕ) (current : Option BlockHistory) (rows : List Row)
    (line : List ℕ) (j : ℤ) (closed : Bool) → IsAt p code before (standing_with begun current rows) → line ≡ block_line j
    → IsShortDegree j → is_closed p current ≡ closed
    → ComesTo p code (all_blocks before current) line (Begin j)
    (cond closed
    (cond (is_next code begun j)
    (Ok (standing_with (begun + 1) (Some (block_with code j [])) (rows_and p rows current))) (Err Block)) (Err Open))
begin-comes p code before begun current rows line j true at is short closed =
    next-comes p code before begun current rows line j (is_next code begun j) at is short closed refl
begin-comes p code before begun current rows line j false at is short opened = open-all p before current opened

-- a line that closes

pub last-degrees : (p : ℕ) (code : Code) (before : List BlockHistory) (standing : Standing) → IsAt p code before standing
    → is_last code standing.begun ≡ true → degrees_of_blocks (all_blocks before standing.current) ≡ block_degrees code
last-degrees p code before standing at last =
    let blocks = all_blocks before standing.current in
    prefix_whole (degrees_of_blocks blocks) (block_degrees code) at.degrees
    (omega (arith, eqb-true standing.begun (length (block_degrees code)) last, at.begun, length-degrees blocks))

-- it closes where all blocks have begun, and then they prove the table
closes : (p : ℕ) (code : Code) (before : List BlockHistory) (standing next : Standing) → IsAt p code before standing
    → is_closed p standing.current ≡ true → is_last code standing.begun ≡ true
    → next.rows ≡ rows_and p standing.rows standing.current
    → ClosesWith p code (all_blocks before standing.current) next
closes p code before standing next at closed last is =
    let degrees = last-degrees p code before standing at last in
    record {
      proved = record {
        stand = Stand-at p code before standing at;
        zero = closed-all p before standing.current at.closed closed;
        degrees = degrees;
      };
      rows = is ∙ rows-all_blocks p code before standing.current standing.rows at.last at.rows ∙ ap (flat_map (rows_at p code)) degrees;
    }

last-comes : (p : ℕ) (code : Code) (before : List BlockHistory) (begun : ℕ) (held : BlockHistory) (rows : List Row) (line : List ℕ)
    (last : Bool) → IsAt p code before (standing_with begun (Some held) rows) → is_zero (complex_of p held) ≡ true
    → is_last code begun ≡ last → ComesTo p code (before ++ held ∷ []) line Close
    (cond last (Ok (standing_with begun None (rows_and p rows (Some held)))) (Err Block))
last-comes p code before begun held rows line true at zeros last =
    closes p code before (standing_with begun (Some held) rows) (standing_with begun None (rows_and p rows (Some held))) at zeros last refl
last-comes p code before begun held rows line false at zeros fails = (
  not_empty before held,
  closed-all p before (Some held) at.closed zeros,
  λ degrees.
      let count = at.begun ∙ sym (length-degrees (before ++ held ∷ [])) ∙ ap length degrees in
      absurd (cc (fails, eq-eqb begun (length (block_degrees code)) count)),
)

close-comes : (p : ℕ) (code : Code) (before : List BlockHistory) (begun : ℕ) (held : BlockHistory) (rows : List Row) (line : List ℕ)
    (zeros : Bool) → IsAt p code before (standing_with begun (Some held) rows) → is_zero (complex_of p held) ≡ zeros
    → ComesTo p code (before ++ held ∷ []) line Close
    (cond zeros (cond (is_last code begun) (Ok (standing_with begun None (rows_and p rows (Some held)))) (Err Block)) (Err Open))
close-comes p code before begun held rows line true at zeros =
    last-comes p code before begun held rows line (is_last code begun) at zeros refl
close-comes p code before begun held rows line false at other = open-all p before (Some held) other

close-first : (p : ℕ) (code : Code) (before : List BlockHistory) (begun : ℕ) (rows : List Row) (line : List ℕ) (last : Bool)
    → IsAt p code before (standing_with begun None rows) → is_last code begun ≡ last
    → ComesTo p code before line Close (cond last (Ok (standing_with begun None rows)) (Err Text))
close-first p code before begun rows line true at last =
    closes p code before (standing_with begun None rows) (standing_with begun None rows) at refl last refl
close-first p code before begun rows line false at fails = (
  at.none refl,
  λ none.
      let count : begun ≡ length (block_degrees code) = omega (arith, at.begun, ap length (at.none refl), ap length none) in
      absurd (cc (fails, eq-eqb begun (length (block_degrees code)) count)),
)

-- any line
pub step-comes : (p : ℕ) (code : Code) (before : List BlockHistory) (begun : ℕ) (current : Option BlockHistory) (rows : List Row)
    (line : List ℕ) (said : LogLine) → IsAt p code before (standing_with begun current rows) → Says line said
    → ComesTo p code (all_blocks before current) line said (step p code (standing_with begun current rows) said)
step-comes p code before begun None rows line (Cancel pivot) at says = at.none refl
step-comes p code before begun (Some held) rows line (Cancel pivot) at says =
    cancel-comes p code before begun held rows line pivot (is_pivot (complex_of p held) pivot) at says.0 says.1 refl
step-comes p code before begun current rows line (Begin j) at says =
    begin-comes p code before begun current rows line j (is_closed p current) at says.0 says.1 refl
step-comes p code before begun None rows line Close at says =
    close-first p code before begun rows line (is_last code begun) at refl
step-comes p code before begun (Some held) rows line Close at says =
    close-comes p code before begun held rows line (is_zero (complex_of p held)) at refl
step-comes p code before begun current rows line Other at says = tt

-- what the code answers

pub did-go : (p : ℕ) (code : Code) (blocks : List BlockHistory) (line : List ℕ) (said : LogLine) (r : Result Standing LogCause)
    (old new : Standing) → ComesTo p code blocks line said r → Does r old None new → After p code blocks line said new
did-go p code blocks line said (Ok next) old new comes (same, is) = subst (After p code blocks line said) (sym is) comes
did-go p code blocks line said (Err cause) old new comes (same, is) = absurd (cc)

pub did-fail : (p : ℕ) (code : Code) (blocks : List BlockHistory) (line : List ℕ) (said : LogLine) (r : Result Standing LogCause)
    (old new : Standing) (cause : LogCause) → ComesTo p code blocks line said r → Does r old (Some cause) new
    → IsWrong p code blocks said cause
did-fail p code blocks line said (Ok next) old new cause comes (same, is) = absurd (cc)
did-fail p code blocks line said (Err other) old new cause comes (same, is) =
    let so : other ≡ cause = cc in subst (IsWrong p code blocks said) so comes
