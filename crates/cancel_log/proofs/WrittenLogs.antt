-- What is written is a log.
-- Blocks of a diagram, cancelled to zero by legal histories, make a log: the first three lines, theirs, and those of the table
-- (`log-of_blocks`). No line has a line feed, so these lines cut the text. The code writes block by block, and keeps that the text
-- is that of the blocks so far (`IsWritten`).
use Rattle.std.proofs.Common.{◌≡◌, ℕ, ◌+◌, ◌<◌, ◌≤◌, ◌∙◌, List, [], ◌∷◌, ◌++◌, length, map, take, take_all, get_or, ◌-◌, ℤ, IsTrue, refl, sym, ap, ap₂, subst, arith, codes}
use Rattle.std.specs.Prelude.{All}
use Rattle.std.specs.Fmt.{decimal, signed_decimal}
use Rattle.std.specs.List.{AllByRecursion, Contains, flat_map}
use Rattle.std.proofs.lemmas.List.{append-nil, append_assoc, get_or-map, length-map, map_push, take_more}
use Rattle.std.proofs.lemmas.List.Elements.{All-nil, All-push, All-take, recursion_from_All}
use Rattle.std.proofs.lemmas.Grind.{flat_map-append}
use mathlib.Core.List.{IsPrefix}
use Rattle.kh_types.specs.Acceptance.{accepted}
use Rattle.kh_types.specs.Code.{Code}
use Rattle.kh_types.specs.Complex.{Pivot}
use Rattle.kh_types.specs.Table.{Row, rows_at, table, table_text}
use Rattle.kh_types.specs.declared.limits.TheConstants.{CROSSINGS, LOOPS}
use Rattle.kh_types.proofs.Lists.{AllByRecursion-append}
use Rattle.kh_types.proofs.Prefixes.{prefix_self}
use Rattle.kh_lex.specs.Lines.{HasNoLineFeed, lines_of, with_feed}
use Rattle.pd_code.specs.Printing.{pd_text}
use Rattle.pd_code.specs.Reading.{ReadsAsPd}
use Rattle.prime_field.specs.Residues.{IsField, IsSmallPrime}
use Rattle.circle_smoothing.specs.GeneratorCounts.{generator_count}
use Rattle.circle_smoothing.specs.declared.limits.TheConstants.{GENERATORS}
use Rattle.cube_signs.specs.Blocks.{block_degrees}
use Rattle.shared_block.proofs.Blocks.{rows-more}
use Rattle.shared_block.specs.AllBlocks.{AreBlocksOf, IsFinished, degrees_of_blocks}
use Rattle.shared_block.specs.BlockHistories.{BlockHistory, HasLegalHistory}
use Rattle.cancel_log.specs.LogBlocks.{IsShortBlock, block_lines, earlier_blocks, lines_of_blocks}
use Rattle.cancel_log.specs.LogLines.{IsShortPivot, block_line, cancel_line, table_lines_of}
use Rattle.cancel_log.specs.LogTexts.{log_text, start_lines, text_of_lines}
use Rattle.cancel_log.specs.Standings.{IsFinishedBlock}
use Rattle.cancel_log.specs.Verdicts.{IsLog}
use Rattle.cancel_log.proofs.FeedLemmas.{lines_of-lines, whole-block, whole-cancel, whole-field}
use Rattle.cancel_log.proofs.PrintedDiagrams.{short-diagram}
use Rattle.cancel_log.proofs.ShortBlocks.{short-block}
use Rattle.cancel_log.proofs.StandingSteps.{lines-push}
use Rattle.cancel_log.proofs.WholeLogs.{log-text}

-- the lines of blocks have no line feed

whole-cancels : (history : List Pivot) → AllByRecursion IsShortPivot history → AllByRecursion HasNoLineFeed (map cancel_line history)
whole-cancels [] short = tt
whole-cancels (pivot ∷ history) (one, short) = (whole-cancel pivot one, whole-cancels history short)

whole-blocks : (blocks : List BlockHistory) → AllByRecursion IsShortBlock blocks → AllByRecursion HasNoLineFeed (lines_of_blocks blocks)
whole-blocks [] short = tt
whole-blocks (held ∷ blocks) (one, short) =
    AllByRecursion-append HasNoLineFeed (block_lines held) (lines_of_blocks blocks) (
      whole-block held.degree one.degree,
      whole-cancels held.history (recursion_from_All IsShortPivot held.history one.history),
    )
    (whole-blocks blocks short)

-- all of a list holds of its front
All-earlier : (P : BlockHistory → Type 0) (blocks : List BlockHistory) → All P blocks → All P (earlier_blocks blocks)
All-earlier P blocks all = All-take P (length blocks - 1) blocks all

-- blocks of a diagram that are cancelled to zero by legal histories are told by a log

pub short-blocks : (p : ℕ) (code : Code) (blocks : List BlockHistory) → IsField p → IsTrue (accepted code)
    → length code.crossings ≤ CROSSINGS → generator_count code ≤ GENERATORS → AreBlocksOf code blocks
    → All (HasLegalHistory p) blocks → All IsShortBlock blocks
short-blocks p code blocks field is few size are legal = λ k d below.
    let held = get_or blocks k d in
    let degree : get_or (degrees_of_blocks blocks) k held.degree ≡ held.degree =
    get_or-map (λ (b : BlockHistory). b.degree) blocks k d held.degree below in
    let has : Contains (block_degrees code) held.degree =
    subst (λ (js : List ℤ). Contains js held.degree) are.degrees
    (k, omega (arith, below, length-map blocks (λ (b : BlockHistory). b.degree)), degree) in
    short-block p code held field is few size (are.diagram k d below) has (legal k d below)

pub log-of_blocks : (p : ℕ) (code : Code) (blocks : List BlockHistory) (text : List ℕ) → IsSmallPrime p → IsField p
    → IsTrue (accepted code) → length code.crossings ≤ CROSSINGS → code.loops ≤ LOOPS → generator_count code ≤ GENERATORS
    → ReadsAsPd (pd_text code) code → AreBlocksOf code blocks → All (HasLegalHistory p) blocks → All (IsFinished p) blocks
    → text ≡ log_text p code blocks → IsLog p code text
log-of_blocks p code blocks text prime field is few loops size reads are legal zero same =
    let short = short-blocks p code blocks field is few size are legal in
    let diagram = short-diagram code is few loops in
    let whole : AllByRecursion HasNoLineFeed (start_lines p code ++ lines_of_blocks blocks) =
    (refl, (diagram.1, (whole-field p prime, whole-blocks blocks (recursion_from_All IsShortBlock blocks short)))) in
    log-text p code text (record {
      others = lines_of_blocks blocks ++ table_lines_of (table p code);
      begins = record {
        text = pd_text code;
        diagram = record { few = diagram.0; reads = reads; accepted = is };
        field = prime;
        parts = ap lines_of same
            ∙ lines_of-lines (start_lines p code ++ lines_of_blocks blocks) (table_text (table p code)) whole
            ∙ append_assoc (start_lines p code) (lines_of_blocks blocks) (table_lines_of (table p code));
      };
      prove = record {
        within = size;
        blocks = blocks;
        proved = record {
          stand = record {
            diagram = are.diagram;
            degrees = subst (λ (js : List ℤ). IsPrefix (degrees_of_blocks blocks) js) are.degrees (prefix_self (degrees_of_blocks blocks));
            short = short;
            legal = legal;
            earlier = All-earlier (IsFinished p) blocks zero;
          };
          zero = zero;
          degrees = are.degrees;
        };
        parts = refl;
      };
    })

-- line by line

pub start-text : (p field : ℕ) (code : Code) (printed line text : List ℕ) → printed ≡ pd_text code → field ≡ p
    → line ≡ codes "\nfield " ++ (decimal field ++ codes "\n") → text ≡ (codes "log 1\n" ++ printed) ++ line
    → text ≡ text_of_lines (start_lines p code)
start-text p field code printed line text is_printed is_field is_line is =
    is ∙ ap₂ (λ (xs ys : List ℕ). (codes "log 1\n" ++ xs) ++ ys) is_printed
    (is_line ∙ ap (λ (n : ℕ). codes "\nfield " ++ (decimal n ++ codes "\n")) is_field)
    ∙ parts
  where
    parts : (codes "log 1\n" ++ pd_text code) ++ (codes "\nfield " ++ (decimal p ++ codes "\n")) ≡ text_of_lines (start_lines p code)
    parts = simp append_assoc

pub ruleset starts = (start-text)

pub block-text : (j : ℤ) (line : List ℕ) → line ≡ codes "block " ++ (signed_decimal j ++ codes "\n") → line ≡ with_feed (block_line j)
block-text j line is = is ∙ sym (append_assoc (codes "block ") (signed_decimal j) (codes "\n"))

pub cancel-text : (pivot : Pivot) (line : List ℕ)
    → line ≡ codes "cancel " ++ (signed_decimal pivot.degree ++ (codes " " ++ (decimal pivot.column ++ (codes " " ++ (decimal pivot.row ++ codes "\n")))))
    → line ≡ with_feed (cancel_line pivot)
cancel-text pivot line is = is ∙ parts
  where
    parts : codes "cancel " ++ (signed_decimal pivot.degree ++ (codes " " ++ (decimal pivot.column ++ (codes " " ++ (decimal pivot.row ++ codes "\n")))))
        ≡ with_feed (cancel_line pivot)
    parts = simp append_assoc

-- the text of a block with so many pivots
abbrev pub block_to : BlockHistory → ℕ → List ℕ
block_to held k = with_feed (block_line held.degree) ++ text_of_lines (map cancel_line (take k held.history))

pub block_to-none : (held : BlockHistory) (j : ℤ) (start line bytes text : List ℕ) → j ≡ held.degree
    → line ≡ codes "block " ++ (signed_decimal j ++ codes "\n") → bytes ≡ line → text ≡ start ++ bytes
    → text ≡ start ++ block_to held 0
block_to-none held j start line bytes text degree is same is_text =
    is_text
    ∙ ap (λ (xs : List ℕ). start ++ xs)
    (same ∙ block-text j line is ∙ ap (λ (i : ℤ). with_feed (block_line i)) degree ∙ sym (append-nil (with_feed (block_line held.degree))))

pub block_to-all : (held : BlockHistory) (k : ℕ) → length held.history ≤ k → block_to held k ≡ text_of_lines (block_lines held)
block_to-all held k all =
    ap (λ (ps : List Pivot). with_feed (block_line held.degree) ++ text_of_lines (map cancel_line ps)) (take_all k held.history all)

pub ruleset lines = (block-text, cancel-text, block_to-none)

-- the text up to some blocks
abbrev pub text_to : ℕ → Code → List BlockHistory → List ℕ
text_to p code blocks = text_of_lines (start_lines p code ++ lines_of_blocks blocks)

pub text_to-more : (p : ℕ) (code : Code) (blocks : List BlockHistory) (held : BlockHistory) (text next : List ℕ)
    → text ≡ text_to p code blocks → next ≡ text ++ text_of_lines (block_lines held) → next ≡ text_to p code (blocks ++ held ∷ [])
text_to-more p code blocks held text next is is_next =
    is_next ∙ ap (λ (xs : List ℕ). xs ++ text_of_lines (block_lines held)) is
    ∙ sym (flat_map-append with_feed (start_lines p code ++ lines_of_blocks blocks) (block_lines held))
    ∙ ap text_of_lines (append_assoc (start_lines p code) (lines_of_blocks blocks) (block_lines held))
    ∙ ap (λ (ls : List (List ℕ)). text_of_lines (start_lines p code ++ ls)) (sym (lines-push blocks held))

pub text_to-step : (p : ℕ) (code : Code) (blocks : List BlockHistory) (k : ℕ) (held : BlockHistory) (text next : List ℕ)
    → text ≡ text_to p code (take k blocks) → k < length blocks → held ≡ get_or blocks k held
    → next ≡ text ++ text_of_lines (block_lines held) → next ≡ text_to p code (take (k + 1) blocks)
text_to-step p code blocks k held text next is below is_held is_next =
    text_to-more p code (take k blocks) held text next is is_next
    ∙ ap (text_to p code)
    (ap (λ (b : BlockHistory). take k blocks ++ b ∷ []) is_held ∙ sym (take_more blocks k held below))

pub text_to-all : (p : ℕ) (code : Code) (blocks : List BlockHistory) (k : ℕ) (text next lines : List ℕ)
    → text ≡ text_to p code (take k blocks) → length blocks ≤ k → lines ≡ table_text (table p code) → next ≡ text ++ lines
    → next ≡ log_text p code blocks
text_to-all p code blocks k text next lines is all is_lines is_next =
    is_next ∙ ap₂ (λ (xs ys : List ℕ). xs ++ ys) (is ∙ ap (text_to p code) (take_all k blocks all)) is_lines

-- a log that is written block by block

pub record IsWritten (p : ℕ) (code : Code) (degrees : List ℤ) (k : ℕ) (text : List ℕ) (rows : List Row) : Type 0 where
  pub blocks : List BlockHistory
  pub diagram : All (λ held. held.diagram ≡ code) blocks
  pub legal : All (HasLegalHistory p) blocks
  pub zero : All (IsFinished p) blocks
  pub degrees_are : degrees_of_blocks blocks ≡ take k degrees
  pub text_is : text ≡ text_to p code blocks
  pub rows_are : rows ≡ flat_map (rows_at p code) (take k degrees)

pub IsWritten-none : (p : ℕ) (code : Code) (degrees : List ℤ) (text : List ℕ) (rows : List Row)
    → text ≡ text_of_lines (start_lines p code) → rows ≡ [] → IsWritten p code degrees 0 text rows
IsWritten-none p code degrees text rows is none = record {
  blocks = [];
  diagram = All-nil (λ held. held.diagram ≡ code);
  legal = All-nil (HasLegalHistory p);
  zero = All-nil (IsFinished p);
  degrees_are = refl;
  text_is = is;
  rows_are = none;
}

pub IsWritten-more : (p : ℕ) (code made_of : Code) (degrees : List ℤ) (k : ℕ) (read kept : ℤ) (held : BlockHistory) (text next : List ℕ)
    (rows later : List Row) → IsWritten p code degrees k text rows → k < length degrees → read ≡ get_or degrees k read → kept ≡ read
    → made_of ≡ code → IsFinishedBlock p made_of kept held → next ≡ text ++ text_of_lines (block_lines held)
    → later ≡ rows ++ rows_at p held.diagram held.degree → IsWritten p code degrees (k + 1) next later
IsWritten-more p code made_of degrees k read kept held text next rows later so_far below is_read is_kept is_code block is_next is_later =
    let degree : held.degree ≡ get_or degrees k read = block.degree ∙ is_kept ∙ is_read in
    record {
      blocks = so_far.blocks ++ held ∷ [];
      diagram = All-push (λ (b : BlockHistory). b.diagram ≡ code) so_far.blocks held so_far.diagram (block.diagram ∙ is_code);
      legal = All-push (HasLegalHistory p) so_far.blocks held so_far.legal block.legal;
      zero = All-push (IsFinished p) so_far.blocks held so_far.zero block.zero;
      degrees_are = map_push (λ (b : BlockHistory). b.degree) so_far.blocks held
          ∙ ap₂ (λ (js : List ℤ) (j : ℤ). js ++ j ∷ []) so_far.degrees_are degree
          ∙ sym (take_more degrees k read below);
      text_is = text_to-more p code so_far.blocks held text next so_far.text_is is_next;
      rows_are = rows-more p code held.diagram degrees k read held.degree rows later so_far.rows_are below is_read
          (block.degree ∙ is_kept) (block.diagram ∙ is_code) is_later;
    }

pub IsWritten-all : (p : ℕ) (code : Code) (degrees : List ℤ) (k : ℕ) (text next lines : List ℕ) (rows : List Row) → IsSmallPrime p
    → IsField p → IsTrue (accepted code) → length code.crossings ≤ CROSSINGS → code.loops ≤ LOOPS
    → generator_count code ≤ GENERATORS → ReadsAsPd (pd_text code) code → IsWritten p code degrees k text rows
    → length degrees ≤ k → degrees ≡ block_degrees code → lines ≡ table_text (table p code) → next ≡ text ++ lines
    → IsLog p code next
IsWritten-all p code degrees k text next lines rows prime field is few loops size reads so_far all are is_lines is_next =
    log-of_blocks p code so_far.blocks next prime field is few loops size reads
    (record { diagram = so_far.diagram; degrees = so_far.degrees_are ∙ take_all k degrees all ∙ are }) so_far.legal so_far.zero
    (is_next ∙ ap₂ (λ (xs ys : List ℕ). xs ++ ys) so_far.text_is is_lines)

pub ruleset writes = (text_to-step)
