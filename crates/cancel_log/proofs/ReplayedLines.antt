-- What the loop over the lines of blocks keeps, and what it comes to. It keeps that the lines read so far tell of blocks that
-- stand, that the reading stands where these blocks say, and that the next line has the number behind theirs. A line comes to one
-- of three things. It goes on, where it cancels or begins a block: then the blocks tell one line more. It closes: then the blocks
-- prove the table, and the rows are those of all quantum degrees. Or it fails: then it is the wrong line behind these blocks, for
-- its cause. Where the lines end before one closes, the log ends early. What a single line does is known from elsewhere; here it
-- is carried over to the lists of lines and their numbers.
use Rattle.std.proofs.Common.{◌≡◌, ℕ, ◌+◌, ◌≤◌, ◌∙◌, true, false, List, [], ◌∷◌, ◌++◌, length, inl, inr, refl, sym, ap, arith}
use Rattle.std.specs.Prelude.{None, Some, Err}
use Rattle.std.specs.List.{flat_map}
use Rattle.std.proofs.lemmas.List.{append_assoc, length-append}
use Rattle.kh_types.specs.Code.{Code}
use Rattle.kh_types.specs.Table.{rows_at}
use Rattle.cube_signs.specs.Blocks.{block_degrees}
use Rattle.circle_smoothing.specs.GeneratorCounts.{generator_count}
use Rattle.circle_smoothing.specs.declared.limits.TheConstants.{GENERATORS}
use Rattle.shared_block.specs.BlockHistories.{BlockHistory}
use Rattle.cancel_log.specs.LinesLeft.{AreFew, LinesLeft, TakesLine}
use Rattle.cancel_log.specs.LogBlocks.{IsWrong, lines_of_blocks}
use Rattle.cancel_log.specs.LogLines.{Says}
use Rattle.cancel_log.specs.Standings.{Does, HasProved, Standing, is_close, standing_first, step}
use Rattle.cancel_log.specs.Verdicts.{HaveWrongLine, IsVerdictBehind, number_behind}
use Rattle.cancel_log.specs.declared.cause.LogCause.{LogCause}
use Rattle.cancel_log.specs.declared.cause.LogCause.TheVariants as causes
use Rattle.cancel_log.specs.declared.line.LogLine.{LogLine}
use Rattle.cancel_log.specs.declared.line.LogLine.TheVariants.{Cancel, Begin, Close, Other}
use Rattle.cancel_log.specs.declared.stop.LogStop.TheVariants.{Line}
use Rattle.cancel_log.proofs.LinesTaken.{few-taken}
use Rattle.cancel_log.proofs.StandingSteps.{After, GoesOnWith, IsAt, IsAt-first, Stand-at, all_blocks, did-fail, did-go, step-comes}

-- the lines so far tell of blocks that stand, and the reading stands there
pub record IsReplayed (p : ℕ) (code : Code) (others : List (List ℕ)) (left : LinesLeft) (standing : Standing) : Type 0 where
  pub before : List BlockHistory
  pub at : IsAt p code before standing
  pub parts : others ≡ lines_of_blocks (all_blocks before standing.current) ++ left.rest
  pub numbered : left.number ≡ number_behind (all_blocks before standing.current)
  pub few : AreFew left

pub IsReplayed-first : (p : ℕ) (code : Code) (left : LinesLeft) → left.number ≡ 4 → AreFew left
    → IsReplayed p code left.rest left standing_first
IsReplayed-first p code left fourth few =
    record { before = []; at = IsAt-first p code; parts = refl; numbered = fourth; few = few }

-- a line goes on

goes-on : (p : ℕ) (code : Code) (others : List (List ℕ)) (old new : LinesLeft) (line : List ℕ) (blocks : List BlockHistory)
    (next : Standing) → GoesOnWith p code blocks line next → TakesLine old line new → others ≡ lines_of_blocks blocks ++ old.rest
    → old.number ≡ number_behind blocks → AreFew old → IsReplayed p code others new next
goes-on p code others old new line blocks next goes takes parts numbered few = record {
  before = goes.before;
  at = goes.at;
  parts = parts ∙ ap (λ (ls : List (List ℕ)). lines_of_blocks blocks ++ ls) takes.rest
      ∙ sym (append_assoc (lines_of_blocks blocks) (line ∷ []) new.rest)
      ∙ ap (λ (ls : List (List ℕ)). ls ++ new.rest) (sym goes.lines);
  numbered = omega (
    arith,
    numbered,
    takes.number,
    ap length goes.lines,
    length-append (lines_of_blocks blocks) (line ∷ []),
  );
  few = few-taken old new line few takes;
}

-- what a line that does not fail comes to
went : (p : ℕ) (code : Code) (others : List (List ℕ)) (old : LinesLeft) (line : List ℕ) (said : LogLine) (before after : Standing)
    (read : IsReplayed p code others old before) → Says line said → Does (step p code before said) before None after
    → After p code (all_blocks read.before before.current) line said after
went p code others old line said before after read says does =
    did-go p code (all_blocks read.before before.current) line said (step p code before said) before after
    (step-comes p code read.before before.begun before.current before.rows line said read.at says) does

pub replayed-on : (p : ℕ) (code : Code) (others : List (List ℕ)) (old new : LinesLeft) (line : List ℕ) (said : LogLine)
    (before after : Standing) → IsReplayed p code others old before → TakesLine old line new → Says line said
    → Does (step p code before said) before None after → is_close said ≡ false → IsReplayed p code others new after
replayed-on p code others old new line said before after read takes says does other =
    go said (went p code others old line said before after read says does) other
  where
    go : (said : LogLine) → After p code (all_blocks read.before before.current) line said after → is_close said ≡ false
        → IsReplayed p code others new after
    go (Cancel pivot) goes other =
        goes-on p code others old new line (all_blocks read.before before.current) after goes takes read.parts read.numbered read.few
    go (Begin j) goes other =
        goes-on p code others old new line (all_blocks read.before before.current) after goes takes read.parts read.numbered read.few
    go Close closes other = absurd (cc)
    go Other comes other = absurd comes

-- a line closes

pub replayed-proved : (p : ℕ) (code : Code) (others : List (List ℕ)) (old new : LinesLeft) (line : List ℕ) (said : LogLine)
    (before after : Standing) → IsReplayed p code others old before → TakesLine old line new → Says line said
    → Does (step p code before said) before None after → is_close said ≡ true
    → HasProved p code others new × (after.rows ≡ flat_map (rows_at p code) (block_degrees code))
replayed-proved p code others old new line said before after read takes says does closes =
    go said says (went p code others old line said before after read says does) closes
  where
    go : (said : LogLine) → Says line said → After p code (all_blocks read.before before.current) line said after
        → is_close said ≡ true → HasProved p code others new × (after.rows ≡ flat_map (rows_at p code) (block_degrees code))
    go Close says comes closes = (
      record {
        blocks = all_blocks read.before before.current;
        proved = comes.proved;
        parts = read.parts
            ∙ ap (λ (ls : List (List ℕ)). lines_of_blocks (all_blocks read.before before.current) ++ ls)
            (takes.rest ∙ ap (λ (l : List ℕ). l ∷ new.rest) says);
        numbered = omega (arith, takes.number, read.numbered);
      },
      comes.rows,
    )
    go _ says comes closes = absurd (cc)

-- a line is wrong

pub wrong-behind : (p : ℕ) (code : Code) (others : List (List ℕ)) (number : ℕ) (cause : LogCause) (blocks : List BlockHistory)
    (said : LogLine) → IsWrong p code blocks said cause → HaveWrongLine p code others number cause
    → IsVerdictBehind p code others (Err (Line number cause))
wrong-behind p code others number causes.Text blocks said wrong have = inr have
wrong-behind p code others number causes.Table blocks (Cancel pivot) wrong have = absurd wrong
wrong-behind p code others number causes.Table blocks (Begin j) wrong have = absurd wrong
wrong-behind p code others number causes.Table blocks Close wrong have = absurd wrong
wrong-behind p code others number causes.Table blocks Other wrong have = absurd wrong
wrong-behind p code others number cause blocks said wrong have = have

pub replayed-wrong : (p : ℕ) (code : Code) (others : List (List ℕ)) (old new : LinesLeft) (line : List ℕ) (said : LogLine)
    (before after : Standing) (cause : LogCause) (number : ℕ) → generator_count code ≤ GENERATORS
    → IsReplayed p code others old before → TakesLine old line new → Says line said
    → Does (step p code before said) before (Some cause) after → number + 1 ≡ new.number
    → IsVerdictBehind p code others (Err (Line number cause))
replayed-wrong p code others old new line said before after cause number within read takes says does same =
    let blocks = all_blocks read.before before.current in
    let wrong = did-fail p code blocks line said (step p code before said) before after cause
    (step-comes p code read.before before.begun before.current before.rows line said read.at says) does in
    wrong-behind p code others number cause blocks said wrong (record {
      blocks = blocks;
      line = line;
      later = new.rest;
      tell = record {
        within = within;
        stand = Stand-at p code read.before before read.at;
        parts = read.parts ∙ ap (λ (ls : List (List ℕ)). lines_of_blocks blocks ++ ls) takes.rest;
      };
      said = said;
      says = says;
      wrong = wrong;
      numbered = omega (arith, same, takes.number, read.numbered);
    })

-- the lines end

pub replayed-end : (p : ℕ) (code : Code) (others : List (List ℕ)) (left : LinesLeft) (standing : Standing) (number : ℕ)
    → generator_count code ≤ GENERATORS → IsReplayed p code others left standing → left.rest ≡ [] → number ≡ left.number
    → IsVerdictBehind p code others (Err (Line number causes.Text))
replayed-end p code others left standing number within read none same =
    let blocks = all_blocks read.before standing.current in
    inl (record {
      blocks = blocks;
      tell = record {
        within = within;
        stand = Stand-at p code read.before standing read.at;
        parts = read.parts ∙ ap (λ (ls : List (List ℕ)). lines_of_blocks blocks ++ ls) none;
      };
      numbered = same ∙ read.numbered;
    })
