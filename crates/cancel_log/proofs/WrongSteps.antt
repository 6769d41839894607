-- A line that is wrong behind blocks that stand fails where the reading stands there, for this cause and no other.
use Rattle.std.proofs.Common.{◌≡◌, ℕ, ◌+◌, ◌∙◌, Bool, true, false, cond, List, [], ◌∷◌, ◌++◌, length, ℤ, refl, sym, ap}
use Rattle.std.specs.Prelude.{All, Option, None, Some, Ok, Err}
use Rattle.std.proofs.lemmas.Bool.{eq-eqb}
use Rattle.kh_types.specs.Code.{Code}
use Rattle.kh_types.specs.Complex.{Pivot}
use Rattle.kh_types.specs.Table.{Row}
use Rattle.cube_signs.specs.Blocks.{block_degrees}
use Rattle.shared_block.specs.AllBlocks.{IsFinished, degrees_of_blocks}
use Rattle.shared_block.specs.BlockHistories.{BlockHistory, block_with, complex_of}
use Rattle.shared_block.specs.Commits.{is_pivot, with_pivot}
use Rattle.shared_block.proofs.PivotTests.{IsPivot-passes}
use Rattle.cancel_log.specs.LogBlocks.{IsLastPivot, IsWrong}
use Rattle.cancel_log.specs.Standings.{Standing, is_closed, is_last, is_next, rows_and, step}
use Rattle.cancel_log.specs.declared.cause.LogCause.{LogCause}
use Rattle.cancel_log.specs.declared.cause.LogCause.TheVariants as causes
use Rattle.cancel_log.specs.declared.line.LogLine.{LogLine}
use Rattle.cancel_log.specs.declared.line.LogLine.TheVariants.{Cancel, Begin, Close, Other}
use Rattle.cancel_log.proofs.StandingSteps.{IsAt, all_blocks, closed-all, last-degrees, length-degrees, next-passes, not_empty, open-all, standing_with, step_by}

-- what a test is, where it can not be otherwise

-- it is not true
false-from : (b : Bool) → (b ≡ true → ⊥) → b ≡ false
false-from true lacks = absurd (lacks refl)
false-from false lacks = refl

-- it is not false
true-from : (b : Bool) → (b ≡ false → ⊥) → b ≡ true
true-from true lacks = refl
true-from false lacks = absurd (lacks refl)

-- all blocks are cancelled to zero exactly where the last is

-- all are, so that the last is
all-closed : (p : ℕ) (before : List BlockHistory) (current : Option BlockHistory) → All (IsFinished p) (all_blocks before current)
    → is_closed p current ≡ true
all-closed p before current all = true-from (is_closed p current) (λ is. open-all p before current is all)

-- not all are, so that the last is not
all-open : (p : ℕ) (before : List BlockHistory) (current : Option BlockHistory) → All (IsFinished p) before
    → (All (IsFinished p) (all_blocks before current) → ⊥) → is_closed p current ≡ false
all-open p before current closed lacks = false-from (is_closed p current) (λ is. lacks (closed-all p before current closed is))

-- all blocks have begun exactly where their degrees are all

-- their degrees are all
degrees-last : (p : ℕ) (code : Code) (before : List BlockHistory) (standing : Standing) → IsAt p code before standing
    → degrees_of_blocks (all_blocks before standing.current) ≡ block_degrees code → is_last code standing.begun ≡ true
degrees-last p code before standing at degrees =
    eq-eqb standing.begun (length (block_degrees code))
    (at.begun ∙ sym (length-degrees (all_blocks before standing.current)) ∙ ap length degrees)

-- their degrees are not all
degrees-more : (p : ℕ) (code : Code) (before : List BlockHistory) (standing : Standing) → IsAt p code before standing
    → (degrees_of_blocks (all_blocks before standing.current) ≡ block_degrees code → ⊥) → is_last code standing.begun ≡ false
degrees-more p code before standing at lacks =
    false-from (is_last code standing.begun) (λ is. lacks (last-degrees p code before standing at is))

-- a line that cancels no entry
wrong-cancel : (p : ℕ) (code : Code) (before : List BlockHistory) (begun : ℕ) (held : BlockHistory) (rows : List Row) (pivot : Pivot)
    → (IsLastPivot p (before ++ held ∷ []) pivot → ⊥)
    → step p code (standing_with begun (Some held) rows) (Cancel pivot) ≡ Err causes.Entry
wrong-cancel p code before begun held rows pivot lacks =
    let next = standing_with begun (Some (with_pivot held pivot)) rows in
    let fails = false-from (is_pivot (complex_of p held) pivot)
    (λ is. lacks (record { before = before; last = held; parts = refl; entry = IsPivot-passes (complex_of p held) pivot is })) in
    ap (λ (passes : Bool). step_by passes next causes.Entry) fails

-- a line that begins a block
wrong-begin : (p : ℕ) (code : Code) (before : List BlockHistory) (begun : ℕ) (current : Option BlockHistory) (rows : List Row) (j : ℤ)
    (cause : LogCause) → IsAt p code before (standing_with begun current rows)
    → IsWrong p code (all_blocks before current) (Begin j) cause
    → step p code (standing_with begun current rows) (Begin j) ≡ Err cause
wrong-begin p code before begun current rows j causes.Open at lacks =
    let next = standing_with (begun + 1) (Some (block_with code j [])) (rows_and p rows current) in
    ap (λ (zero : Bool). cond zero (step_by (is_next code begun j) next causes.Block) (Err causes.Open))
    (all-open p before current at.closed lacks)
wrong-begin p code before begun current rows j causes.Block at (all, lacks) =
    let next = standing_with (begun + 1) (Some (block_with code j [])) (rows_and p rows current) in
    ap (λ (zero : Bool). cond zero (step_by (is_next code begun j) next causes.Block) (Err causes.Open)) (all-closed p before current all)
    ∙ ap (λ (passes : Bool). step_by passes next causes.Block)
    (false-from (is_next code begun j) (λ is. lacks (next-passes p code before begun current rows j at is)))
wrong-begin p code before begun current rows j _ at wrong = absurd wrong

-- a line that closes

-- where no block has begun
wrong-first : (p : ℕ) (code : Code) (before : List BlockHistory) (begun : ℕ) (rows : List Row) (cause : LogCause)
    → IsAt p code before (standing_with begun None rows) → IsWrong p code before Close cause
    → step p code (standing_with begun None rows) Close ≡ Err cause
wrong-first p code before begun rows causes.Text at (none, some) =
    let standing = standing_with begun None rows in
    let fails = degrees-more p code before standing at
    (λ degrees. some (sym degrees ∙ ap (λ (bs : List BlockHistory). degrees_of_blocks bs) none)) in
    ap (λ (last : Bool). step_by last standing causes.Text) fails
wrong-first p code before begun rows causes.Open at lacks = absurd (lacks at.closed)
wrong-first p code before begun rows causes.Block at (some, all, lacks) = absurd (some (at.none refl))
wrong-first p code before begun rows _ at wrong = absurd wrong

-- where one has begun
wrong-close : (p : ℕ) (code : Code) (before : List BlockHistory) (begun : ℕ) (held : BlockHistory) (rows : List Row) (cause : LogCause)
    → IsAt p code before (standing_with begun (Some held) rows) → IsWrong p code (before ++ held ∷ []) Close cause
    → step p code (standing_with begun (Some held) rows) Close ≡ Err cause
wrong-close p code before begun held rows causes.Text at (none, some) = absurd (not_empty before held none)
wrong-close p code before begun held rows causes.Open at lacks =
    let next = standing_with begun None (rows_and p rows (Some held)) in
    ap (λ (zero : Bool). cond zero (step_by (is_last code begun) next causes.Block) (Err causes.Open))
    (all-open p before (Some held) at.closed lacks)
wrong-close p code before begun held rows causes.Block at (some, all, lacks) =
    let next = standing_with begun None (rows_and p rows (Some held)) in
    ap (λ (zero : Bool). cond zero (step_by (is_last code begun) next causes.Block) (Err causes.Open)) (all-closed p before (Some held) all)
    ∙ ap (λ (last : Bool). step_by last next causes.Block)
    (degrees-more p code before (standing_with begun (Some held) rows) at lacks)
wrong-close p code before begun held rows _ at wrong = absurd wrong

-- any line
pub wrong-steps : (p : ℕ) (code : Code) (before : List BlockHistory) (begun : ℕ) (current : Option BlockHistory) (rows : List Row)
    (said : LogLine) (cause : LogCause) → IsAt p code before (standing_with begun current rows)
    → IsWrong p code (all_blocks before current) said cause → step p code (standing_with begun current rows) said ≡ Err cause
wrong-steps p code before begun None rows (Cancel pivot) causes.Text at wrong = refl
wrong-steps p code before begun None rows (Cancel pivot) causes.Entry at (some, lacks) = absurd (some (at.none refl))
wrong-steps p code before begun (Some held) rows (Cancel pivot) causes.Text at none = absurd (not_empty before held none)
wrong-steps p code before begun (Some held) rows (Cancel pivot) causes.Entry at (some, lacks) =
    wrong-cancel p code before begun held rows pivot lacks
wrong-steps p code before begun current rows (Cancel pivot) _ at wrong = absurd wrong
wrong-steps p code before begun current rows (Begin j) cause at wrong = wrong-begin p code before begun current rows j cause at wrong
wrong-steps p code before begun None rows Close cause at wrong = wrong-first p code before begun rows cause at wrong
wrong-steps p code before begun (Some held) rows Close cause at wrong = wrong-close p code before begun held rows cause at wrong
wrong-steps p code before begun current rows Other causes.Text at wrong = refl
wrong-steps p code before begun current rows Other _ at wrong = absurd wrong

-- behind blocks that prove a table the closing line does not fail
pub proved-closes : (p : ℕ) (code : Code) (before : List BlockHistory) (begun : ℕ) (current : Option BlockHistory) (rows : List Row)
    → IsAt p code before (standing_with begun current rows) → All (IsFinished p) (all_blocks before current)
    → degrees_of_blocks (all_blocks before current) ≡ block_degrees code
    → (next : Standing) × (step p code (standing_with begun current rows) Close ≡ Ok next)
proved-closes p code before begun None rows at all degrees =
    let standing = standing_with begun None rows in
    (standing, ap (λ (last : Bool). step_by last standing causes.Text) (degrees-last p code before standing at degrees))
proved-closes p code before begun (Some held) rows at all degrees =
    let next = standing_with begun None (rows_and p rows (Some held)) in
    let closed = all-closed p before (Some held) all in
    let last = degrees-last p code before (standing_with begun (Some held) rows) at degrees in (
      next,
      ap (λ (zero : Bool). cond zero (step_by (is_last code begun) next causes.Block) (Err causes.Open)) closed
          ∙ ap (λ (is : Bool). step_by is next causes.Block) last,
    )
