-- The parts of an event, put together to the rows of the core's table. A core is sound when it is made, and stays so as a worker
-- is given what it may hold, or nothing. What is seen of a block is that it had all its turns, exactly where its complex is zero,
-- or else a copy for some pivot; where a worker then holds the copy, this is the row of a look. A commit to a block is never
-- foreign, since what was copied of a complex does not differ from it: so either the copy is old, and the state stays, or the
-- pivot stands at the end of the block's history. Both leave a sound state, and with what the worker held give the row of a
-- commit. A worker that holds nothing changes nothing.
use Rattle.std.proofs.Common.{◌≡◌, ◌↔◌, ℕ, ◌-◌, ◌<◌, ◌≤◌, ◌∙◌, List, ℤ, length, get_or, set, replicate, map, refl, sym, ap, subst, subst₂, arith, Option, None, Some, IsTrue, true, length-set, inl, inr}
use Rattle.std.proofs.lemmas.List.{get_or-map, get_or_default, length-map, length-replicate, set-get_or}
use Rattle.std.specs.Prelude.{IfSome}
use Rattle.std.specs.List.{Any}
use Rattle.kh_types.specs.Acceptance.{accepted}
use Rattle.kh_types.specs.Code.{Code}
use Rattle.kh_types.specs.Complex.{Complex, Pivot, is_zero}
use Rattle.prime_field.specs.Residues.{IsField}
use Rattle.cancel_step.proofs.ForeignLemmas.{number-unless_other}
use Rattle.sparse_block.specs.Complexes.{column_of, row_of}
use Rattle.sparse_block.specs.Entries.{Entry, entries_of}
use Rattle.sparse_block.proofs.EntryLemmas.{value_at-entries_of}
use Rattle.cancel_step.specs.Copies.{Copied, copied, line_across}
use Rattle.cancel_step.specs.Foreign.{IsForeign, IsOtherColumn, IsOtherRowAt}
use Rattle.shared_block.specs.BlockHistories.{BlockCopy, BlockHistory, HasLegalHistory, IsCopyOf, complex_of}
use Rattle.shared_block.specs.Commits.{Answers, IsForeignAnswer, IsOld, IsStale, with_pivot}
use Rattle.shared_block.specs.declared.commit_answer.CommitAnswer.{CommitAnswer}
use Rattle.shared_block.specs.declared.commit_answer.CommitAnswer.TheVariants.{Committed as BlockCommitted, Stale as BlockStale, Foreign as BlockForeign}
use Rattle.shared_block.specs.AllBlocks.{opening_blocks}
use Rattle.commit_core.specs.Parts.{CommitsToBlock, IsBlockAt, IsSameAnswer, IsSight}
use Rattle.commit_core.specs.Rows.{Commits, LooksAt}
use Rattle.commit_core.specs.States.{Holding, IsHeldOf, IsSound, CoreState, block_at, held_by, holding_of, state_of, with_commit, with_held}
use Rattle.commit_core.specs.declared.answer.Answer.{Answer}
use Rattle.commit_core.specs.declared.answer.Answer.TheVariants.{Looked, Zero, Committed, Stale, Idle, Forgot, NoBlock}
use Rattle.commit_core.proofs.BlockChanges.{block_at-place}
use Rattle.commit_core.proofs.Kept.{zero-turns}
use Rattle.commit_core.proofs.Lists.{set-same, set-set}
use Rattle.commit_core.proofs.Sound.{blocks-commit, copy-held, held-copy, sound-opening, sound-commit, sound-held}

-- at first

pub sound-made : (p most : ℕ) (code : Code) (blocks : List BlockHistory) (seats : List (Option Holding)) (workers : ℕ)
    → blocks ≡ opening_blocks code → seats ≡ replicate workers None → workers ≤ most
    → IsSound p (state_of code blocks seats) × (length seats ≤ most)
sound-made p most code blocks seats workers are_blocks are_seats few = (
  subst₂ (λ (bs : List BlockHistory) (ss : List (Option Holding)). IsSound p (state_of code bs ss)) (sym are_blocks) (sym are_seats)
      (sound-opening p code workers),
  omega (arith, few, ap length are_seats, length-replicate {A = Option Holding} workers None),
)

-- holding

pub sound-put : (p most : ℕ) (inside now : CoreState) (worker : ℕ) (held : Option Holding)
    → IsSound p inside × (length inside.workers ≤ most) → inside ≡ now → IfSome held (IsHeldOf p now)
    → IsSound p (with_held inside worker held) × (length (with_held inside worker held).workers ≤ most)
sound-put p most inside now worker held (sound, few) same is = (
  sound-held p inside worker held sound (subst (λ (s : CoreState). IfSome held (IsHeldOf p s)) (sym same) is),
  omega (arith, few, length-set inside.workers (worker - 1) held),
)

pub sound-taken : (p : ℕ) (state : CoreState) (left : Option Holding) → left ≡ None → IfSome left (IsHeldOf p state)
sound-taken p state left gone = subst (λ (held : Option Holding). IfSome held (IsHeldOf p state)) (sym gone) tt

-- seeing

pub sight-block : (p : ℕ) (inside now : CoreState) (j : ℤ) (place : ℕ) (block : BlockHistory) (found : Option BlockCopy) → IsField p
    → inside ≡ now → IsBlockAt now j place → block ≡ get_or inside.blocks place block → IsTrue (accepted block.diagram)
    → HasLegalHistory p block → (found ≡ None) ↔ (is_zero (complex_of p block) ≡ true) → IfSome found (IsCopyOf p block)
    → IsSight p now j (Some found)
sight-block p inside now j place block found field same at is is_code legal none copy = seen found none copy
  where
    there : block_at now j ≡ Some block
    there = at.there ∙ ap Some (sym (is ∙ ap (λ (s : CoreState). get_or s.blocks place block) same ∙ at.is block))

    seen : (one : Option BlockCopy) → (one ≡ None) ↔ (is_zero (complex_of p block) ≡ true) → IfSome one (IsCopyOf p block)
        → IsSight p now j (Some one)
    seen None none copy = (
      block,
      there,
      (zero-turns p block.diagram block.degree block.history field is_code legal).0 (none.0 refl),
    )
    seen (Some one) none copy = (
      block,
      there,
      (λ all.
          absurd (let gone = none.1 ((zero-turns p block.diagram block.degree block.history field is_code legal).1 all) in cc (gone))),
      copy,
    )

-- looking

with_held-twice : (state : CoreState) (worker : ℕ) (first second : Option Holding)
    → with_held (with_held state worker first) worker second ≡ with_held state worker second
with_held-twice state worker first second =
    ap (state_of state.diagram state.blocks) (set-set state.workers (worker - 1) first second)

-- a quantum degree that is kept in memory is the same
pub looked-row : (p : ℕ) (before middle after : CoreState) (worker : ℕ) (j kept : ℤ) (found : Option (Option BlockCopy))
    (inner : Option BlockCopy) (copy : BlockCopy) (version : ℕ) → kept ≡ j → middle ≡ with_held before worker None
    → IsSight p middle kept found → found ≡ Some inner → inner ≡ Some copy → version ≡ copy.version
    → after ≡ with_held middle worker (Some (holding_of kept copy)) → LooksAt p before worker j (Looked version) after
looked-row p before middle after worker j kept found inner copy version is_kept is_middle sight is_inner is_copy is_version is_after =
    let seen : IsSight p (with_held before worker None) j (Some (Some copy)) =
    subst₂ (λ (s : CoreState) (f : Option (Option BlockCopy)). IsSight p s j f) is_middle (is_inner ∙ ap Some is_copy)
    (subst (λ (k : ℤ). IsSight p middle k found) is_kept sight) in
    let held = Some (holding_of j copy) in (
      seen.0,
      seen.1,
      seen.2,
      is_version ∙ seen.3.version,
      (
        copy,
        seen.3,
        is_after ∙ ap (λ (k : ℤ). with_held middle worker (Some (holding_of k copy))) is_kept
            ∙ ap (λ (s : CoreState). with_held s worker held) is_middle ∙ with_held-twice before worker None held,
      ),
    )

pub held-sight : (p : ℕ) (state : CoreState) (j : ℤ) (copy : BlockCopy) → IsSight p state j (Some (Some copy))
    → IsHeldOf p state (holding_of j copy)
held-sight p state j copy (block, there, more, is) = held-copy p state j block copy there is

-- committing

none-of_map : {X Y : Type 0} (P : Y → Type 0) (f : X → Y) (xs : List X) → X → ((x : X) → P (f x) → ⊥) → Any P (map f xs) → ⊥
none-of_map P f xs d never (k, y, below, is, holds) =
    let within : k < length xs = omega (arith, below, length-map xs f) in
    never (get_or xs k d) (subst P (sym is ∙ get_or-map f xs k d y within) holds)

-- what was copied of a complex is not foreign to it
copied-not_foreign : (complex : Complex) (pivot : Pivot) → IsForeign (copied complex pivot) complex → ⊥
copied-not_foreign complex pivot (column, shows) =
    let i = pivot.degree in
    let entry : Entry = record { place = 0; value = 0 } in
    elim shows [
      | inl columns ↦
          none-of_map (λ line. IsOtherColumn complex i line column) (line_across (column_of complex i))
          (entries_of (row_of complex i pivot.row)) entry
          (λ e other. other.1 (ap (λ (place : ℕ). entries_of (column_of complex i place)) other.0)) columns
      | inr rows ↦
          none-of_map (λ line. IsOtherRowAt complex i line column) (line_across (row_of complex i))
          (entries_of (column_of complex i pivot.column)) entry
          (λ e other. other (value_at-entries_of (row_of complex i e.place) column)) rows
    ]

module _ (p : ℕ) (inside now : CoreState) (j : ℤ) (place : ℕ) (block after : BlockHistory) (copy : BlockCopy) (sound : IsSound p inside)
    (same : inside ≡ now) (at : IsBlockAt now j place) (is : block ≡ get_or inside.blocks place block)
    (fits : IsHeldOf p now (holding_of j copy)) where
  there : block_at now j ≡ Some block
  there = at.there ∙ ap Some (sym (is ∙ ap (λ (s : CoreState). get_or s.blocks place block) same ∙ at.is block))

  pub not-foreign : (answer : CommitAnswer)
      → IsForeignAnswer answer ↔ ((copy.version ≡ length block.history) × IsForeign copy.parts (complex_of p block))
      → IsForeignAnswer answer → ⊥
  not-foreign answer foreign is_foreign =
      let both = foreign.0 is_foreign in
      let copy_is = copy-held p now (holding_of j copy) block fits there both.0 in
      copied-not_foreign (complex_of p block) copy.parts.pivot
      (subst (λ (parts : Copied). IsForeign parts (complex_of p block)) copy_is.parts both.1)

  abbrev left : CoreState
  left = state_of inside.diagram (set inside.blocks place after) inside.workers

  at_version : (version : ℕ) → IsStale (BlockCommitted version) ↔ IsOld block copy → copy.version ≡ length block.history
  at_version version stale = number-unless_other copy.version (length block.history) stale.1

  left-committed : after ≡ with_pivot block copy.parts.pivot → left ≡ with_commit now j copy.parts.pivot
  left-committed is_after =
      let pivot = copy.parts.pivot in
      let here = block_at-place inside j block (ap (λ (s : CoreState). block_at s j) same ∙ there) in
      let within : place < length inside.blocks =
      omega (arith, at.below, ap (λ (s : CoreState). length s.blocks) same) in
      let stands : (d : BlockHistory) → get_or inside.blocks place d ≡ block =
      λ d. get_or_default inside.blocks place d block within ∙ sym is in
      ap (λ (b : BlockHistory). state_of inside.diagram (set inside.blocks place b) inside.workers) is_after
      ∙ ap (λ (blocks : List BlockHistory). state_of inside.diagram blocks inside.workers)
      (sym (blocks-commit p inside j pivot place block sound within stands here.3))
      ∙ ap (λ (s : CoreState). with_commit s j pivot) same

  left-same : after ≡ block → left ≡ now
  left-same is_after =
      ap (λ (b : BlockHistory). state_of inside.diagram (set inside.blocks place b) inside.workers) (is_after ∙ is)
      ∙ ap (λ (blocks : List BlockHistory). state_of inside.diagram blocks inside.workers) (set-get_or inside.blocks place block)
      ∙ same

  pub sound-left : (answer : CommitAnswer) → IsStale answer ↔ IsOld block copy → Answers p block copy answer after → IsSound p left
  sound-left (BlockCommitted version) stale (is_after, more) =
      let copy_is = copy-held p now (holding_of j copy) block fits there (at_version version stale) in
      subst (IsSound p) (sym (left-committed is_after))
      (sound-commit p now j copy.parts.pivot block (subst (IsSound p) same sound) there copy_is.pivot)
  sound-left (BlockStale looked count) stale (is_after, is_looked, is_now) =
      subst (IsSound p) (sym (left-same is_after)) (subst (IsSound p) same sound)
  sound-left (BlockForeign degree column) stale (is_after, is_degree, is_least) =
      subst (IsSound p) (sym (left-same is_after)) (subst (IsSound p) same sound)

  pub commits-left : (answer : CommitAnswer) (told : Answer) → IsStale answer ↔ IsOld block copy
      → Answers p block copy answer after → IsSameAnswer answer told → CommitsToBlock now j copy told left
  commits-left (BlockCommitted version) told stale (is_after, more) is_told =
      subst (λ (one : Answer). CommitsToBlock now j copy one left) (sym is_told)
      (block, there, at_version version stale, more, left-committed is_after)
  commits-left (BlockStale looked count) told stale (is_after, is_looked, is_now) is_told =
      subst (λ (one : Answer). CommitsToBlock now j copy one left) (sym is_told) (
        block,
        there,
        is_looked,
        is_now,
        (λ equal. stale.0 tt (sym is_looked ∙ equal ∙ is_now)),
        left-same is_after,
      )
  commits-left (BlockForeign degree column) told stale rest is_told = absurd is_told

-- what a worker held is committed

pub committed-row : (before middle after : CoreState) (worker : ℕ) (held : Holding) (answer : Answer) → Some held ≡ held_by before worker
    → middle ≡ with_held before worker None → CommitsToBlock middle held.block held.copy answer after → Commits before worker answer after
committed-row before middle after worker held answer holds is_middle commits =
    row answer (subst (λ (s : CoreState). CommitsToBlock s held.block held.copy answer after) is_middle commits)
  where
    row : (one : Answer) → CommitsToBlock (with_held before worker None) held.block held.copy one after → Commits before worker one after
    row (Stale looked now) (block, there, is_looked, is_now, other, is) =
        (held, block, sym holds, there, is_looked, is_now, other, is)
    row (Committed version) (block, there, version_is, more, is) = (held, block, sym holds, there, version_is, more, is)
    row NoBlock none = absurd none
    row Zero none = absurd none
    row (Looked version) none = absurd none
    row Idle none = absurd none
    row Forgot none = absurd none

-- where a worker holds nothing, nothing changes
pub nothing-given_up : (state : CoreState) (worker : ℕ) → None ≡ held_by state worker → with_held state worker None ≡ state
nothing-given_up state worker none =
    ap (state_of state.diagram state.blocks) (set-same state.workers (worker - 1) None (sym none))

pub ruleset steps = (looked-row, held-sight, committed-row, nothing-given_up)
