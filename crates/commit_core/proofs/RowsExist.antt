-- Each event can be carried out in each state that a run reaches, so all events have a run.
use Rattle.std.proofs.Common.{◌≡◌, ◌≢◌, ℕ, ◌+◌, List, [], ◌∷◌, ◌++◌, ℤ, length, refl, sym, subst, arith, inl, inr, Option, None, Some, IsTrue, length-append}
use Rattle.std.proofs.lemmas.Bool.Decides.{eqb_tells}
use Rattle.kh_types.specs.Acceptance.{accepted}
use Rattle.kh_types.specs.Code.{Code}
use Rattle.kh_types.specs.Complex.{IsPivot, Pivot}
use Rattle.prime_field.specs.Residues.{IsField}
use Rattle.cancel_step.specs.Copies.{copied}
use Rattle.history_laws.proofs.HistoryEnds.{length-longest, length-zero}
use Rattle.sparse_block.proofs.HistoryLemmas.{legal-push}
use Rattle.sparse_block.proofs.FindPivot.{find_pivot}
use Rattle.square_laws.proofs.BlockComplexes.{IsComplex-block}
use Rattle.shared_block.specs.BlockHistories.{BlockCopy, BlockHistory, HasLegalHistory, complex_of, copy_with, opening_of}
use Rattle.commit_core.specs.States.{Holding, CoreState, block_at, held_by, holding_of, opening_state, with_commit, with_held}
use Rattle.commit_core.specs.Rows.{Commits, Forgets, ComesTo, IsCoreRun, LooksAt, turns_of}
use Rattle.commit_core.specs.declared.event.Event.{Event}
use Rattle.commit_core.specs.declared.event.Event.TheVariants.{Look, Commit, Forget}
use Rattle.commit_core.specs.declared.answer.Answer.{Answer}
use Rattle.commit_core.specs.declared.answer.Answer.TheVariants.{Looked, Zero, Committed, Stale, Idle, Forgot, NoBlock}
use Rattle.commit_core.proofs.BlockChanges.{block_at-place}
use Rattle.commit_core.proofs.Sound.{held_by-sound, sound-opening}
use Rattle.commit_core.proofs.SoundRows.{IsSoundOf, sound-row}

-- a block that has a pivot left has had fewer turns than it takes
pub turns-left : (p : ℕ) (block : BlockHistory) (pivot : Pivot) → IsField p → IsTrue (accepted block.diagram) → HasLegalHistory p block
    → IsPivot (complex_of p block) pivot → length block.history ≢ turns_of p block
turns-left p block pivot field is legal is_pivot same =
    let cube = opening_of p block in
    let longest =
    length-longest p cube (block.history ++ pivot ∷ []) field (IsComplex-block p block.diagram block.degree field.above_one is)
    (legal-push p cube block.history pivot legal is_pivot) in
    omega (arith, longest, length-append block.history (pivot ∷ []), same)

-- the copy of a block as it stands for a pivot
abbrev pub copy_now : ℕ → BlockHistory → Pivot → BlockCopy
copy_now p block pivot = copy_with (length block.history) (copied (complex_of p block) pivot)

module _ (p : ℕ) (code : Code) (field : IsField p) (is : IsTrue (accepted code)) where
  block-sound : (state : CoreState) (j : ℤ) (block : BlockHistory) → IsSoundOf p code state → block_at state j ≡ Some block
      → HasLegalHistory p block × IsTrue (accepted block.diagram)
  block-sound state j block (sound, of_code) there =
      let at = block_at-place state j block there in
      let diagram : block.diagram ≡ state.diagram =
      subst (λ (held : BlockHistory). held.diagram ≡ state.diagram) (at.2 block) (sound.blocks.diagram at.0 block at.1) in (
        subst (HasLegalHistory p) (at.2 block) (sound.legal at.0 block at.1),
        subst (λ (c : Code). IsTrue (accepted c)) (sym diagram) (subst (λ (c : Code). IsTrue (accepted c)) (sym of_code) is),
      )

  look-exists : (before : CoreState) (worker : ℕ) (j : ℤ) (seen : Option BlockHistory) → IsSoundOf p code before → block_at before j ≡ seen
      → (answer : Answer) × (after : CoreState) × LooksAt p before worker j answer after
  look-exists before worker j None sound there = (NoBlock, with_held before worker None, (there, refl))
  look-exists before worker j (Some block) sound there =
      let known = block-sound before j block sound there in
      elim (find_pivot (complex_of p block)) [
        | inl zeros ↦ (
          Zero,
          with_held before worker None,
          (
            block,
            there,
            length-zero p (opening_of p block) block.history field
                (IsComplex-block p block.diagram block.degree field.above_one known.1) known.0 zeros,
            refl,
          ),
        )
        | inr found ↦ (
          Looked (length block.history),
          with_held before worker (Some (holding_of j (copy_now p block found.0))),
          (
            block,
            there,
            turns-left p block found.0 field known.1 known.0 found.1,
            refl,
            (copy_now p block found.0, record { version = refl; pivot = found.1; parts = refl }, refl),
          ),
        )
      ]

  commit-exists : (before : CoreState) (worker : ℕ) (held : Option Holding) → IsSoundOf p code before → held_by before worker ≡ held
      → (answer : Answer) × (after : CoreState) × Commits before worker answer after
  commit-exists before worker None sound holds = (Idle, before, (holds, refl))
  commit-exists before worker (Some held) sound holds =
      let known = held_by-sound p before worker held sound.0 holds in
      let now = length known.block.history in
      elim (eqb_tells held.copy.version now) [
        | inl same ↦ (
          Committed (now + 1),
          with_held (with_commit before held.block held.copy.parts.pivot) worker None,
          (held, known.block, holds, known.there, same.1, refl, refl),
        )
        | inr other ↦ (
          Stale held.copy.version now,
          with_held before worker None,
          (held, known.block, holds, known.there, refl, refl, other.1, refl),
        )
      ]

  forget-exists : (before : CoreState) (worker : ℕ) (held : Option Holding) → held_by before worker ≡ held
      → (answer : Answer) × (after : CoreState) × Forgets before worker answer after
  forget-exists before worker None holds = (Idle, before, (holds, refl))
  forget-exists before worker (Some held) holds = (Forgot, with_held before worker None, ((held, holds), refl))

  row-exists : (before : CoreState) (event : Event) → IsSoundOf p code before
      → (answer : Answer) × (after : CoreState) × ComesTo p before event answer after
  row-exists before (Look worker j hint) sound = look-exists before worker j (block_at before j) sound refl
  row-exists before (Commit worker) sound = commit-exists before worker (held_by before worker) sound refl
  row-exists before (Forget worker) sound = forget-exists before worker (held_by before worker) refl

  run-exists : (before : CoreState) (events : List Event) → IsSoundOf p code before
      → (made : List Answer) × (after : CoreState) × IsCoreRun p before events made after
  run-exists before [] sound = ([], before, refl)
  run-exists before (event ∷ events) sound =
      let row = row-exists before event sound in
      let rest = run-exists row.1 events (sound-row p code before event row.0 row.1 sound row.2) in
      (row.0 ∷ rest.0, rest.1, (row.1, row.2, rest.2))

  pub run-opening : (workers : ℕ) (events : List Event)
      → (made : List Answer) × (after : CoreState) × IsCoreRun p (opening_state code workers) events made after
  run-opening workers events = run-exists (opening_state code workers) events (sound-opening p code workers, refl)
