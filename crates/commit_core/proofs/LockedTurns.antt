-- The turns of workers at blocks with histories are those of the core, whatever else the state has.
use Rattle.std.proofs.Common.{◌≡◌, ◌≢◌, ℕ, ◌+◌, ℤ, length, refl, true, None, Some, IsTrue}
use Rattle.kh_types.specs.Acceptance.{accepted}
use Rattle.kh_types.specs.Complex.{is_zero}
use Rattle.prime_field.specs.Residues.{IsField}
use Rattle.history_laws.proofs.HistoryEnds.{length-zero}
use Rattle.square_laws.proofs.BlockComplexes.{IsComplex-block}
use Rattle.shared_block.specs.BlockHistories.{BlockCopy, BlockHistory, Fits, HasLegalHistory, complex_of, opening_of}
use Rattle.commit_core.specs.Rows.{ComesTo}
use Rattle.commit_core.specs.States.{CoreState, block_at, held_by, holding_of, with_commit, with_held}
use Rattle.commit_core.specs.declared.event.Event.TheVariants.{Look, Commit}
use Rattle.commit_core.specs.declared.answer.Answer.TheVariants.{Looked, Zero, Committed, Stale}
use Rattle.commit_core.proofs.RowsExist.{turns-left}

pub look-locked : (p worker hint : ℕ) (state : CoreState) (j : ℤ) (held : BlockHistory) (copy : BlockCopy) → IsField p
    → IsTrue (accepted held.diagram) → block_at state j ≡ Some held → Fits p held copy
    → ComesTo p state (Look worker j hint) (Looked (length held.history)) (with_held state worker (Some (holding_of j copy)))
look-locked p worker hint state j held copy field is there fits =
    (held, there, turns-left p held copy.parts.pivot field is fits.legal fits.copy_is.pivot, refl, (copy, fits.copy_is, refl))

pub zero-locked : (p worker hint : ℕ) (state : CoreState) (j : ℤ) (held : BlockHistory) → IsField p → IsTrue (accepted held.diagram)
    → block_at state j ≡ Some held → HasLegalHistory p held → is_zero (complex_of p held) ≡ true
    → ComesTo p state (Look worker j hint) Zero (with_held state worker None)
zero-locked p worker hint state j held field is there legal zeros = (
  held,
  there,
  length-zero p (opening_of p held) held.history field (IsComplex-block p held.diagram held.degree field.above_one is) legal zeros,
  refl,
)

pub commit-locked : (p worker : ℕ) (state : CoreState) (j : ℤ) (held : BlockHistory) (copy : BlockCopy) → block_at state j ≡ Some held
    → held_by state worker ≡ Some (holding_of j copy) → copy.version ≡ length held.history
    → ComesTo p state (Commit worker) (Committed (length held.history + 1)) (with_held (with_commit state j copy.parts.pivot) worker None)
commit-locked p worker state j held copy there holds same = (holding_of j copy, held, holds, there, same, refl, refl)

pub stale-locked : (p worker : ℕ) (state : CoreState) (j : ℤ) (held : BlockHistory) (copy : BlockCopy) → block_at state j ≡ Some held
    → held_by state worker ≡ Some (holding_of j copy) → copy.version ≢ length held.history
    → ComesTo p state (Commit worker) (Stale copy.version (length held.history)) (with_held state worker None)
stale-locked p worker state j held copy there holds other = (holding_of j copy, held, holds, there, refl, refl, other, refl)
