-- What the type of a core keeps, in terms of homology.
use Rattle.std.proofs.Common.{◌≡◌, ◌↔◌, ℕ, ◌∙◌, List, ℤ, length, get_or, sym, ap, subst, IsTrue, true}
use Rattle.std.specs.List.{All}
use Rattle.kh_types.specs.Acceptance.{accepted}
use Rattle.kh_types.specs.Code.{Code}
use Rattle.kh_types.specs.Complex.{Pivot, dimension_of, is_zero}
use Rattle.kh_types.specs.History.{IsLegal, block, replay}
use Rattle.kh_types.specs.Table.{dimension}
use Rattle.prime_field.specs.Residues.{IsField}
use Rattle.history_laws.proofs.HistoryEnds.{length-zero, zero-length}
use Rattle.history_laws.proofs.HistoryRanks.{dimension_of-replay}
use Rattle.square_laws.proofs.BlockComplexes.{IsComplex-block}
use Rattle.shared_block.specs.BlockHistories.{BlockHistory, HasLegalHistory, complex_of}
use Rattle.shared_block.proofs.BlockDimensions.{dimension_of-block}
use Rattle.commit_core.specs.Answering.{turns}
use Rattle.commit_core.specs.States.{IsSound, CoreState}
use Rattle.commit_core.proofs.SoundRows.{IsSoundOf}

-- a history ends at zero exactly where it has as many pivots as the block takes turns
pub zero-turns : (p : ℕ) (code : Code) (j : ℤ) (history : List Pivot) → IsField p → IsTrue (accepted code)
    → IsLegal p (block p code j) history → (is_zero (replay p (block p code j) history) ≡ true) ↔ (length history ≡ turns p code j)
zero-turns p code j history field is legal =
    let complex = IsComplex-block p code j field.above_one is in
    (length-zero p (block p code j) history field complex legal, zero-length p (block p code j) history field complex legal)

-- legal histories keep the homology dimensions
pub dimension_of-legal : (p : ℕ) (held : BlockHistory) (i : ℤ) → IsField p → IsTrue (accepted held.diagram) → HasLegalHistory p held
    → dimension_of p (complex_of p held) i ≡ dimension p held.diagram i held.degree
dimension_of-legal p held i field is legal =
    dimension_of-replay p (block p held.diagram held.degree) held.history i field
    (IsComplex-block p held.diagram held.degree field.above_one is) legal
    ∙ dimension_of-block p held.diagram held.degree i

pub dimensions-sound : (p : ℕ) (state : CoreState) → IsField p → IsTrue (accepted state.diagram) → IsSound p state
    → All (λ held. (i : ℤ) → dimension_of p (complex_of p held) i ≡ dimension p state.diagram i held.degree) state.blocks
dimensions-sound p state field is sound k d below i =
    let held = get_or state.blocks k d in
    let same : held.diagram ≡ state.diagram = sound.blocks.diagram k d below in
    dimension_of-legal p held i field (subst (λ (code : Code). IsTrue (accepted code)) (sym same) is) (sound.legal k d below)
    ∙ ap (λ (code : Code). dimension p code i held.degree) same

pub dimensions-reached : (p : ℕ) (code : Code) (state : CoreState) → IsField p → IsTrue (accepted code) → IsSoundOf p code state
    → All (λ held. (i : ℤ) → dimension_of p (complex_of p held) i ≡ dimension p code i held.degree) state.blocks
dimensions-reached p code state field is (sound, of_code) =
    subst
    (λ (c : Code).
    All (λ (held : BlockHistory). (i : ℤ) → dimension_of p (complex_of p held) i ≡ dimension p c i held.degree) state.blocks)
    of_code
    (dimensions-sound p state field (subst (λ (c : Code). IsTrue (accepted c)) (sym of_code) is) sound)

-- the same of a core in memory
pub dimensions-kept : (p : ℕ) (inside now : CoreState) → IsField p → inside ≡ now → IsTrue (accepted inside.diagram) → IsSound p inside
    → All (λ held. (i : ℤ) → dimension_of p (complex_of p held) i ≡ dimension p now.diagram i held.degree) now.blocks
dimensions-kept p inside now field same is sound =
    dimensions-sound p now field (subst (λ (s : CoreState). IsTrue (accepted s.diagram)) same is) (subst (IsSound p) same sound)
