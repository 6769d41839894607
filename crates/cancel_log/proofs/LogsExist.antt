-- Each accepted diagram within the limits has a log over each field, and one that is short enough to be verified: as long as there is a
-- pivot in a block it is cancelled, and what the pivots leave is told.
use Rattle.std.proofs.Common.{◌≡◌, ◌≤◌, ℕ, ℤ, List, [], ◌∷◌, length, map, IsTrue, true, refl, ap}
use Rattle.std.specs.Prelude.{All}
use Rattle.std.specs.List.{AllByRecursion}
use Rattle.std.proofs.lemmas.List.Elements.{All-from_recursion}
use Rattle.kh_types.specs.Acceptance.{accepted}
use Rattle.kh_types.specs.Code.{Code}
use Rattle.kh_types.specs.Complex.{Pivot, is_zero}
use Rattle.kh_types.specs.History.{IsLegal, block, replay}
use Rattle.kh_types.specs.declared.limits.TheConstants.{CROSSINGS, LOOPS}
use Rattle.pd_code.proofs.AcceptedSlots.{HasFourSlots-accepted}
use Rattle.pd_code.proofs.PrintingLemmas.{IsPdReading-pd_text}
use Rattle.prime_field.specs.Residues.{IsField, IsSmallPrime}
use Rattle.prime_field.specs.SmallFields.{field-small_prime}
use Rattle.circle_smoothing.specs.GeneratorCounts.{generator_count}
use Rattle.circle_smoothing.specs.declared.limits.TheConstants.{GENERATORS}
use Rattle.square_laws.proofs.BlockComplexes.{IsComplex-block}
use Rattle.cube_signs.specs.Blocks.{block_degrees}
use Rattle.history_laws.proofs.HistoryEnds.{ending}
use Rattle.shared_block.specs.AllBlocks.{AreBlocksOf, IsFinished, degrees_of_blocks}
use Rattle.shared_block.specs.BlockHistories.{BlockHistory, HasLegalHistory, block_with}
use Rattle.cancel_log.specs.LogTexts.{log_text}
use Rattle.cancel_log.specs.Verdicts.{IsLog}
use Rattle.cancel_log.specs.declared.limits.TheConstants.{LOG_BYTES}
use Rattle.cancel_log.proofs.LogSizes.{few-of_blocks}
use Rattle.cancel_log.proofs.WrittenLogs.{log-of_blocks}

-- a legal history of the block at a quantum degree that ends at zero
ended : (p : ℕ) (code : Code) → IsField p → IsTrue (accepted code) → (j : ℤ)
    → (history : List Pivot) × IsLegal p (block p code j) history × (is_zero (replay p (block p code j) history) ≡ true)
ended p code field is j = ending p (block p code j) field (IsComplex-block p code j field.above_one is)

-- the blocks at some quantum degrees, each with such a history
abbrev ended_blocks : (p : ℕ) (code : Code) → IsField p → IsTrue (accepted code) → List ℤ → List BlockHistory
ended_blocks p code field is js = map (λ j. block_with code j (ended p code field is j).0) js

-- at these degrees
ended-degrees : (p : ℕ) (code : Code) (field : IsField p) (is : IsTrue (accepted code)) (js : List ℤ)
    → degrees_of_blocks (ended_blocks p code field is js) ≡ js
ended-degrees p code field is [] = refl
ended-degrees p code field is (j ∷ js) = ap (λ (others : List ℤ). j ∷ others) (ended-degrees p code field is js)

-- what holds of each holds of all
ended-all : (p : ℕ) (code : Code) (field : IsField p) (is : IsTrue (accepted code)) (P : BlockHistory → Type 0)
    → ((j : ℤ) → P (block_with code j (ended p code field is j).0)) → (js : List ℤ) → All P (ended_blocks p code field is js)
ended-all p code field is P each js = All-from_recursion P (ended_blocks p code field is js) (go js)
  where
    go : (js : List ℤ) → AllByRecursion P (ended_blocks p code field is js)
    go [] = tt
    go (j ∷ js) = (each j, go js)

-- and so there is a log
pub log-some : (p : ℕ) (code : Code) → IsSmallPrime p → IsTrue (accepted code) → All (λ slots. length slots ≡ 4) code.crossings
    → length code.crossings ≤ CROSSINGS → code.loops ≤ LOOPS → generator_count code ≤ GENERATORS
    → (text : List ℕ) × IsLog p code text × (length text ≤ LOG_BYTES)
log-some p code prime is four few loops size =
    let field = field-small_prime p prime in
    let js = block_degrees code in
    let blocks = ended_blocks p code field is js in
    let reads = IsPdReading-pd_text code (HasFourSlots-accepted code is few four) few loops in
    let are : AreBlocksOf code blocks = record {
      diagram = ended-all p code field is (λ held. held.diagram ≡ code) (λ j. refl) js;
      degrees = ended-degrees p code field is js;
    } in
    let legal = ended-all p code field is (HasLegalHistory p) (λ j. (ended p code field is j).1) js in
    let zero = ended-all p code field is (IsFinished p) (λ j. (ended p code field is j).2) js in (
      log_text p code blocks,
      log-of_blocks p code blocks (log_text p code blocks) prime field is few loops size reads are legal zero refl,
      few-of_blocks p code blocks (log_text p code blocks) prime field is few loops size are legal refl,
    )
