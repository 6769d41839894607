-- The numbers of blocks with legal histories have few digits.
use Rattle.std.proofs.Common.{◌≡◌, ℕ, suc, Bool, false, cond, ◌<◌, ◌≤◌, ◌∙◌, List, [], ◌∷◌, length, ℤ, pos, ◌+ℤ◌, IsTrue, true, sym, ap, subst, arith}
use Rattle.std.specs.List.{AllByRecursion, Contains, filter}
use Rattle.std.specs.Ordering.{int_eq}
use Rattle.std.proofs.lemmas.Bool.Decides.{Decides-int_eq}
use Rattle.std.proofs.lemmas.Int.{ints}
use Rattle.std.proofs.lemmas.List.Elements.{All-from_recursion, filter_passes}
use Rattle.std.proofs.lemmas.List.Folds.{Any-from_list_any}
use Rattle.kh_types.specs.Acceptance.{accepted}
use Rattle.kh_types.specs.Code.{Code}
use Rattle.kh_types.specs.Complex.{Complex, IsComplex, Pivot, cancel, degree_of}
use Rattle.kh_types.specs.Generators.{generators, generators_at, quantum_degree}
use Rattle.kh_types.specs.History.{IsLegal, block}
use Rattle.kh_types.specs.Table.{IsWithin, from_minus}
use Rattle.kh_types.specs.declared.limits.TheConstants.{CROSSINGS, EXPONENT}
use Rattle.kh_types.proofs.AcceptedLemmas.{IsAccepted-is}
use Rattle.kh_types.proofs.QuantumDegrees.{generators_at-within, quantum_degree-exponent}
use Rattle.prime_field.specs.Residues.{IsField}
use Rattle.circle_smoothing.specs.GeneratorCounts.{generator_count}
use Rattle.circle_smoothing.specs.declared.limits.TheConstants.{GENERATORS}
use Rattle.sparse_block.proofs.ComplexMatrices.{entry-stands}
use Rattle.sparse_block.proofs.HistoryLemmas.{complex-replay, places-replay}
use Rattle.square_laws.proofs.BlockComplexes.{IsComplex-block, places-block}
use Rattle.cube_signs.specs.Blocks.{block_degrees, has_block}
use Rattle.shared_block.specs.BlockHistories.{BlockHistory, HasLegalHistory}
use Rattle.table_text.proofs.LineTexts.{IsWithin-bounds}
use Rattle.cancel_log.specs.LogBlocks.{IsShortBlock}
use Rattle.cancel_log.specs.LogLines.{IsShortDegree, IsShortPivot}
use Rattle.cube_signs.proofs.GeneratorPlaces.{length-generators_at}

-- degrees

pub short-within : (n : ℕ) (i : ℤ) → IsWithin n i → n < 1000 → IsShortDegree i
short-within n i within few = let bounds = IsWithin-bounds n i within in omega (arith, ints, bounds.0, bounds.1, few)

-- each quantum degree of a block is that of a generator
short-quantum : (code : Code) (j : ℤ) → IsTrue (accepted code) → length code.crossings ≤ CROSSINGS → Contains (block_degrees code) j
    → IsShortDegree j
unfolding block_degrees
short-quantum code j is few has =
    let passes : has_block code j ≡ true =
    ap (has_block code) (sym has.2) ∙ filter_passes (has_block code) (from_minus EXPONENT) has.0 j has.1 in
    let found = Any-from_list_any (λ generator. int_eq (quantum_degree code generator) j) (generators code) passes in
    let same : quantum_degree code found.1 ≡ j = (Decides-int_eq (quantum_degree code found.1) j).0 found.4 in
    short-within EXPONENT j
    (subst (IsWithin EXPONENT) same (quantum_degree-exponent code found.1 ((IsAccepted-is code).0 is) few)) (omega arith)

-- pivots

filter_step : {X : Type 0} (b : Bool) (x : X) (ys : List X) (n : ℕ) → length ys ≤ n → length (cond b (x ∷ ys) ys) ≤ suc n
filter_step true x ys n few = omega (arith, few)
filter_step false x ys n few = omega (arith, few)

pub filter-le : {X : Type 0} (p : X → Bool) (xs : List X) → length (filter p xs) ≤ length xs
filter-le p [] = omega arith
filter-le p (x ∷ xs) = filter_step (p x) x (filter p xs) (length xs) (filter-le p xs)

-- the pivots of a legal history from a complex with the places of a block
short-pivots : (p : ℕ) (code : Code) (j : ℤ) (complex : Complex) (history : List Pivot) → IsField p → IsTrue (accepted code)
    → length code.crossings ≤ CROSSINGS → generator_count code ≤ GENERATORS → IsComplex p complex
    → ((i : ℤ) → length (degree_of complex i).alive ≡ length (generators_at code i j)) → IsLegal p complex history
    → AllByRecursion IsShortPivot history
short-pivots p code j complex [] field is few size whole places legal = tt
short-pivots p code j complex (pivot ∷ later) field is few size whole places legal =
    let stands = entry-stands p complex pivot.degree pivot.row pivot.column whole legal.0 in
    let column = places pivot.degree in
    let row = places (pivot.degree +ℤ pos 1) in
    let within = generators_at-within code pivot.degree j ((IsAccepted-is code).0 is) few (omega (arith, column, stands.column_place)) in
    let next = cancel p complex pivot in (
      record {
        degree = short-within (length code.crossings) pivot.degree within.0 (omega (arith, few));
        column = omega (arith, column, stands.column_place, length-generators_at code pivot.degree j size);
        row = omega (arith, row, stands.row_place, length-generators_at code (pivot.degree +ℤ pos 1) j size);
      },
      short-pivots p code j next later field is few size (complex-replay p complex (pivot ∷ []) field whole (legal.0, tt))
          (λ i. places-replay p complex (pivot ∷ []) i ∙ places i) legal.1,
    )

pub short-block : (p : ℕ) (code : Code) (held : BlockHistory) → IsField p → IsTrue (accepted code)
    → length code.crossings ≤ CROSSINGS → generator_count code ≤ GENERATORS → held.diagram ≡ code
    → Contains (block_degrees code) held.degree → HasLegalHistory p held → IsShortBlock held
short-block p code held field is few size same has legal =
    let own : IsLegal p (block p code held.degree) held.history =
    subst (λ (c : Code). IsLegal p (block p c held.degree) held.history) same legal in
    record {
      degree = short-quantum code held.degree is few has;
      history = All-from_recursion IsShortPivot held.history
          (short-pivots p code held.degree (block p code held.degree) held.history field is few size
          (IsComplex-block p code held.degree field.above_one is) (places-block p code held.degree) own);
    }
