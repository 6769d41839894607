-- The pivots of a block's history that lines have named, and the next of them.
use Rattle.std.proofs.Common.{◌≡◌, ◌≢◌, ℕ, zero, suc, ◌+◌, ◌<◌, ◌≤◌, ◌∙◌, List, [], ◌∷◌, ◌++◌, length, take, drop, get_or, IsTrue, Bool, true, false, ℤ, refl, sym, ap, ap₂, subst, arith}
use Rattle.std.specs.Prelude.{Some, nat_eq, slice_get}
use Rattle.std.proofs.lemmas.Bool.{ne_eqb}
use Rattle.std.proofs.lemmas.Option.{none-some, same_Some}
use Rattle.std.proofs.lemmas.List.{drop_more, length-take-le, take-append-drop, take_more}
use Rattle.std.specs.List.{Contains}
use Rattle.kh_types.specs.Acceptance.{accepted}
use Rattle.kh_types.specs.Code.{Code}
use Rattle.kh_types.specs.Complex.{Pivot, is_zero}
use Rattle.kh_types.specs.History.{IsLegal, block}
use Rattle.prime_field.specs.Residues.{IsField}
use Rattle.cube_signs.specs.Blocks.{block_degrees}
use Rattle.square_laws.proofs.BlockComplexes.{IsComplex-block}
use Rattle.sparse_block.proofs.HistoryLemmas.{legal-parts}
use Rattle.history_laws.proofs.HistoryEnds.{length-zero}
use Rattle.shared_block.specs.AllBlocks.{IsFinished}
use Rattle.shared_block.specs.BlockHistories.{BlockHistory, HasLegalHistory, block_with, complex_of}
use Rattle.shared_block.specs.Commits.{is_pivot, with_pivot}
use Rattle.shared_block.proofs.PivotTests.{passes-IsPivot}
use Rattle.cancel_log.specs.LoggedBlocks.{IsNamedSoFar, named_of}

-- the next pivot is one of the complex that those before it leave
pub next-legal : (p : ℕ) (held : BlockHistory) (named : ℕ) (pivot : Pivot) → HasLegalHistory p held → named < length held.history
    → pivot ≡ get_or held.history named pivot → is_pivot (complex_of p (named_of held named)) pivot ≡ true
next-legal p held named pivot legal below is =
    let start = block p held.diagram held.degree in
    let front = take named held.history in
    let later = drop (named + 1) held.history in
    let cut : held.history ≡ front ++ pivot ∷ later =
    sym (take-append-drop named held.history)
    ∙ ap (λ (xs : List Pivot). front ++ xs)
    (drop_more held.history named pivot below ∙ ap (λ (next : Pivot). next ∷ later) (sym is)) in
    passes-IsPivot (complex_of p (named_of held named)) pivot
    (legal-parts p start front (pivot ∷ later) (subst (IsLegal p start) cut legal)).1.0

-- named, it stands behind them
pub named-next : (held : BlockHistory) (named : ℕ) (pivot : Pivot) → named < length held.history
    → pivot ≡ get_or held.history named pivot → named_of held (named + 1) ≡ with_pivot (named_of held named) pivot
named-next held named pivot below is =
    ap (block_with held.diagram held.degree)
    (take_more held.history named pivot below ∙ ap (λ (next : Pivot). take named held.history ++ next ∷ []) (sym is))

-- the same of a pivot that was found there

found-there : (pivots : List Pivot) (named : ℕ) (pivot : Pivot) → slice_get pivots named ≡ Some pivot
    → (named < length pivots) × (pivot ≡ get_or pivots named pivot)
found-there [] named pivot found = absurd (none-some pivot found)
found-there (first ∷ pivots) zero pivot found = (omega arith, sym (same_Some first pivot found))
found-there (first ∷ pivots) (suc named) pivot found =
    let rest = found-there pivots named pivot found in (omega (arith, rest.0), rest.1)

pub found-legal : (p : ℕ) (held seen : BlockHistory) (named : ℕ) (pivot : Pivot) → HasLegalHistory p held → named_of held named ≡ seen
    → slice_get held.history named ≡ Some pivot → true ≡ is_pivot (complex_of p seen) pivot
found-legal p held seen named pivot legal same found =
    let there = found-there held.history named pivot found in
    sym (next-legal p held named pivot legal there.0 there.1) ∙ ap (λ (block : BlockHistory). is_pivot (complex_of p block) pivot) same

pub found-named : (held seen : BlockHistory) (named : ℕ) (pivot : Pivot) → named_of held named ≡ seen
    → slice_get held.history named ≡ Some pivot → named_of held (named + 1) ≡ with_pivot seen pivot
found-named held seen named pivot same found =
    let there = found-there held.history named pivot found in
    named-next held named pivot there.0 there.1 ∙ ap (λ (block : BlockHistory). with_pivot block pivot) same

-- a block that ends at zero is not zero before all are named: histories that end at zero have one length
pub named-open : (p : ℕ) (held : BlockHistory) (named : ℕ) → IsField p → IsTrue (accepted held.diagram) → HasLegalHistory p held
    → IsFinished p held → named < length held.history → IsFinished p (named_of held named) → ⊥
named-open p held named field is legal finished below done =
    let start = block p held.diagram held.degree in
    let front = take named held.history in
    let complex = IsComplex-block p held.diagram held.degree field.above_one is in
    let parts =
    legal-parts p start front (drop named held.history)
    (subst (IsLegal p start) (sym (take-append-drop named held.history)) legal) in
    let some = length-zero p start front field complex parts.0 done in
    let all = length-zero p start held.history field complex legal finished in
    omega (arith, below, some, all, length-take-le named held.history (omega (arith, below)))

not_true : (b : Bool) → (b ≡ true → ⊥) → b ≡ false
not_true true never = absurd (never refl)
not_true false never = refl

pub zero-unnamed : (p : ℕ) (code : Code) (held seen : BlockHistory) (named size : ℕ) → IsField p → IsTrue (accepted held.diagram)
    → HasLegalHistory p held → IsNamedSoFar p code held named → size ≡ length held.history → named ≢ size → named_of held named ≡ seen
    → nat_eq named size ≡ is_zero (complex_of p seen)
zero-unnamed p code held seen named size field is legal so_far is_size differ same =
    let below : named < length held.history = omega (arith, so_far.few, is_size, differ) in
    ne_eqb named size differ
    ∙ sym (not_true (is_zero (complex_of p seen)) (λ done.
    named-open p held named field is legal (so_far.ahead below) below (subst (IsFinished p) (sym same) done)))

-- the block made again, with one more of the pivots

pub made-none : (held made : BlockHistory) (code : Code) (j : ℤ) → held.diagram ≡ code → j ≡ held.degree → made ≡ block_with code j []
    → made ≡ named_of held 0
made-none held made code j diagram degree is = is ∙ ap₂ (λ (code : Code) (j : ℤ). block_with code j []) (sym diagram) degree

pub made-more : (p : ℕ) (held made next : BlockHistory) (k : ℕ) (pivot : Pivot) (taken : Bool) → HasLegalHistory p held
    → made ≡ named_of held k → k < length held.history → pivot ≡ get_or held.history k pivot
    → taken ≡ is_pivot (complex_of p made) pivot → (taken ≡ true → next ≡ with_pivot made pivot) → next ≡ named_of held (k + 1)
made-more p held made next k pivot taken legal is below at tests cancels =
    let passes =
    tests ∙ ap (λ (block : BlockHistory). is_pivot (complex_of p block) pivot) is ∙ next-legal p held k pivot legal below at in
    cancels passes ∙ ap (λ (block : BlockHistory). with_pivot block pivot) is ∙ sym (named-next held k pivot below at)

-- made again, and cancelled at a pivot or as it is, it is a block all of whose pivots are named
pub made-kept : (p : ℕ) (code : Code) (held made next : BlockHistory) (named count : ℕ) (pivot : Pivot) (taken : Bool)
    → IsNamedSoFar p code held named → made ≡ named_of held named → (taken ≡ true → next ≡ with_pivot made pivot)
    → (taken ≡ false → next ≡ made) → count ≡ length next.history → IsNamedSoFar p code next count
made-kept p code held made next named count pivot taken so_far is cancels stays all =
    let same = kept taken refl in
    let diagram : next.diagram ≡ held.diagram = same.0 ∙ ap (λ (block : BlockHistory). block.diagram) is in
    let degree : next.degree ≡ held.degree = same.1 ∙ ap (λ (block : BlockHistory). block.degree) is in
    record {
      diagram = diagram ∙ so_far.diagram;
      degree = subst (Contains (block_degrees code)) (sym degree) so_far.degree;
      few = omega (arith, all);
      ahead = λ below. absurd (omega (arith, all, below));
    }
  where
    kept : (b : Bool) → taken ≡ b → (next.diagram ≡ made.diagram) × (next.degree ≡ made.degree)
    kept true is_taken = (
      ap (λ (block : BlockHistory). block.diagram) (cancels is_taken),
      ap (λ (block : BlockHistory). block.degree) (cancels is_taken),
    )
    kept false is_taken = (
      ap (λ (block : BlockHistory). block.diagram) (stays is_taken),
      ap (λ (block : BlockHistory). block.degree) (stays is_taken),
    )

pub ruleset makes = (made-none, made-more)
