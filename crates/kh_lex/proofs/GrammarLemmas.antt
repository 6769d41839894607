-- A text leaves a grammar in one place at most, and in none where it is in the grammar.
use Rattle.std.proofs.lemmas.Bool.Decides.{nat_tests}
use Rattle.std.proofs.Common.{◌≡◌, ℕ, ◌+◌, ◌<◌, ◌≤◌, List, [], ◌++◌, length, take, drop, sym, ◌∙◌, ap, subst, arith, append_assoc, take-append-drop}
use Rattle.std.proofs.lemmas.Bool.{cases_order}
use Rattle.std.proofs.lemmas.List.{append-nil, length-take-le, take-append-le}
use Rattle.kh_lex.specs.declared.symbol.Symbol.{Symbol}
use Rattle.kh_lex.specs.declared.stop.LexStop.{LexStop}
use Rattle.kh_lex.specs.Cuts.{Stops}
use Rattle.kh_lex.specs.Grammar.{IsFirstFault, IsViable, LeavesAt, LeavesGrammar, fault_place}
use Rattle.kh_lex.specs.Symbols.{Means, symbols_of}
use Rattle.kh_lex.proofs.CutReads.{Cuts-one, tokens_of-stop, Stops-uncut}

-- a text is viable
IsViable-text : (IsText : List Symbol → Type 0) (symbols : List Symbol) → IsText symbols → IsViable IsText symbols
IsViable-text IsText symbols text = record { more = []; text = subst IsText (sym (append-nil symbols)) text }

-- and so is what begins viable symbols
IsViable-take : (IsText : List Symbol → Type 0) (symbols : List Symbol) (at : ℕ) → IsViable IsText symbols → IsViable IsText (take at symbols)
IsViable-take IsText symbols at viable = record {
  more = drop at symbols ++ viable.more;
  text = subst IsText (ap (λ s. s ++ viable.more) (sym (take-append-drop at symbols)) ∙ append_assoc (take at symbols) (drop at symbols) viable.more) viable.text;
}

-- a beginning of a beginning
take-take : (symbols : List Symbol) (at more : ℕ) → at ≤ more → more ≤ length symbols → take at (take more symbols) ≡ take at symbols
take-take symbols at more less within =
    sym (take-append-le at (take more symbols) (drop more symbols) (omega (arith, length-take-le more symbols within)))
    ∙ ap (take at) (take-append-drop more symbols)

-- a text has no fault
pub IsFirstFault-text : (IsText : List Symbol → Type 0) (symbols : List Symbol) (at : ℕ) → IsFirstFault IsText symbols at → ¬ IsText symbols
IsFirstFault-text IsText symbols at fault = grind (arith, nat_tests, cases_order, IsViable-take, IsViable-text)

-- a first fault is no later than another
IsFirstFault-later : (IsText : List Symbol → Type 0) (symbols : List Symbol) (at other : ℕ) → IsFirstFault IsText symbols at → IsFirstFault IsText symbols other → ¬ (at < other)
IsFirstFault-later IsText symbols at other fault later less =
    let within = later.within in
    fault.here (omega arith) (subst (IsViable IsText) (take-take symbols (at + 1) other (omega arith) within) (IsViable-take IsText (take other symbols) (at + 1) later.before))

-- there is one first fault at most
pub IsFirstFault-one : (IsText : List Symbol → Type 0) (symbols : List Symbol) (at other : ℕ) → IsFirstFault IsText symbols at → IsFirstFault IsText symbols other → at ≡ other
IsFirstFault-one IsText symbols at other fault again = grind (arith, nat_tests, cases_order, IsFirstFault-later)

-- a text has one first fault of its bytes at most
pub Stops-one : (text : List ℕ) (a b : LexStop) → Stops 0 text a → Stops 0 text b → a ≡ b
Stops-one text a b first second = grind (arith, nat_tests, tokens_of-stop text a, tokens_of-stop text b)

-- it means one list of symbols at most, and none where its bytes have a fault
pub Means-one : (text : List ℕ) (a b : List Symbol) → Means text a → Means text b → a ≡ b
Means-one text a b first second = grind (arith, nat_tests, Cuts-one)

pub Means-stops : (text : List ℕ) (stop : LexStop) (symbols : List Symbol) → Stops 0 text stop → ¬ Means text symbols
Means-stops text stop symbols stops means = Stops-uncut text stop means.tokens stops means.cut

-- it leaves a grammar in one place at most, and in none where its bytes have a fault or its meaning is in the grammar
pub LeavesGrammar-one : (IsText : List Symbol → Type 0) (text : List ℕ) (a b : ℕ) → LeavesGrammar IsText text a → LeavesGrammar IsText text b → a ≡ b
LeavesGrammar-one IsText text a b first second =
    let same = Cuts-one text first.tokens second.tokens first.cut second.cut in
    let leaves : LeavesAt IsText text second.tokens a = subst (λ tokens. LeavesAt IsText text tokens a) same first.leaves in
    leaves.named
    ∙ ap (fault_place text second.tokens) (IsFirstFault-one IsText (symbols_of text second.tokens) leaves.at second.leaves.at leaves.fault second.leaves.fault)
    ∙ sym second.leaves.named

pub LeavesGrammar-stops : (IsText : List Symbol → Type 0) (text : List ℕ) (stop : LexStop) (place : ℕ) → Stops 0 text stop → ¬ LeavesGrammar IsText text place
LeavesGrammar-stops IsText text stop place stops leaves = Stops-uncut text stop leaves.tokens stops leaves.cut

pub LeavesGrammar-means : (IsText : List Symbol → Type 0) (text : List ℕ) (place : ℕ) (symbols : List Symbol) → LeavesGrammar IsText text place → Means text symbols → ¬ IsText symbols
LeavesGrammar-means IsText text place symbols leaves means is =
    let meaning : symbols_of text leaves.tokens ≡ symbols
    = ap (symbols_of text) (Cuts-one text leaves.tokens means.tokens leaves.cut means.cut) ∙ means.meaning in
    IsFirstFault-text IsText (symbols_of text leaves.tokens) leaves.leaves.at leaves.leaves.fault (subst IsText (sym meaning) is)
