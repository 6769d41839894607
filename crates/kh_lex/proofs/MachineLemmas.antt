-- What a machine that reads a grammar shows: where it refuses a symbol, or ends too early, is the first fault. It leads texts of
-- the grammar, and only these, from the start to an end, and from each state some symbols lead to an end. So symbols that it
-- takes can go on to a text, and those before one that it refuses are the longest that can: no text begins with that one too.
-- Symbols that are taken but lead to no end are no text yet, and the fault is at their end. By induction on the symbols, they
-- lead to an end or to a first fault, which is computed. Then the same of the tokens of a text: they leave the grammar at the
-- place of the refused token, or at the text's end.
use Rattle.std.proofs.lemmas.Bool.Decides.{nat_tests}
use Rattle.std.proofs.Common.{◌≡◌, ℕ, suc, ◌+◌, ◌<◌, Bool, true, false, cond, List, [], ◌∷◌, ◌++◌, length, drop, get_or, take, Option, None, Some, Result, Ok, Err, refl, sym, ◌∙◌, ap, subst, arith, add-zero, append_assoc, length-append, take-append-drop}
use Rattle.std.specs.Option.{option_and_then, option_map_or}
use Rattle.std.specs.Result.{result_map_both}
use Rattle.std.proofs.lemmas.List.{append-nil, length-map, length-take-le, map-append, map_more, take_at}
use Rattle.std.proofs.lemmas.Option.{slice_get-get_or, slice_get_past}
use Rattle.std.proofs.Math.Seq.{take-length}
use Rattle.kh_lex.specs.declared.symbol.Symbol.{Symbol}
use Rattle.kh_lex.specs.declared.token.Token.{Token}
use Rattle.kh_lex.specs.Grammar.{IsFirstFault, IsViable, LeavesAt}
use Rattle.kh_lex.specs.Machine.{run}
use Rattle.kh_lex.specs.Symbols.{symbol_of, symbols_of}

-- a machine reads a grammar: what leads it from the start to an end is a text, each text does, and from each state some
-- symbols lead to an end
pub record ReadsGrammar {State : Type 0} (IsText : List Symbol → Type 0) (step : State → Symbol → Option State) (start : State) (is_end : State → Bool) : Type 0 where
  pub sound : (symbols : List Symbol) (end : State) → run step start symbols ≡ Some end → is_end end ≡ true → IsText symbols
  pub whole : (symbols : List Symbol) → IsText symbols → (end : State) × (run step start symbols ≡ Some end) × (is_end end ≡ true)
  pub finish : (state : State) → (more : List Symbol) × (end : State) × (run step state more ≡ Some end) × (is_end end ≡ true)

-- symbols and then more symbols
pub run-append : {State : Type 0} (step : State → Symbol → Option State) (state : State) (first more : List Symbol)
    → run step state (first ++ more) ≡ option_and_then (λ next. run step next more) (run step state first)
run-append step state [] more = refl
run-append {State = State} step state (symbol ∷ first) more = go (step state symbol) (λ next. run-append step next first more)
  where
    go : (next : Option State) → ((q : State) → run step q (first ++ more) ≡ option_and_then (λ next. run step next more) (run step q first))
        → option_and_then (λ next. run step next (first ++ more)) next
        ≡ option_and_then (λ next. run step next more) (option_and_then (λ next. run step next first) next)
    go next goes = grind (arith, nat_tests)

-- behind symbols that are taken
pub run-behind : {State : Type 0} (step : State → Symbol → Option State) (start state : State) (first more : List Symbol)
    → run step start first ≡ Some state → run step start (first ++ more) ≡ run step state more
run-behind step start state first more ran = run-append step start first more ∙ ap (option_and_then (λ next. run step next more)) ran

-- one more symbol is taken
run-push : {State : Type 0} (step : State → Symbol → Option State) (start state next : State) (first : List Symbol) (symbol : Symbol)
    → run step start first ≡ Some state → step state symbol ≡ Some next → run step start (first ++ symbol ∷ []) ≡ Some next
run-push step start state next first symbol ran steps = run-behind step start state first (symbol ∷ []) ran ∙ rw steps refl

-- what is taken is viable
viable-run : {State : Type 0} (IsText : List Symbol → Type 0) (step : State → Symbol → Option State) (start : State) (is_end : State → Bool)
    → ReadsGrammar IsText step start is_end → (first : List Symbol) (state : State) → run step start first ≡ Some state → IsViable IsText first
viable-run IsText step start is_end reads first state ran =
    let end = reads.finish state in
    record {
      more = end.0;
      text = reads.sound (first ++ end.0) end.1 (run-behind step start state first end.0 ran ∙ end.2) end.3;
    }

-- a symbol that is refused ends every text
not_viable-refused : {State : Type 0} (IsText : List Symbol → Type 0) (step : State → Symbol → Option State) (start : State) (is_end : State → Bool)
    → ReadsGrammar IsText step start is_end → (first : List Symbol) (symbol : Symbol) (state : State) → run step start first ≡ Some state → step state symbol ≡ None
    → ¬ IsViable IsText (first ++ symbol ∷ [])
not_viable-refused IsText step start is_end reads first symbol state ran refused viable =
    let whole = reads.whole ((first ++ symbol ∷ []) ++ viable.more) viable.text in
    let none : run step start ((first ++ symbol ∷ []) ++ viable.more) ≡ None
    = ap (run step start) (append_assoc first (symbol ∷ []) viable.more) ∙ run-behind step start state first (symbol ∷ viable.more) ran ∙ rw refused refl in
    cc (whole.1, none)

-- a refused symbol is the first fault
IsFirstFault-refused : {State : Type 0} (IsText : List Symbol → Type 0) (step : State → Symbol → Option State) (start : State) (is_end : State → Bool)
    → ReadsGrammar IsText step start is_end → (first more : List Symbol) (symbol : Symbol) (state : State) → run step start first ≡ Some state → step state symbol ≡ None
    → IsFirstFault IsText (first ++ symbol ∷ more) (length first)
IsFirstFault-refused IsText step start is_end reads first more symbol state ran refused =
    let size = length-append first (symbol ∷ more) in
    record {
      within = omega (arith, size);
      before = subst (IsViable IsText) (sym (take_at first (symbol ∷ more) (length first) refl)) (viable-run IsText step start is_end reads first state ran);
      here = λ less. λ viable. not_viable-refused IsText step start is_end reads first symbol state ran refused
          (subst (IsViable IsText) (ap (take (length first + 1)) (sym (append_assoc first (symbol ∷ []) more))
          ∙ take_at (first ++ symbol ∷ []) more (length first + 1) (length-append first (symbol ∷ []))) viable);
      end = λ same text. absurd (omega (arith, size));
    }

-- symbols that are taken and lead to no end have their first fault at their end
IsFirstFault-early : {State : Type 0} (IsText : List Symbol → Type 0) (step : State → Symbol → Option State) (start : State) (is_end : State → Bool)
    → ReadsGrammar IsText step start is_end → (symbols : List Symbol) (state : State) → run step start symbols ≡ Some state → is_end state ≡ false
    → IsFirstFault IsText symbols (length symbols)
IsFirstFault-early IsText step start is_end reads symbols state ran early = grind (arith, nat_tests, take-length, viable-run)

-- where symbols lead a machine from a state: to an end, or to a first fault, by how many symbols stand before that
abbrev pub outcome : {State : Type 0} → (State → Symbol → Option State) → (State → Bool) → State → List Symbol → Result State ℕ
outcome step is_end state [] = cond (is_end state) (Ok state) (Err 0)
outcome step is_end state (symbol ∷ symbols) =
    option_map_or (λ next. result_map_both (λ end. end) suc (outcome step is_end next symbols)) (step state symbol) (Err 0)

-- what an outcome says of all symbols, where some were taken before
abbrev pub IsOutcome : {State : Type 0} → (List Symbol → Type 0) → (State → Symbol → Option State) → State → (State → Bool) → List Symbol → ℕ → Result State ℕ → Type 0
IsOutcome IsText step start is_end all before (Ok end) = (run step start all ≡ Some end) × (is_end end ≡ true)
IsOutcome IsText step start is_end all before (Err at) = IsFirstFault IsText all (before + at)

-- one symbol more was taken before
IsOutcome-suc : {State : Type 0} (IsText : List Symbol → Type 0) (step : State → Symbol → Option State) (start : State) (is_end : State → Bool) (all : List Symbol) (before : ℕ) (r : Result State ℕ)
    → IsOutcome IsText step start is_end all (before + 1) r → IsOutcome IsText step start is_end all before (result_map_both (λ end. end) suc r)
IsOutcome-suc IsText step start is_end all before r is = grind (arith, nat_tests)

IsOutcome-outcome : {State : Type 0} (IsText : List Symbol → Type 0) (step : State → Symbol → Option State) (start : State) (is_end : State → Bool)
    → ReadsGrammar IsText step start is_end → (symbols first : List Symbol) (state : State) → run step start first ≡ Some state
    → IsOutcome IsText step start is_end (first ++ symbols) (length first) (outcome step is_end state symbols)
IsOutcome-outcome IsText step start is_end reads [] first state ran =
    subst (λ all. IsOutcome IsText step start is_end all (length first) (outcome step is_end state [])) (sym (append-nil first)) (go (is_end state) refl)
  where
    go : (ends : Bool) → is_end state ≡ ends → IsOutcome IsText step start is_end first (length first) (cond ends (Ok state) (Err 0))
    go true ends = (ran, ends)
    go false early = rw add-zero (IsFirstFault-early IsText step start is_end reads first state ran early)
IsOutcome-outcome {State = State} IsText step start is_end reads (symbol ∷ symbols) first state ran =
    go (step state symbol) refl (λ next. IsOutcome-outcome IsText step start is_end reads symbols (first ++ symbol ∷ []) next)
  where
    go : (next : Option State) → step state symbol ≡ next
        → ((q : State) → run step start (first ++ symbol ∷ []) ≡ Some q
        → IsOutcome IsText step start is_end ((first ++ symbol ∷ []) ++ symbols) (length (first ++ symbol ∷ [])) (outcome step is_end q symbols))
        → IsOutcome IsText step start is_end (first ++ symbol ∷ symbols) (length first)
        (option_map_or (λ next. result_map_both (λ end. end) suc (outcome step is_end next symbols)) next (Err 0))
    go None refused rest = rw add-zero (IsFirstFault-refused IsText step start is_end reads first symbols symbol state ran refused)
    go (Some next) steps rest =
        IsOutcome-suc IsText step start is_end (first ++ symbol ∷ symbols) (length first) (outcome step is_end next symbols)
        (subst (λ all. IsOutcome IsText step start is_end all (length first + 1) (outcome step is_end next symbols)) (append_assoc first (symbol ∷ []) symbols)
        (subst (λ n. IsOutcome IsText step start is_end ((first ++ symbol ∷ []) ++ symbols) n (outcome step is_end next symbols)) (length-append first (symbol ∷ []))
        (rest next (run-push step start state next first symbol ran steps))))

-- all symbols lead to an end, or have a first fault
pub outcome_from_start : {State : Type 0} (IsText : List Symbol → Type 0) (step : State → Symbol → Option State) (start : State) (is_end : State → Bool)
    → ReadsGrammar IsText step start is_end → (symbols : List Symbol) → IsOutcome IsText step start is_end symbols 0 (outcome step is_end start symbols)
outcome_from_start IsText step start is_end reads symbols = IsOutcome-outcome IsText step start is_end reads symbols [] start refl

-- the tokens up to one and that one
symbols_of-more : (text : List ℕ) (tokens : List Token) (i : ℕ) (d : Token) → i < length tokens
    → symbols_of text (take (i + 1) tokens) ≡ symbols_of text (take i tokens) ++ symbol_of text (get_or tokens i d) ∷ []
symbols_of-more text tokens i d less = map_more (symbol_of text) tokens i d less

-- the machine takes the symbol of one more token
pub run-more : {State : Type 0} (step : State → Symbol → Option State) (start state next : State) (text : List ℕ) (tokens : List Token) (i : ℕ) (d : Token) → i < length tokens
    → run step start (symbols_of text (take i tokens)) ≡ Some state → step state (symbol_of text (get_or tokens i d)) ≡ Some next
    → run step start (symbols_of text (take (i + 1) tokens)) ≡ Some next
run-more step start state next text tokens i d less ran steps =
    ap (run step start) (symbols_of-more text tokens i d less) ∙ run-push step start state next (symbols_of text (take i tokens)) (symbol_of text (get_or tokens i d)) ran steps

-- the machine refuses the symbol of a token: the tokens leave the grammar at its place
pub LeavesAt-refused : {State : Type 0} (IsText : List Symbol → Type 0) (step : State → Symbol → Option State) (start : State) (is_end : State → Bool)
    → ReadsGrammar IsText step start is_end → (state : State) (text : List ℕ) (tokens : List Token) (i : ℕ) (d : Token) → i < length tokens
    → run step start (symbols_of text (take i tokens)) ≡ Some state → step state (symbol_of text (get_or tokens i d)) ≡ None
    → LeavesAt IsText text tokens (get_or tokens i d).place
LeavesAt-refused IsText step start is_end reads state text tokens i d less ran refused = record {
  at = i;
  fault = subst (λ symbols. IsFirstFault IsText symbols i) (sym parts) (subst (IsFirstFault IsText (first ++ symbol_of text (get_or tokens i d) ∷ more)) size
      (IsFirstFault-refused IsText step start is_end reads first more (symbol_of text (get_or tokens i d)) state ran refused));
  named = rw (slice_get-get_or tokens i d less) refl;
}
  where
    first : List Symbol
    first = symbols_of text (take i tokens)

    more : List Symbol
    more = symbols_of text (drop (i + 1) tokens)

    size : length first ≡ i
    size = length-map (take i tokens) (symbol_of text) ∙ length-take-le i tokens (omega arith)

    parts : symbols_of text tokens ≡ first ++ symbol_of text (get_or tokens i d) ∷ more
    parts = ap (symbols_of text) (sym (take-append-drop (i + 1) tokens))
        ∙ map-append (symbol_of text) (take (i + 1) tokens) (drop (i + 1) tokens)
        ∙ ap (λ symbols. symbols ++ more) (symbols_of-more text tokens i d less)
        ∙ append_assoc first (symbol_of text (get_or tokens i d) ∷ []) more

-- the machine comes to no end: the tokens leave the grammar at the end of the text
pub LeavesAt-early : {State : Type 0} (IsText : List Symbol → Type 0) (step : State → Symbol → Option State) (start : State) (is_end : State → Bool)
    → ReadsGrammar IsText step start is_end → (state : State) (text : List ℕ) (tokens : List Token)
    → run step start (symbols_of text tokens) ≡ Some state → is_end state ≡ false → LeavesAt IsText text tokens (length text)
LeavesAt-early IsText step start is_end reads state text tokens ran early = record {
  at = length tokens;
  fault = subst (IsFirstFault IsText (symbols_of text tokens)) (length-map tokens (symbol_of text))
      (IsFirstFault-early IsText step start is_end reads (symbols_of text tokens) state ran early);
  named = rw (slice_get_past tokens (length tokens) (omega arith)) refl;
}
