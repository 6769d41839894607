-- What is read is spelled: the state, the body and the numbers tell which symbols led to them. For each state there are the
-- symbols so far, and what is proper of the body and the numbers there: no number where a list begins, one at least behind a
-- number, a group behind one that has ended. Then one more number, and one more group, at the end of what is spelled. A step of
-- the machine keeps what is proper, and adds its symbol to those so far: this is gone through state by state. By induction on the
-- symbols a run keeps it too. At an end the symbols so far are the spelling of what is listed, so symbols that lead from the
-- start to an end are that spelling.
use Rattle.std.proofs.Common.{◌≡◌, ◌<◌, true, List, [], ◌∷◌, ◌++◌, length, Option, None, Some, IfSome, sym, ◌∙◌, ap, refl, arith, append_assoc, length-append, subst, ℤ}
use Rattle.std.specs.List.{flat_map}
use Rattle.std.specs.Option.{option_and_then, option_map}
use Rattle.std.proofs.lemmas.Grind.{flat_map-append}
use Rattle.std.proofs.lemmas.List.{append-nil}
use Rattle.kh_lex.specs.declared.symbol.Symbol.{Symbol}
use Rattle.kh_lex.specs.declared.symbol.Symbol.TheVariants.{GaussCode, Signs, Number, LeftBracket, RightBracket, LeftBrace, RightBrace, Comma}
use Rattle.kh_lex.specs.Machine.{run}
use Rattle.gauss_code.specs.declared.machine.State.{State}
use Rattle.gauss_code.specs.declared.machine.State.TheVariants.{Start, Named, Open, BareNumber, BareComma, GroupOpen, GroupNumber, GroupComma, GroupEnd, NextGroup, BodyEnd, SignsNamed, SignsOpen, SignNumber, SignComma, Done}
use Rattle.gauss_code.specs.Listings.{Body}
use Rattle.gauss_code.specs.Grammar.{body_symbols, group_symbols, next_group, next_number, numbers_symbols, gauss_spelled}
use Rattle.gauss_code.specs.Machine.{GaussProgress, gauss_advanced, body_after, entered, is_gauss_done, is_gauss_end, listing_read, numbers_after, gauss_progress, start, gauss_step, with_group}

-- the symbols before one more number
abbrev pub leading : List ℤ → List Symbol
leading [] = []
leading (number ∷ numbers) = numbers_symbols (number ∷ numbers) ++ Comma ∷ []

-- the symbols before one more group
abbrev pub front : Body → List Symbol
front (Body.Bare labels) = []
front (Body.Groups group groups) = body_symbols (Body.Groups group groups) ++ Comma ∷ []

-- the symbols that lead to a state, a body and numbers
abbrev pub so_far : State → Body → List ℤ → List Symbol
so_far Start body numbers = []
so_far Named body numbers = GaussCode ∷ []
so_far Open body numbers = GaussCode ∷ LeftBracket ∷ []
so_far BareNumber body numbers = GaussCode ∷ LeftBracket ∷ numbers_symbols numbers
so_far BareComma body numbers = GaussCode ∷ LeftBracket ∷ leading numbers
so_far GroupOpen body numbers = GaussCode ∷ LeftBracket ∷ (front body ++ LeftBrace ∷ [])
so_far GroupNumber body numbers = GaussCode ∷ LeftBracket ∷ (front body ++ LeftBrace ∷ numbers_symbols numbers)
so_far GroupComma body numbers = GaussCode ∷ LeftBracket ∷ (front body ++ LeftBrace ∷ leading numbers)
so_far GroupEnd body numbers = GaussCode ∷ LeftBracket ∷ body_symbols body
so_far NextGroup body numbers = GaussCode ∷ LeftBracket ∷ front body
so_far BodyEnd body numbers = GaussCode ∷ LeftBracket ∷ (body_symbols body ++ RightBracket ∷ [])
so_far SignsNamed body numbers = GaussCode ∷ LeftBracket ∷ (body_symbols body ++ RightBracket ∷ Signs ∷ [])
so_far SignsOpen body numbers = GaussCode ∷ LeftBracket ∷ (body_symbols body ++ RightBracket ∷ Signs ∷ LeftBracket ∷ [])
so_far SignNumber body numbers = GaussCode ∷ LeftBracket ∷ (body_symbols body ++ RightBracket ∷ Signs ∷ LeftBracket ∷ numbers_symbols numbers)
so_far SignComma body numbers = GaussCode ∷ LeftBracket ∷ (body_symbols body ++ RightBracket ∷ Signs ∷ LeftBracket ∷ leading numbers)
so_far Done body numbers = GaussCode ∷ LeftBracket ∷ (body_symbols body ++ RightBracket ∷ Signs ∷ LeftBracket ∷ (numbers_symbols numbers ++ RightBracket ∷ []))

-- a body has no group
abbrev pub IsBare : Body → Type 0
IsBare (Body.Bare labels) = Unit {0}
IsBare (Body.Groups group groups) = ⊥

-- a body has a group
abbrev pub IsGrouped : Body → Type 0
IsGrouped (Body.Bare labels) = ⊥
IsGrouped (Body.Groups group groups) = Unit {0}

-- nothing is read of a body before its first symbol; there is a number behind a number, and none where a list begins; a group, where
-- one has ended
abbrev pub IsProper : State → Body → List ℤ → Type 0
IsProper Start body numbers = (body ≡ Body.Bare []) × (numbers ≡ [])
IsProper Named body numbers = (body ≡ Body.Bare []) × (numbers ≡ [])
IsProper Open body numbers = (body ≡ Body.Bare []) × (numbers ≡ [])
IsProper BareNumber body numbers = IsBare body × (0 < length numbers)
IsProper BareComma body numbers = IsBare body × (0 < length numbers)
IsProper GroupNumber body numbers = 0 < length numbers
IsProper GroupComma body numbers = 0 < length numbers
IsProper GroupEnd body numbers = IsGrouped body × (numbers ≡ [])
IsProper NextGroup body numbers = IsGrouped body × (numbers ≡ [])
IsProper SignNumber body numbers = 0 < length numbers
IsProper SignComma body numbers = 0 < length numbers
IsProper Done body numbers = Unit {0}
IsProper _ body numbers = numbers ≡ []

-- one more number
numbers-push : (numbers : List ℤ) (n : ℤ) → numbers_symbols (numbers ++ n ∷ []) ≡ leading numbers ++ Number n ∷ []
numbers-push [] n = refl
numbers-push (first ∷ numbers) n =
    ap (λ rest. Number first ∷ rest) (flat_map-append next_number numbers (n ∷ []) ∙ sym (append_assoc (flat_map next_number numbers) (Comma ∷ []) (Number n ∷ [])))

-- of which there is one then
some-push : (numbers : List ℤ) (n : ℤ) → 0 < length (numbers ++ n ∷ [])
some-push numbers n = omega (arith, length-append numbers (n ∷ []))

-- one more group
body-push : (body : Body) (group : List ℤ) → body_symbols (with_group group body) ≡ front body ++ group_symbols group
body-push (Body.Bare labels) group = append-nil (group_symbols group)
body-push (Body.Groups first groups) group =
    ap (λ rest. group_symbols first ++ rest) (flat_map-append next_group groups (group ∷ []) ∙ ap (λ last. flat_map next_group groups ++ Comma ∷ last) (append-nil (group_symbols group)))
    ∙ sym (append_assoc (group_symbols first) (flat_map next_group groups) (Comma ∷ group_symbols group))
    ∙ sym (append_assoc (body_symbols (Body.Groups first groups)) (Comma ∷ []) (group_symbols group))

grouped-push : (body : Body) (group : List ℤ) → IsGrouped (with_group group body)
grouped-push (Body.Bare labels) group = tt
grouped-push (Body.Groups first groups) group = tt

-- one more symbol behind `GaussCode[`
more : (before now : List Symbol) (symbol : Symbol) → ◌≡◌ {A = List Symbol} (GaussCode ∷ LeftBracket ∷ (before ++ (now ++ symbol ∷ []))) ((GaussCode ∷ LeftBracket ∷ (before ++ now)) ++ symbol ∷ [])
more before now symbol = ap (λ rest. GaussCode ∷ LeftBracket ∷ rest) (sym (append_assoc before now (symbol ∷ [])))

-- one more number behind that
more_number : (before now : List Symbol) (numbers : List ℤ) (n : ℤ)
    → ◌≡◌ {A = List Symbol} (GaussCode ∷ LeftBracket ∷ (before ++ (now ++ numbers_symbols (numbers ++ n ∷ [])))) ((GaussCode ∷ LeftBracket ∷ (before ++ (now ++ leading numbers))) ++ Number n ∷ [])
more_number before now numbers n =
    ap (λ rest. GaussCode ∷ LeftBracket ∷ (before ++ (now ++ rest))) (numbers-push numbers n)
    ∙ ap (λ rest. GaussCode ∷ LeftBracket ∷ (before ++ rest)) (sym (append_assoc now (leading numbers) (Number n ∷ [])))
    ∙ more before (now ++ leading numbers) (Number n)

-- a group ends
group_ends : (body : Body) (numbers : List ℤ)
    → ◌≡◌ {A = List Symbol} (GaussCode ∷ LeftBracket ∷ body_symbols (with_group numbers body)) ((GaussCode ∷ LeftBracket ∷ (front body ++ LeftBrace ∷ numbers_symbols numbers)) ++ RightBrace ∷ [])
group_ends body numbers = ap (λ rest. GaussCode ∷ LeftBracket ∷ rest) (body-push body numbers) ∙ more (front body) (LeftBrace ∷ numbers_symbols numbers) RightBrace

-- what a step keeps
abbrev pub Keeps : State → Body → List ℤ → Symbol → State → Type 0
Keeps state body numbers symbol next =
    IsProper next (body_after next numbers body) (numbers_after next symbol numbers)
    × (so_far next (body_after next numbers body) (numbers_after next symbol numbers) ≡ so_far state body numbers ++ symbol ∷ [])

-- a step keeps this
so_far-gauss_step : (state : State) (symbol : Symbol) (body : Body) (numbers : List ℤ) → IsProper state body numbers
    → IfSome (gauss_step state symbol) (Keeps state body numbers symbol)
so_far-gauss_step Start GaussCode body numbers proper = (proper, refl)
so_far-gauss_step Named LeftBracket body numbers proper = (proper, refl)
so_far-gauss_step Open (Number n) (Body.Bare labels) [] proper = ((tt, omega arith), refl)
so_far-gauss_step Open (Number n) (Body.Bare labels) (first ∷ numbers) proper = absurd (cc)
so_far-gauss_step Open (Number n) (Body.Groups group groups) numbers proper = absurd (cc)
so_far-gauss_step Open LeftBrace (Body.Bare labels) numbers proper = (proper.1, refl)
so_far-gauss_step Open LeftBrace (Body.Groups group groups) numbers proper = absurd (cc)
so_far-gauss_step Open RightBracket (Body.Bare labels) [] proper = (refl, refl)
so_far-gauss_step Open RightBracket (Body.Bare labels) (first ∷ numbers) proper = absurd (cc)
so_far-gauss_step Open RightBracket (Body.Groups group groups) numbers proper = absurd (cc)
so_far-gauss_step BareNumber Comma body [] proper = absurd (omega arith)
so_far-gauss_step BareNumber Comma body (first ∷ numbers) proper = (proper, refl)
so_far-gauss_step BareNumber RightBracket (Body.Bare labels) numbers proper = (refl, refl)
so_far-gauss_step BareNumber RightBracket (Body.Groups group groups) numbers proper = absurd proper.0
so_far-gauss_step BareComma (Number n) body numbers proper = ((proper.0, some-push numbers n), more_number [] [] numbers n)
so_far-gauss_step GroupOpen (Number n) body [] proper = (omega arith, more (front body) (LeftBrace ∷ []) (Number n))
so_far-gauss_step GroupOpen (Number n) body (first ∷ numbers) proper = absurd (cc)
so_far-gauss_step GroupOpen RightBrace body [] proper = ((grouped-push body [], refl), group_ends body [])
so_far-gauss_step GroupOpen RightBrace body (first ∷ numbers) proper = absurd (cc)
so_far-gauss_step GroupNumber Comma body [] proper = absurd (omega arith)
so_far-gauss_step GroupNumber Comma body (first ∷ numbers) proper = (proper, more (front body) (LeftBrace ∷ numbers_symbols (first ∷ numbers)) Comma)
so_far-gauss_step GroupNumber RightBrace body numbers proper = ((grouped-push body numbers, refl), group_ends body numbers)
so_far-gauss_step GroupComma (Number n) body numbers proper = (some-push numbers n, more_number (front body) (LeftBrace ∷ []) numbers n)
so_far-gauss_step GroupEnd Comma (Body.Bare labels) numbers proper = absurd proper.0
so_far-gauss_step GroupEnd Comma (Body.Groups group groups) numbers proper = (proper, refl)
so_far-gauss_step GroupEnd RightBracket (Body.Bare labels) numbers proper = absurd proper.0
so_far-gauss_step GroupEnd RightBracket (Body.Groups group groups) numbers proper = (refl, refl)
so_far-gauss_step NextGroup LeftBrace body numbers proper = (proper.1, refl)
so_far-gauss_step BodyEnd Signs body numbers proper = (proper, more (body_symbols body) (RightBracket ∷ []) Signs)
so_far-gauss_step SignsNamed LeftBracket body numbers proper = (proper, more (body_symbols body) (RightBracket ∷ Signs ∷ []) LeftBracket)
so_far-gauss_step SignsOpen (Number n) body [] proper = (omega arith, more (body_symbols body) (RightBracket ∷ Signs ∷ LeftBracket ∷ []) (Number n))
so_far-gauss_step SignsOpen (Number n) body (first ∷ numbers) proper = absurd (cc)
so_far-gauss_step SignsOpen RightBracket body [] proper = (tt, more (body_symbols body) (RightBracket ∷ Signs ∷ LeftBracket ∷ []) RightBracket)
so_far-gauss_step SignsOpen RightBracket body (first ∷ numbers) proper = absurd (cc)
so_far-gauss_step SignNumber Comma body [] proper = absurd (omega arith)
so_far-gauss_step SignNumber Comma body (first ∷ numbers) proper = (proper, more (body_symbols body) (RightBracket ∷ Signs ∷ LeftBracket ∷ numbers_symbols (first ∷ numbers)) Comma)
so_far-gauss_step SignNumber RightBracket body numbers proper = (tt, more (body_symbols body) (RightBracket ∷ Signs ∷ LeftBracket ∷ numbers_symbols numbers) RightBracket)
so_far-gauss_step SignComma (Number n) body numbers proper = (some-push numbers n, more_number (body_symbols body) (RightBracket ∷ Signs ∷ LeftBracket ∷ []) numbers n)
so_far-gauss_step _ _ body numbers proper = tt

-- a run keeps this
so_far-run : (state : State) (body : Body) (numbers : List ℤ) (symbols : List Symbol) (end : GaussProgress) → IsProper state body numbers
    → run gauss_advanced (gauss_progress state body numbers) symbols ≡ Some end
    → IsProper end.state end.body end.numbers × (so_far end.state end.body end.numbers ≡ so_far state body numbers ++ symbols)
so_far-run state body numbers [] end proper ran =
    let e : gauss_progress state body numbers ≡ end = cc in
    (subst (λ (p : GaussProgress). IsProper p.state p.body p.numbers) e proper, ap (λ (p : GaussProgress). so_far p.state p.body p.numbers) (sym e) ∙ sym (append-nil (so_far state body numbers)))
so_far-run state body numbers (symbol ∷ symbols) end proper ran =
    go (gauss_step state symbol) (so_far-gauss_step state symbol body numbers proper)
    (λ next. so_far-run next (body_after next numbers body) (numbers_after next symbol numbers) symbols end) ran
  where
    go : (next : Option State) → IfSome next (Keeps state body numbers symbol)
        → ((next : State) → IsProper next (body_after next numbers body) (numbers_after next symbol numbers)
        → run gauss_advanced (entered next symbol (gauss_progress state body numbers)) symbols ≡ Some end
        → IsProper end.state end.body end.numbers
        × (so_far end.state end.body end.numbers ≡ so_far next (body_after next numbers body) (numbers_after next symbol numbers) ++ symbols))
        → option_and_then (λ next. run gauss_advanced next symbols) (option_map (λ next. entered next symbol (gauss_progress state body numbers)) next) ≡ Some end
        → IsProper end.state end.body end.numbers × (so_far end.state end.body end.numbers ≡ so_far state body numbers ++ symbol ∷ symbols)
    go None after goes ran = absurd (cc)
    go (Some next) after goes ran =
        let rest = goes next after.0 ran in
        (rest.0, rest.1 ∙ ap (λ before. before ++ symbols) after.1 ∙ append_assoc (so_far state body numbers) (symbol ∷ []) symbols)

-- what a run from the start has read
run-so_far : (symbols : List Symbol) (end : GaussProgress) → run gauss_advanced start symbols ≡ Some end → symbols ≡ so_far end.state end.body end.numbers
run-so_far symbols end ran = sym (so_far-run Start (Body.Bare []) [] symbols end (refl, refl) ran).1

-- at an end this is a spelling
so_far-done : (state : State) (body : Body) (numbers : List ℤ) → is_gauss_done state ≡ true → so_far state body numbers ≡ gauss_spelled (listing_read (gauss_progress state body numbers))
so_far-done BodyEnd body numbers done = refl
so_far-done Done body numbers done = refl
so_far-done _ body numbers done = absurd (cc)

-- what is read to an end is spelled
pub run-done : (symbols : List Symbol) (end : GaussProgress) → run gauss_advanced start symbols ≡ Some end → is_gauss_end end ≡ true → symbols ≡ gauss_spelled (listing_read end)
run-done symbols end ran done = run-so_far symbols end ran ∙ so_far-done end.state end.body end.numbers done
