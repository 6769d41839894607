-- What is read is spelled: the state and the items tell which symbols led to them.
use Rattle.std.proofs.Common.{◌≡◌, ◌<◌, true, List, [], ◌∷◌, ◌++◌, length, Option, None, Some, IfSome, sym, ◌∙◌, ap, refl, arith, append_assoc, length-append, subst}
use Rattle.std.specs.List.{flat_map}
use Rattle.std.specs.Option.{option_and_then, option_map}
use Rattle.std.proofs.lemmas.Grind.{flat_map-append}
use Rattle.std.proofs.lemmas.List.{append-nil}
use Rattle.kh_lex.specs.declared.symbol.Symbol.{Symbol}
use Rattle.kh_lex.specs.declared.symbol.Symbol.TheVariants as symbols
use Rattle.kh_lex.specs.declared.symbol.Symbol.TheVariants.{Pd, X, Number, LeftBracket, RightBracket, Comma}
use Rattle.pd_code.specs.declared.machine.State.{State}
use Rattle.pd_code.specs.declared.machine.State.TheVariants.{Start, Named, Open, Listed, Separated, Done, Crossing, CrossingOpen, First, FirstComma, Second, SecondComma, Third, ThirdComma, Fourth, Loop, LoopOpen, LoopNumber}
use Rattle.pd_code.specs.declared.item.Item.{Item}
use Rattle.pd_code.specs.declared.item.Item.TheVariants as kinds
use Rattle.pd_code.specs.Grammar.{item_symbols, listed, next_symbols, pd_spelled}
use Rattle.kh_lex.specs.Machine.{run}
use Rattle.pd_code.specs.Machine.{PdProgress, added, pd_advanced, is_pd_done, is_pd_end, pd_progress, pd_step}

-- the symbols behind `PD[` and before one more item
abbrev pub leading : List Item → List Symbol
leading [] = []
leading (item ∷ items) = listed (item ∷ items) ++ Comma ∷ []

-- the symbols of the present item
abbrev pub present : State → List Symbol
present Crossing = X ∷ []
present CrossingOpen = X ∷ LeftBracket ∷ []
present (First i) = X ∷ LeftBracket ∷ Number i ∷ []
present (FirstComma i) = X ∷ LeftBracket ∷ Number i ∷ Comma ∷ []
present (Second i j) = X ∷ LeftBracket ∷ Number i ∷ Comma ∷ Number j ∷ []
present (SecondComma i j) = X ∷ LeftBracket ∷ Number i ∷ Comma ∷ Number j ∷ Comma ∷ []
present (Third i j k) = X ∷ LeftBracket ∷ Number i ∷ Comma ∷ Number j ∷ Comma ∷ Number k ∷ []
present (ThirdComma i j k) = X ∷ LeftBracket ∷ Number i ∷ Comma ∷ Number j ∷ Comma ∷ Number k ∷ Comma ∷ []
present (Fourth i j k l) = X ∷ LeftBracket ∷ Number i ∷ Comma ∷ Number j ∷ Comma ∷ Number k ∷ Comma ∷ Number l ∷ []
present Loop = symbols.Loop ∷ []
present LoopOpen = symbols.Loop ∷ LeftBracket ∷ []
present (LoopNumber n) = symbols.Loop ∷ LeftBracket ∷ Number n ∷ []
present _ = []

-- the symbols that lead to a state and items
abbrev pub so_far : State → List Item → List Symbol
so_far Start items = []
so_far Named items = Pd ∷ []
so_far Open items = Pd ∷ LeftBracket ∷ []
so_far Listed items = Pd ∷ LeftBracket ∷ listed items
so_far Separated items = Pd ∷ LeftBracket ∷ (listed items ++ Comma ∷ [])
so_far Done items = pd_spelled items
so_far state items = Pd ∷ LeftBracket ∷ (leading items ++ present state)

-- before the first item there is none, and behind an item there is one
abbrev pub IsProper : State → List Item → Type 0
IsProper Start items = items ≡ []
IsProper Named items = items ≡ []
IsProper Open items = items ≡ []
IsProper Listed items = 0 < length items
IsProper Separated items = 0 < length items
IsProper _ items = Unit {0}

-- one more item
listed-push : (items : List Item) (item : Item) → listed (items ++ item ∷ []) ≡ leading items ++ item_symbols item
listed-push [] item = append-nil (item_symbols item)
listed-push (first ∷ items) item =
    ap (λ rest. item_symbols first ++ rest) (flat_map-append next_symbols items (item ∷ []) ∙ ap (λ last. flat_map next_symbols items ++ Comma ∷ last) (append-nil (item_symbols item)))
    ∙ sym (append_assoc (item_symbols first) (flat_map next_symbols items) (Comma ∷ item_symbols item))
    ∙ sym (append_assoc (listed (first ∷ items)) (Comma ∷ []) (item_symbols item))

-- one more symbol
so_far-more : (before now : List Symbol) (symbol : Symbol) → ◌≡◌ {A = List Symbol} (Pd ∷ LeftBracket ∷ (before ++ (now ++ symbol ∷ []))) ((Pd ∷ LeftBracket ∷ (before ++ now)) ++ symbol ∷ [])
so_far-more before now symbol = ap (λ rest. Pd ∷ LeftBracket ∷ rest) (sym (append_assoc before now (symbol ∷ [])))

-- an item ends
so_far-item : (items : List Item) (item : Item) (back : List Symbol) → back ++ RightBracket ∷ [] ≡ item_symbols item
    → (0 < length (items ++ item ∷ [])) × ◌≡◌ {A = List Symbol} (Pd ∷ LeftBracket ∷ listed (items ++ item ∷ [])) ((Pd ∷ LeftBracket ∷ (leading items ++ back)) ++ RightBracket ∷ [])
so_far-item items item back whole = (
  omega (arith, length-append items (item ∷ [])),
  ap (λ rest. Pd ∷ LeftBracket ∷ rest) (listed-push items item ∙ ap (λ last. leading items ++ last) (sym whole)) ∙ so_far-more (leading items) back RightBracket,
)

-- a step keeps this
so_far-pd_step : (state : State) (symbol : Symbol) (items : List Item) → IsProper state items
    → IfSome (pd_step state symbol) (λ next. IsProper next (added state items) × (so_far next (added state items) ≡ so_far state items ++ symbol ∷ []))
so_far-pd_step Start Pd items proper = (proper, refl)
so_far-pd_step Named LeftBracket items proper = (proper, refl)
so_far-pd_step Open X [] proper = (tt, refl)
so_far-pd_step Open X (item ∷ items) proper = absurd (cc)
so_far-pd_step Open symbols.Loop [] proper = (tt, refl)
so_far-pd_step Open symbols.Loop (item ∷ items) proper = absurd (cc)
so_far-pd_step Open RightBracket [] proper = (tt, refl)
so_far-pd_step Open RightBracket (item ∷ items) proper = absurd (cc)
so_far-pd_step Listed Comma items proper = (proper, refl)
so_far-pd_step Listed RightBracket items proper = (tt, refl)
so_far-pd_step Separated X [] proper = absurd (omega arith)
so_far-pd_step Separated X (item ∷ items) proper = (tt, refl)
so_far-pd_step Separated symbols.Loop [] proper = absurd (omega arith)
so_far-pd_step Separated symbols.Loop (item ∷ items) proper = (tt, refl)
so_far-pd_step Crossing LeftBracket items proper = (tt, so_far-more (leading items) (present Crossing) LeftBracket)
so_far-pd_step CrossingOpen (Number i) items proper = (tt, so_far-more (leading items) (present CrossingOpen) (Number i))
so_far-pd_step (First i) Comma items proper = (tt, so_far-more (leading items) (present (First i)) Comma)
so_far-pd_step (FirstComma i) (Number j) items proper = (tt, so_far-more (leading items) (present (FirstComma i)) (Number j))
so_far-pd_step (Second i j) Comma items proper = (tt, so_far-more (leading items) (present (Second i j)) Comma)
so_far-pd_step (SecondComma i j) (Number k) items proper = (tt, so_far-more (leading items) (present (SecondComma i j)) (Number k))
so_far-pd_step (Third i j k) Comma items proper = (tt, so_far-more (leading items) (present (Third i j k)) Comma)
so_far-pd_step (ThirdComma i j k) (Number l) items proper = (tt, so_far-more (leading items) (present (ThirdComma i j k)) (Number l))
so_far-pd_step (Fourth i j k l) RightBracket items proper = so_far-item items (kinds.Crossing i j k l) (present (Fourth i j k l)) refl
so_far-pd_step Loop LeftBracket items proper = (tt, so_far-more (leading items) (present Loop) LeftBracket)
so_far-pd_step LoopOpen (Number n) items proper = (tt, so_far-more (leading items) (present LoopOpen) (Number n))
so_far-pd_step (LoopNumber n) RightBracket items proper = so_far-item items (kinds.Loop n) (present (LoopNumber n)) refl
so_far-pd_step _ _ items proper = tt

-- a run keeps this
so_far-run : (state : State) (items : List Item) (symbols : List Symbol) (end : PdProgress) → IsProper state items → run pd_advanced (pd_progress state items) symbols ≡ Some end
    → IsProper end.state end.items × (so_far end.state end.items ≡ so_far state items ++ symbols)
so_far-run state items [] end proper ran =
    let e : pd_progress state items ≡ end = cc in
    (subst (λ (p : PdProgress). IsProper p.state p.items) e proper, ap (λ (p : PdProgress). so_far p.state p.items) (sym e) ∙ sym (append-nil (so_far state items)))
so_far-run state items (symbol ∷ symbols) end proper ran =
    go (pd_step state symbol) (so_far-pd_step state symbol items proper) (λ next. so_far-run next (added state items) symbols end) ran
  where
    go : (next : Option State) → IfSome next (λ next. IsProper next (added state items) × (so_far next (added state items) ≡ so_far state items ++ symbol ∷ []))
        → ((next : State) → IsProper next (added state items) → run pd_advanced (pd_progress next (added state items)) symbols ≡ Some end
        → IsProper end.state end.items × (so_far end.state end.items ≡ so_far next (added state items) ++ symbols))
        → option_and_then (λ next. run pd_advanced next symbols) (option_map (λ next. pd_progress next (added state items)) next) ≡ Some end
        → IsProper end.state end.items × (so_far end.state end.items ≡ so_far state items ++ symbol ∷ symbols)
    go None after goes ran = absurd (cc)
    go (Some next) after goes ran =
        let rest = goes next after.0 ran in
        (rest.0, rest.1 ∙ ap (λ before. before ++ symbols) after.1 ∙ append_assoc (so_far state items) (symbol ∷ []) symbols)

-- what a run from the start has read
pub run-so_far : (symbols : List Symbol) (end : PdProgress) → run pd_advanced (pd_progress Start []) symbols ≡ Some end → symbols ≡ so_far end.state end.items
run-so_far symbols end ran = sym (so_far-run Start [] symbols end refl ran).1

-- at the end this is a spelling
so_far-done : (state : State) (items : List Item) → is_pd_done state ≡ true → so_far state items ≡ pd_spelled items
so_far-done Done items symbols_of-done = refl
so_far-done _ items symbols_of-done = absurd (cc)

-- what is read to the end is spelled
pub run-done : (symbols : List Symbol) (end : PdProgress) → run pd_advanced (pd_progress Start []) symbols ≡ Some end → is_pd_end end ≡ true → symbols ≡ pd_spelled end.items
run-done symbols end ran symbols_of-done = run-so_far symbols end ran ∙ so_far-done end.state end.items symbols_of-done
