-- The machine reads the grammar: what it reads to its end is a text, each text it reads so, and from each state it can come
-- to its end.
use Rattle.std.proofs.Common.{◌≡◌, ◌≢◌, ℕ, ◌+◌, ◌<◌, false, List, [], ◌∷◌, length, get_or, take, None, Some, pos, ap, subst, refl, ◌∙◌}
use Rattle.std.proofs.Math.Seq.{take-length}
use Rattle.kh_lex.specs.declared.symbol.Symbol.{Symbol}
use Rattle.kh_lex.specs.declared.symbol.Symbol.TheVariants as symbols
use Rattle.kh_lex.specs.declared.symbol.Symbol.TheVariants.{Pd, Number, LeftBracket, RightBracket, Comma}
use Rattle.kh_lex.specs.declared.token.Token.{Token}
use Rattle.kh_lex.specs.Grammar.{LeavesAt}
use Rattle.kh_lex.specs.Machine.{run}
use Rattle.kh_lex.specs.Symbols.{symbol_of, symbols_of}
use Rattle.kh_lex.proofs.MachineLemmas.{LeavesAt-early, LeavesAt-refused, ReadsGrammar, run-more}
use Rattle.pd_code.specs.declared.machine.State.{State}
use Rattle.pd_code.specs.declared.machine.State.TheVariants.{Start, Named, Open, Listed, Separated, Done, Crossing, CrossingOpen, First, FirstComma, Second, SecondComma, Third, ThirdComma, Fourth, Loop, LoopOpen, LoopNumber}
use Rattle.pd_code.specs.declared.item.Item.{Item}
use Rattle.pd_code.specs.Grammar.{IsPdText, pd_spelled}
use Rattle.pd_code.specs.Machine.{added, pd_advanced, is_pd_done, is_pd_end, pd_progress, pd_step}
use Rattle.pd_code.proofs.Spellings.{run-pd_spelled}
use Rattle.pd_code.proofs.SoFar.{run-done}

-- symbols that lead from a state to the end
completion : State → List Symbol
completion Start = Pd ∷ LeftBracket ∷ RightBracket ∷ []
completion Named = LeftBracket ∷ RightBracket ∷ []
completion Open = RightBracket ∷ []
completion Listed = RightBracket ∷ []
completion Separated = symbols.Loop ∷ LeftBracket ∷ Number (pos 0) ∷ RightBracket ∷ RightBracket ∷ []
completion Done = []
completion Crossing = LeftBracket ∷ Number (pos 0) ∷ Comma ∷ Number (pos 0) ∷ Comma ∷ Number (pos 0) ∷ Comma ∷ Number (pos 0) ∷ RightBracket ∷ RightBracket ∷ []
completion CrossingOpen = Number (pos 0) ∷ Comma ∷ Number (pos 0) ∷ Comma ∷ Number (pos 0) ∷ Comma ∷ Number (pos 0) ∷ RightBracket ∷ RightBracket ∷ []
completion (First i) = Comma ∷ Number (pos 0) ∷ Comma ∷ Number (pos 0) ∷ Comma ∷ Number (pos 0) ∷ RightBracket ∷ RightBracket ∷ []
completion (FirstComma i) = Number (pos 0) ∷ Comma ∷ Number (pos 0) ∷ Comma ∷ Number (pos 0) ∷ RightBracket ∷ RightBracket ∷ []
completion (Second i j) = Comma ∷ Number (pos 0) ∷ Comma ∷ Number (pos 0) ∷ RightBracket ∷ RightBracket ∷ []
completion (SecondComma i j) = Number (pos 0) ∷ Comma ∷ Number (pos 0) ∷ RightBracket ∷ RightBracket ∷ []
completion (Third i j k) = Comma ∷ Number (pos 0) ∷ RightBracket ∷ RightBracket ∷ []
completion (ThirdComma i j k) = Number (pos 0) ∷ RightBracket ∷ RightBracket ∷ []
completion (Fourth i j k l) = RightBracket ∷ RightBracket ∷ []
completion Loop = LeftBracket ∷ Number (pos 0) ∷ RightBracket ∷ RightBracket ∷ []
completion LoopOpen = Number (pos 0) ∷ RightBracket ∷ RightBracket ∷ []
completion (LoopNumber n) = RightBracket ∷ RightBracket ∷ []

-- they do
run-completion : (state : State) (items : List Item) → (all : List Item) × (run pd_advanced (pd_progress state items) (completion state) ≡ Some (pd_progress Done all))
unfolding completion
run-completion Start items = (_, refl)
run-completion Named items = (_, refl)
run-completion Open items = (_, refl)
run-completion Listed items = (_, refl)
run-completion Separated items = (_, refl)
run-completion Done items = (_, refl)
run-completion Crossing items = (_, refl)
run-completion CrossingOpen items = (_, refl)
run-completion (First i) items = (_, refl)
run-completion (FirstComma i) items = (_, refl)
run-completion (Second i j) items = (_, refl)
run-completion (SecondComma i j) items = (_, refl)
run-completion (Third i j k) items = (_, refl)
run-completion (ThirdComma i j k) items = (_, refl)
run-completion (Fourth i j k l) items = (_, refl)
run-completion Loop items = (_, refl)
run-completion LoopOpen items = (_, refl)
run-completion (LoopNumber n) items = (_, refl)

-- the machine reads the grammar
pub reads_grammar : ReadsGrammar IsPdText pd_advanced (pd_progress Start []) is_pd_end
reads_grammar = record {
  sound = λ symbols end ran symbols_of-done. (end.items, run-done symbols end ran symbols_of-done);
  whole = λ symbols text. (pd_progress Done text.0, ap (run pd_advanced (pd_progress Start [])) text.1 ∙ run-pd_spelled text.0, refl);
  finish = λ progress. let end = run-completion progress.state progress.items in (completion progress.state, pd_progress Done end.0, end.1, refl);
}

-- the tokens up to one lead the machine to a state and items
abbrev pub LeadsTo : List ℕ → List Token → State → List Item → Type 0
LeadsTo text tokens state items = run pd_advanced (pd_progress Start []) (symbols_of text tokens) ≡ Some (pd_progress state items)

-- the machine takes the symbol of one more token
pub LeadsTo-more : (state next : State) (items : List Item) (text : List ℕ) (tokens : List Token) (i : ℕ) (d : Token) (symbol : Symbol) → i < length tokens
    → LeadsTo text (take i tokens) state items → symbol ≡ symbol_of text (get_or tokens i d) → pd_step state symbol ≡ Some next
    → LeadsTo text (take (i + 1) tokens) next (added state items)
LeadsTo-more state next items text tokens i d symbol less ran means steps =
    run-more pd_advanced (pd_progress Start []) (pd_progress state items) (pd_progress next (added state items)) text tokens i d less ran (rw (← means, steps) refl)

-- or refuses it, and the tokens leave the grammar there
pub LeavesAt-refusal : (state : State) (items : List Item) (text : List ℕ) (tokens : List Token) (i : ℕ) (d : Token) (symbol : Symbol) → i < length tokens
    → LeadsTo text (take i tokens) state items → symbol ≡ symbol_of text (get_or tokens i d) → pd_step state symbol ≡ None
    → LeavesAt IsPdText text tokens (get_or tokens i d).place
LeavesAt-refusal state items text tokens i d symbol less ran means stops =
    LeavesAt-refused IsPdText pd_advanced (pd_progress Start []) is_pd_end reads_grammar (pd_progress state items) text tokens i d less ran (rw (← means, stops) refl)

-- all tokens are taken
LeadsTo-all : (state : State) (items : List Item) (text : List ℕ) (tokens : List Token) (i : ℕ) → i ≡ length tokens
    → LeadsTo text (take i tokens) state items → LeadsTo text tokens state items
LeadsTo-all state items text tokens i all ran = subst (λ t. LeadsTo text t state items) (ap (λ n. take n tokens) all ∙ take-length tokens) ran

-- and the machine is not at its end: the tokens leave the grammar at the end of the text
pub LeavesAt-end : (state : State) (items : List Item) (text : List ℕ) (tokens : List Token) (i : ℕ) → i ≡ length tokens
    → LeadsTo text (take i tokens) state items → state ≢ Done → LeavesAt IsPdText text tokens (length text)
LeavesAt-end state items text tokens i all ran going =
    LeavesAt-early IsPdText pd_advanced (pd_progress Start []) is_pd_end reads_grammar (pd_progress state items) text tokens
    (LeadsTo-all state items text tokens i all ran) (undone state going)
  where
    undone : (state : State) → state ≢ Done → is_pd_done state ≡ false
    undone Done going = absurd (going refl)
    undone _ going = refl

-- or it is, and the tokens spell the items
pub symbols_of-done : (items : List Item) (text : List ℕ) (tokens : List Token) (i : ℕ) → i ≡ length tokens
    → LeadsTo text (take i tokens) Done items → symbols_of text tokens ≡ pd_spelled items
symbols_of-done items text tokens i all ran = run-done (symbols_of text tokens) (pd_progress Done items) (LeadsTo-all Done items text tokens i all ran) refl
