-- The machine reads the grammar: what it reads to an end is a text, each text it reads so, and from each state it can come
-- to an end.
use Rattle.std.proofs.Common.{◌≡◌, ◌≢◌, ℕ, ◌+◌, ◌<◌, false, true, List, [], ◌∷◌, length, get_or, take, None, Some, pos, ap, sym, subst, refl, ◌∙◌, ℤ}
use Rattle.std.proofs.Math.Seq.{take-length}
use Rattle.kh_lex.specs.declared.symbol.Symbol.{Symbol}
use Rattle.kh_lex.specs.declared.symbol.Symbol.TheVariants.{GaussCode, Number, LeftBracket, RightBracket, LeftBrace, RightBrace}
use Rattle.kh_lex.specs.declared.token.Token.{Token}
use Rattle.kh_lex.specs.Grammar.{LeavesAt}
use Rattle.kh_lex.specs.Machine.{run}
use Rattle.kh_lex.specs.Symbols.{symbol_of, symbols_of}
use Rattle.kh_lex.proofs.MachineLemmas.{LeavesAt-early, LeavesAt-refused, ReadsGrammar, run-more}
use Rattle.gauss_code.specs.declared.machine.State.{State}
use Rattle.gauss_code.specs.declared.machine.State.TheVariants.{Start, Named, Open, BareNumber, BareComma, GroupOpen, GroupNumber, GroupComma, GroupEnd, NextGroup, BodyEnd, SignsNamed, SignsOpen, SignNumber, SignComma, Done}
use Rattle.gauss_code.specs.Listings.{Body}
use Rattle.gauss_code.specs.Grammar.{IsGaussText, gauss_spelled}
use Rattle.gauss_code.specs.Machine.{GaussProgress, gauss_advanced, entered, is_gauss_done, is_gauss_end, listing_read, gauss_progress, start, gauss_step}
use Rattle.gauss_code.proofs.SoFar.{run-done}
use Rattle.gauss_code.proofs.Spellings.{end_of, is_gauss_end-gauss_spelled, run-gauss_spelled}

-- symbols that lead from a state to an end
completion : State → List Symbol
completion Start = GaussCode ∷ LeftBracket ∷ RightBracket ∷ []
completion Named = LeftBracket ∷ RightBracket ∷ []
completion Open = RightBracket ∷ []
completion BareNumber = RightBracket ∷ []
completion BareComma = Number (pos 0) ∷ RightBracket ∷ []
completion GroupOpen = RightBrace ∷ RightBracket ∷ []
completion GroupNumber = RightBrace ∷ RightBracket ∷ []
completion GroupComma = Number (pos 0) ∷ RightBrace ∷ RightBracket ∷ []
completion GroupEnd = RightBracket ∷ []
completion NextGroup = LeftBrace ∷ RightBrace ∷ RightBracket ∷ []
completion BodyEnd = []
completion SignsNamed = LeftBracket ∷ RightBracket ∷ []
completion SignsOpen = RightBracket ∷ []
completion SignNumber = RightBracket ∷ []
completion SignComma = Number (pos 0) ∷ RightBracket ∷ []
completion Done = []

-- they do
run-completion : (state : State) (body : Body) (numbers : List ℤ)
    → (end : GaussProgress) × (run gauss_advanced (gauss_progress state body numbers) (completion state) ≡ Some end) × (is_gauss_end end ≡ true)
unfolding completion
run-completion Start body numbers = (_, refl, refl)
run-completion Named body numbers = (_, refl, refl)
run-completion Open body numbers = (_, refl, refl)
run-completion BareNumber body numbers = (_, refl, refl)
run-completion BareComma body numbers = (_, refl, refl)
run-completion GroupOpen body numbers = (_, refl, refl)
run-completion GroupNumber body numbers = (_, refl, refl)
run-completion GroupComma body numbers = (_, refl, refl)
run-completion GroupEnd body numbers = (_, refl, refl)
run-completion NextGroup body numbers = (_, refl, refl)
run-completion BodyEnd body numbers = (_, refl, refl)
run-completion SignsNamed body numbers = (_, refl, refl)
run-completion SignsOpen body numbers = (_, refl, refl)
run-completion SignNumber body numbers = (_, refl, refl)
run-completion SignComma body numbers = (_, refl, refl)
run-completion Done body numbers = (_, refl, refl)

-- the machine reads the grammar
pub reads_grammar : ReadsGrammar IsGaussText gauss_advanced start is_gauss_end
reads_grammar = record {
  sound = λ symbols end ran done. (listing_read end, run-done symbols end ran done);
  whole = λ symbols text. (end_of text.0.body text.0.signs, ap (run gauss_advanced start) text.1 ∙ run-gauss_spelled text.0, is_gauss_end-gauss_spelled text.0);
  finish = λ progress.
      let end = run-completion progress.state progress.body progress.numbers in (completion progress.state, end.0, end.1, end.2);
}

-- the tokens up to one lead the machine to a progress
abbrev pub LeadsTo : List ℕ → List Token → GaussProgress → Type 0
LeadsTo text tokens progress = run gauss_advanced start (symbols_of text tokens) ≡ Some progress

-- the machine takes the symbol of one more token
pub LeadsTo-more : (progress : GaussProgress) (state next : State) (text : List ℕ) (tokens : List Token) (i : ℕ) (d : Token) (symbol : Symbol) → i < length tokens
    → LeadsTo text (take i tokens) progress → progress.state ≡ state → symbol ≡ symbol_of text (get_or tokens i d) → gauss_step state symbol ≡ Some next
    → LeadsTo text (take (i + 1) tokens) (entered next symbol progress)
LeadsTo-more progress state next text tokens i d symbol less ran is means steps =
    run-more gauss_advanced start progress (entered next symbol progress) text tokens i d less ran (rw (is, ← means, steps) refl)

-- or refuses it, and the tokens leave the grammar there
pub LeavesAt-refusal : (progress : GaussProgress) (state : State) (text : List ℕ) (tokens : List Token) (i : ℕ) (d : Token) (symbol : Symbol) → i < length tokens
    → LeadsTo text (take i tokens) progress → progress.state ≡ state → symbol ≡ symbol_of text (get_or tokens i d) → gauss_step state symbol ≡ None
    → LeavesAt IsGaussText text tokens (get_or tokens i d).place
LeavesAt-refusal progress state text tokens i d symbol less ran is means stops =
    LeavesAt-refused IsGaussText gauss_advanced start is_gauss_end reads_grammar progress text tokens i d less ran (rw (is, ← means, stops) refl)

-- all tokens are taken
LeadsTo-all : (progress : GaussProgress) (text : List ℕ) (tokens : List Token) (i : ℕ) → i ≡ length tokens → LeadsTo text (take i tokens) progress → LeadsTo text tokens progress
LeadsTo-all progress text tokens i all ran = subst (λ t. LeadsTo text t progress) (ap (λ n. take n tokens) all ∙ take-length tokens) ran

-- and the machine is not at an end: the tokens leave the grammar at the end of the text
pub LeavesAt-end : (progress : GaussProgress) (state : State) (text : List ℕ) (tokens : List Token) (i : ℕ) → i ≡ length tokens
    → LeadsTo text (take i tokens) progress → progress.state ≡ state → state ≢ BodyEnd → state ≢ Done → LeavesAt IsGaussText text tokens (length text)
LeavesAt-end progress state text tokens i all ran is no_body going =
    LeavesAt-early IsGaussText gauss_advanced start is_gauss_end reads_grammar progress text tokens
    (LeadsTo-all progress text tokens i all ran) (ap is_gauss_done is ∙ undone state no_body going)
  where
    undone : (state : State) → state ≢ BodyEnd → state ≢ Done → is_gauss_done state ≡ false
    undone BodyEnd no_body going = absurd (no_body refl)
    undone Done no_body going = absurd (going refl)
    undone _ no_body going = refl

-- or it is, and the tokens spell what it has read
pub symbols_of-end : (progress end : GaussProgress) (text : List ℕ) (tokens : List Token) (i : ℕ) → i ≡ length tokens
    → LeadsTo text (take i tokens) progress → end ≡ progress → is_gauss_end end ≡ true → symbols_of text tokens ≡ gauss_spelled (listing_read end)
symbols_of-end progress end text tokens i all ran is done =
    run-done (symbols_of text tokens) end (LeadsTo-all progress text tokens i all ran ∙ ap Some (sym is)) done
